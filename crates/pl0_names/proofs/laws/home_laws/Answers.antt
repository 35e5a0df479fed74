use Rattle.pl0_names.proofs.Earlier.{declared_before}
use Rattle.pl0_names.proofs.laws.home_laws.Goals as goal

pub returns : goal.returns
returns c = λ n. declared_before
