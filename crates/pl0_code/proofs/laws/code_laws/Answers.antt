use Rattle.pl0_code.proofs.OneCode.{coded_once}
use Rattle.pl0_code.proofs.laws.code_laws.Goals as goal

pub returns : goal.returns
returns c = record { one_code = coded_once }
