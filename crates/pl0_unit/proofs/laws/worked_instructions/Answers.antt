use Rattle.std.proofs.Common.{refl}
use Rattle.std.specs.Fmt.{digits}
use Rattle.pl0_unit.proofs.laws.worked_instructions.Goals as goal

pub returns-clause-operations : goal.returns-clause-operations
unfolding digits
returns-clause-operations c = refl

pub returns-clause-others : goal.returns-clause-others
unfolding digits
returns-clause-others c = refl
