use Rattle.std.specs.Fmt.{digits}
use Rattle.std.specs.Prelude.{refl}
use Rattle.stack_language.proofs.laws.worked_steps.Goals as goal

pub returns-clause-moved : goal.returns-clause-moved
returns-clause-moved c = refl

pub returns-clause-calculated : goal.returns-clause-calculated
returns-clause-calculated c = refl

pub returns-clause-rounded : goal.returns-clause-rounded
returns-clause-rounded c = refl

pub returns-clause-lines : goal.returns-clause-lines
returns-clause-lines c = refl

pub returns-clause-zero : goal.returns-clause-zero
returns-clause-zero c = refl

pub returns-clause-missing : goal.returns-clause-missing
returns-clause-missing c = refl

pub returns-clause-overflow : goal.returns-clause-overflow
returns-clause-overflow c = (refl, refl, refl)

pub returns-clause-room : goal.returns-clause-room
returns-clause-room c = (refl, refl)

pub returns-clause-steps : goal.returns-clause-steps
returns-clause-steps c = refl

pub returns-clause-told : goal.returns-clause-told
unfolding digits
returns-clause-told c = refl
