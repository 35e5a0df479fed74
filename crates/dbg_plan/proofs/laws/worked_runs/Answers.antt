use Rattle.std.specs.Prelude.{refl}
use Rattle.dbg_plan.proofs.laws.worked_runs.Goals as goal

pub returns-clause-zero : goal.returns-clause-zero
returns-clause-zero c = refl

pub returns-clause-frames : goal.returns-clause-frames
returns-clause-frames c = refl

pub returns-clause-next_steps : goal.returns-clause-next_steps
returns-clause-next_steps c = refl

pub returns-clause-names : goal.returns-clause-names
returns-clause-names c = (refl, refl)

pub returns-clause-quotients : goal.returns-clause-quotients
returns-clause-quotients c = refl

pub returns-clause-operations : goal.returns-clause-operations
returns-clause-operations c = refl

pub returns-clause-truths : goal.returns-clause-truths
returns-clause-truths c = (refl, refl)

pub returns-clause-ends : goal.returns-clause-ends
returns-clause-ends c = (refl, refl, refl, refl, refl, refl)
