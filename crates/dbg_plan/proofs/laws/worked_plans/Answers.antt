use Rattle.std.specs.Fmt.{digits}
use Rattle.std.specs.Prelude.{refl}
use Rattle.dbg_plan.proofs.laws.worked_plans.Goals as goal

pub returns-clause-conditions : goal.returns-clause-conditions
returns-clause-conditions c = refl

pub returns-clause-others : goal.returns-clause-others
returns-clause-others c = refl

pub returns-clause-newest : goal.returns-clause-newest
returns-clause-newest c = (refl, refl, refl, refl)

pub returns-clause-rules : goal.returns-clause-rules
returns-clause-rules c = refl

pub returns-clause-counted : goal.returns-clause-counted
returns-clause-counted c = refl

pub returns-clause-begins : goal.returns-clause-begins
returns-clause-begins c = (refl, refl, refl)

pub returns-clause-messages : goal.returns-clause-messages
returns-clause-messages c = refl

pub returns-clause-modes : goal.returns-clause-modes
returns-clause-modes c = refl

pub returns-clause-depths : goal.returns-clause-depths
returns-clause-depths c = refl

pub returns-clause-logs : goal.returns-clause-logs
returns-clause-logs c = refl

pub returns-clause-texts : goal.returns-clause-texts
unfolding digits
returns-clause-texts c = refl

pub returns-clause-log_counts : goal.returns-clause-log_counts
unfolding digits
returns-clause-log_counts c = refl

pub returns-clause-log_newest : goal.returns-clause-log_newest
unfolding digits
returns-clause-log_newest c = refl

pub returns-clause-lines : goal.returns-clause-lines
returns-clause-lines c = refl

pub returns-clause-back : goal.returns-clause-back
returns-clause-back c = refl

pub returns-clause-checkpoints : goal.returns-clause-checkpoints
returns-clause-checkpoints c = (refl, refl, refl, refl)

pub returns-clause-floors : goal.returns-clause-floors
returns-clause-floors c = refl
