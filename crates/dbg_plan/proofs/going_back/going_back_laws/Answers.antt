use Rattle.dbg_plan.proofs.Trails.{trails_are_short, trails_ascend}
use Rattle.dbg_plan.proofs.Retreats.{last_due_is_last}
use Rattle.dbg_plan.proofs.going_back.going_back_laws.Goals as goal

pub returns-clause-short : goal.returns-clause-short
returns-clause-short c = trails_are_short

pub returns-clause-ascend : goal.returns-clause-ascend
returns-clause-ascend c = trails_ascend

pub returns-clause-last_due : goal.returns-clause-last_due
returns-clause-last_due c = last_due_is_last
