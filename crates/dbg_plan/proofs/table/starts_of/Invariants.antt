use Rattle.dbg_plan.proofs.Parts.{Reached}
use Rattle.dbg_plan.proofs.table.starts_of.Given as goal

abbrev pub invariant-loop-step : goal.invariant-loop-step
invariant-loop-step l = Reached l.ordered l.step l.starts.items l.start
