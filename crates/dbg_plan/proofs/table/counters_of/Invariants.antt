use Rattle.dbg_plan.specs.Table.{AreCounters}
use Rattle.dbg_plan.proofs.table.counters_of.Given as goal

abbrev pub invariant-loop-step : goal.invariant-loop-step
invariant-loop-step l = AreCounters l.ordered l.step l.counters.items
