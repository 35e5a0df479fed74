use Rattle.std.proofs.Common.{◌≡◌, map, take}
use Rattle.dbg_plan.specs.Table.{has_part}
use Rattle.dbg_plan.proofs.table.marked_of.Given as goal

abbrev pub invariant-loop-step : goal.invariant-loop-step
invariant-loop-step l = l.marked.items ≡ map (has_part l.starts) (take l.step-index l.begun_steps)
