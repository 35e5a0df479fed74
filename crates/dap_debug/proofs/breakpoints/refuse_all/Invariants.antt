use Rattle.std.proofs.Common.{map, take}
use Rattle.dap_bodies.specs.Bodies.{plain_shown_breakpoint}
use Rattle.serde_json.specs.View.{items_view}
use Rattle.dap_debug.specs.Breakpoints.{AreUnset}
use Rattle.dap_debug.proofs.breakpoints.refuse_all.Given as goal

abbrev pub invariant-loop : goal.invariant-loop
invariant-loop l = AreUnset (items_view (take l.index l.asked)) (map plain_shown_breakpoint l.answers.items)
