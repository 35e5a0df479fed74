use Rattle.std.proofs.Common.{map, take}
use Rattle.dap_bodies.specs.Bodies.{plain_shown_breakpoint}
use Rattle.serde_json.specs.View.{items_view}
use Rattle.debuggee.specs.Plain.{plain_breakpoint}
use Rattle.dap_debug.specs.Breakpoints.{AreSet}
use Rattle.dap_debug.proofs.breakpoints.set_all.Given as goal

abbrev pub invariant-loop-one : goal.invariant-loop-one
invariant-loop-one g l =
    AreSet g.L.Language.shows l.less l.program (items_view (take l.one-index l.asked))
    (map plain_shown_breakpoint l.answers.items) (map plain_breakpoint l.breakpoints.items)
