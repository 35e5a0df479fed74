use Rattle.std.proofs.Common.{◌≡◌, ◌+◌, length, map}
use Rattle.dap_bodies.specs.Bodies.{plain_shown_frame}
use Rattle.dap_debug.specs.Inspecting.{ShowFrames}
use Rattle.dap_debug.proofs.inspecting.stack_trace.Given as goal

abbrev pub invariant-loop-index : goal.invariant-loop-index
invariant-loop-index g l =
    ShowFrames g.L.Language.shows.frame_of l.counting l.path l.program l.first (map plain_shown_frame l.frames.items)
    × (length (map plain_shown_frame l.frames.items) + l.first ≡ l.index)
