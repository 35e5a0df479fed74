use Rattle.dap_debug.proofs.Further.{one_frame}
use Rattle.dap_debug.proofs.inspecting.stack_trace.Goals as goal

pub loop-index-preserved : goal.loop-index-preserved
loop-index-preserved g c =
    one_frame g.L.Language.shows.frame_of c.args.counting c.args.path.now c.args.program.now _ c.loop-index.index _ _ _
    c.in_ok-push.ensures.items c.loop-index.invariant.0 c.loop-index.invariant.1 c.in_ok-frame.ensures
