use Rattle.dap_debug.proofs.Further.{one_unset}
use Rattle.dap_debug.proofs.breakpoints.refuse_all.Goals as goal

pub loop-preserved : goal.loop-preserved
loop-preserved c =
    one_unset _ c.loop.index _ _ _ _ _ c.loop-test.true c.loop-item.is c.in_ok-push.ensures.items
    c.loop.invariant c.in_ok-refused.ensures
