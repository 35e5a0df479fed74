use Rattle.dap_debug.proofs.Further.{one_set}
use Rattle.dap_debug.proofs.breakpoints.set_all.Goals as goal

pub loop-one-preserved : goal.loop-one-preserved
loop-one-preserved g c =
    one_set g.L.Language.shows c.args.less c.args.program.now _ c.loop-one.one-index _ _ _ _ _ _ _ c.loop-one-test.true
    c.one-item.is c.in_ok-push.ensures.items c.in_ok-keep.ensures c.loop-one.invariant c.in_ok-breakpoint.ensures
