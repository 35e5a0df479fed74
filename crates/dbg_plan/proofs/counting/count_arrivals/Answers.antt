use Rattle.std.proofs.Common.{refl}
use Rattle.dbg_plan.proofs.Walk.{walked_on}
use Rattle.dbg_plan.proofs.counting.count_arrivals.Goals as goal

pub loop-breakpoint-preserved : goal.loop-breakpoint-preserved
loop-breakpoint-preserved c =
    walked_on c.args.machine.now c.args.breakpoints.now c.args.counts.now c.args.logs.now
    c.loop-breakpoint.breakpoint-index c.loop-breakpoint.counts c.loop-breakpoint.stops c.loop-breakpoint.logs
    c.breakpoint-item.result c.meet-stops.new.counts c.meet-stops.result _ c.meet-stops.new.logs
    c.loop-breakpoint.invariant c.loop-breakpoint-test.true c.breakpoint-item.is c.meet-stops.ensures.counts
    c.meet-stops.auto.counts c.meet-stops.ensures.stops refl c.meet-stops.ensures.logs
