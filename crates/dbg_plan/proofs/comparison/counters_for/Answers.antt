use Rattle.dbg_plan.proofs.Counters.{counter_pushed}
use Rattle.dbg_plan.proofs.comparison.counters_for.Goals as goal

pub loop-breakpoint-preserved : goal.loop-breakpoint-preserved
loop-breakpoint-preserved c =
    counter_pushed c.args.breakpoints.now c.loop-breakpoint.counters.items c.push.new.self.items
    c.loop-breakpoint.breakpoint-index c.breakpoint-item.result c.in_ok-counter.counter c.loop-breakpoint.invariant.0
    c.loop-breakpoint-test.true c.breakpoint-item.is c.in_ok-push.ensures.items c.in_ok-counter.ensures
    c.loop-breakpoint.invariant.1
