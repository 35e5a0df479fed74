use Rattle.std.proofs.Common.{◌+◌, sym, subst}
use Rattle.dbg_plan.specs.Table.{AreCountersOf, AreCounters}
use Rattle.dbg_plan.proofs.Counters.{pushed}
use Rattle.dbg_plan.proofs.table.counters_of.Goals as goal

pub loop-step-preserved : goal.loop-step-preserved
loop-step-preserved c =
    let ordered = c.args.ordered.now in
    let step = c.loop-step.step in
    let part = c.requires.parts step c.loop-step-test.true in
    subst (λ l. AreCounters ordered (step + 1) l) (sym c.in_ok-push.ensures.items)
    (pushed ordered step c.loop-step.counters.items c.in_ok-of_step.of_step c.loop-step.invariant
    (subst (λ l. AreCountersOf l c.in_ok-of_step.of_step.items) part.holds c.in_ok-of_step.ensures))
