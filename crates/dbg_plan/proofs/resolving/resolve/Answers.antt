use Rattle.std.proofs.Common.{arith, ap}
use Rattle.pl0_machine.specs.Machine.{program_of}
use Rattle.dbg_plan.specs.Plans.{Listed}
use Rattle.dbg_plan.proofs.Lines.{one_more, plan_is, breakpoints_are}
use Rattle.dbg_plan.proofs.StepLines.{unit_length}
use Rattle.dbg_plan.proofs.Watching.{are_within}
use Rattle.dbg_plan.proofs.resolving.resolve.Goals as goal

pub loop-line-preserved : goal.loop-line-preserved
loop-line-preserved c =
    one_more (program_of c.args.unit.now) c.args.asked.now c.loop-line.line-index _ c.loop-line.resolutions.items _
    c.loop-line.breakpoints.items _ c.in_ok-resolution.resolution c.loop-line-test.true c.loop-line.invariant
    c.in_ok-resolution.ensures c.in_ok-push.ensures.items

pub new-requires-clause-within : goal.new-requires-clause-within
new-requires-clause-within c =
    are_within (program_of c.args.unit.now) c.len.result c.loop-line.breakpoints.items
    (omega (arith, unit_length c.args.unit.now, c.args.unit.now.steps.ok, c.len.ensures))
    c.loop-line.invariant.placed

pub returns-clause-plan : goal.returns-clause-plan
returns-clause-plan c =
    plan_is c.args.unit.now c.len.result c.loop-line.breakpoints.items c.deref.result.now c.in_ok-plan.plan
    c.in_ok-plan.ensures c.deref.ensures.value
    (omega (arith, unit_length c.args.unit.now, c.args.unit.now.steps.ok, c.len.ensures))
    c.loop-line.invariant.placed

pub returns-clause-breakpoints : goal.returns-clause-breakpoints
returns-clause-breakpoints c =
    breakpoints_are (program_of c.args.unit.now) c.args.asked.now c.loop-line.line-index c.loop-line.resolutions.items
    c.loop-line.breakpoints.items c.in_ok-plan.plan c.loop-line.invariant (omega (arith, c.requires))
    (ap (λ (p : Listed). p.breakpoints) c.in_ok-plan.ensures)
