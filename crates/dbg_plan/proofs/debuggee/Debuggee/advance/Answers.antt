use Rattle.std.proofs.Common.{◌≡◌, ◌∙◌, ◌+◌, sym, subst, ap}
use Rattle.pl0_meaning.specs.declared.RunFault.{RunFault}
use Rattle.pl0_machine.specs.declared.outcome.StepOutcome.{StepOutcome}
use Rattle.pl0_machine.specs.declared.outcome.StepOutcome.TheVariants.{Done, Fault}
use Rattle.dbg_plan.specs.Counts.{IsCounting}
use Rattle.dbg_plan.specs.Debugged.{Debugged}
use Rattle.dbg_plan.specs.Advances.{considered_at}
use Rattle.dbg_plan.proofs.Further.{stays_counting, led}
use Rattle.dbg_plan.proofs.Stepping.{went_on, stays_there, not_fault}
use Rattle.dbg_plan.proofs.debuggee.Debuggee.advance.Goals as goal

pub count_position-hit-requires-clause-running : goal.count_position-hit-requires-clause-running
count_position-hit-requires-clause-running c =
    (went_on c.self.inside.machine c.step.new.self c.step.result c.step.ensures _ c.in-Went.is).1

pub invariant_of-self : goal.invariant_of-self
invariant_of-self c =
    let behind = subst (λ (d : Debugged). d.next ≡ d.position + 1) (sym c.self.view_is) c.requires.considered.behind in
    stays_counting c.self.inside c.self.invariant behind c.step.new.self
    (went_on c.self.inside.machine c.step.new.self c.step.result c.step.ensures _ c.in-Went.is).0
    (went_on c.self.inside.machine c.step.new.self c.step.result c.step.ensures _ c.in-Went.is).1
    c.count_position-hit.new.counts c.count_position-hit.result c.count_position-hit.new.logs
    c.count_position-hit.ensures
    (c.count_position-hit.auto.counts ∙ c.self.invariant.room)

pub returns-after-written-clause-led : goal.returns-after-written-clause-led
returns-after-written-clause-led c =
    let behind = subst (λ (d : Debugged). d.next ≡ d.position + 1) (sym c.self.view_is) c.requires.considered.behind in
    let there =
    led c.self.inside c.self.invariant behind c.step.new.self
    (went_on c.self.inside.machine c.step.new.self c.step.result c.step.ensures _ c.in-Went.is).0
    (went_on c.self.inside.machine c.step.new.self c.step.result c.step.ensures _ c.in-Went.is).1
    c.count_position-hit.new.counts c.count_position-hit.result c.count_position-hit.new.logs
    c.count_position-hit.ensures c.args.mode c.reason_here.result c.reason_here.ensures in
    (there.0 ∙ ap (λ (d : Debugged). considered_at d (d.position + 1)) c.self.view_is, there.1, there.2, there.3)

pub invariant_of-self-in-Done : goal.invariant_of-self-in-Done
invariant_of-self-in-Done c =
    let behind = subst (λ (d : Debugged). d.next ≡ d.position + 1) (sym c.self.view_is) c.requires.considered.behind in
    not_fault c.self.inside c.self.invariant c.step.new.self c.step.result c.step.ensures behind
    (λ fault other. done_goes c.step.result fault c.in-Done.is other)
  where
    done_goes : (result : StepOutcome) (fault : RunFault) → result ≡ Done → result ≡ Fault fault → ⊥
    done_goes result fault done other = cc

pub invariant_of-self-in-Fault : goal.invariant_of-self-in-Fault
invariant_of-self-in-Fault c =
    subst (λ m. IsCounting (record c.self.inside { machine = m }))
    (sym (stays_there c.self.inside.machine c.step.new.self c.step.result c.step.ensures c.in-Fault.fault
    c.in-Fault.is)) c.self.invariant
