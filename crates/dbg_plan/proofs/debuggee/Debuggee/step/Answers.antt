use Rattle.std.proofs.Common.{◌≡◌, ◌+◌, sym, subst}
use Rattle.dbg_plan.specs.Debugged.{Debugged, machine_of, IsRunning}
use Rattle.dbg_plan.specs.Counts.{IsCounting, next_of}
use Rattle.dbg_plan.proofs.Stepping.{after_fault, not_fault}
use Rattle.dbg_plan.proofs.debuggee.Debuggee.step.Goals as goal
use Rattle.dbg_plan.proofs.debuggee.Debuggee.step.Goals.{in-Fault, in_default}

pub invariant_of-self : goal.invariant_of-self
invariant_of-self c =
    let behind : next_of c.self.inside ≡ c.self.inside.machine.position + 1 =
    subst (λ (d : Debugged). d.next ≡ d.position + 1) (sym c.self.view_is) c.requires.behind in
    let running : IsRunning c.self.inside.machine =
    subst (λ (d : Debugged). IsRunning (machine_of d)) (sym c.self.view_is) c.requires.running in
    elim c.match-matches.branch [
      | in-Fault w ↦ subst (λ b. IsCounting
          (record c.self.inside { machine = c.step-outcome.new.self; considered = b })) (sym w.self-is)
          (after_fault c.self.inside c.self.invariant c.step-outcome.new.self c.step-outcome.result
          c.step-outcome.ensures behind _ w.in-Fault.is running)
      | in_default w ↦ subst (λ b. IsCounting
          (record c.self.inside { machine = c.step-outcome.new.self; considered = b })) (sym w.self-is)
          (not_fault c.self.inside c.self.invariant c.step-outcome.new.self c.step-outcome.result c.step-outcome.ensures
          behind w.in_default.not-Fault)
    ]
