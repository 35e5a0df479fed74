use Rattle.std.proofs.Common.{◌≡◌, ◌∙◌, subst, Some}
use Rattle.pl0_machine.specs.Machine.{frames}
use Rattle.dbg_plan.specs.Debugged.{machine_of}
use Rattle.dap_inspection.specs.Alive.{NamesFrame}
use Rattle.dap_inspection.proofs.AliveFrames.{not_none}
use Rattle.dap_inspection.proofs.FrameVariables.{shown}
use Rattle.dap_inspection.proofs.variables.variables.Goals as goal

pub returns-clause-replies : goal.returns-clause-replies
returns-clause-replies c of same =
    let m = machine_of c.args.debuggee.now in
    let is : c.machine-machine.result.now ≡ m = c.machine-machine.ensures in
    shown of _ _ _ _ _ _ same (subst (λ s. NamesFrame (frames s) c.args.asked.variables_reference (Some
    c.in-Some.frame)) is c.in-Some.ensures) (rw is at c.declared_names-names.ensures.names) (rw is at (c.new.ensures
    ∙ c.in_ok-list.ensures))

pub returns-in_err-list-clause-enough : goal.returns-in_err-list-clause-enough
returns-in_err-list-clause-enough c none =
    absurd (not_none _ _ _ (rw c.machine-machine.ensures at c.in-Some.ensures) none)
