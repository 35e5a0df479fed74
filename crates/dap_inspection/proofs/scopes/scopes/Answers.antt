use Rattle.std.proofs.Common.{◌≡◌, ◌∙◌, subst, Some}
use Rattle.pl0_machine.specs.Machine.{program, frames}
use Rattle.dbg_plan.specs.Debugged.{machine_of}
use Rattle.dap_inspection.specs.Alive.{NamesFrame}
use Rattle.dap_inspection.proofs.AliveFrames.{not_none}
use Rattle.dap_inspection.proofs.FrameById.{scopes_with_id}
use Rattle.dap_inspection.proofs.scopes.scopes.Goals as goal

pub returns-clause-replies : goal.returns-clause-replies
returns-clause-replies c of same =
    let m = machine_of c.args.debuggee.now in
    let is : c.machine-machine.result.now ≡ m = c.machine-machine.ensures in
    scopes_with_id of (program m) (frames m) c.args.asked.frame_id c.in-Some.frame c.new.result same
    (subst (λ s. NamesFrame (frames s) c.args.asked.frame_id (Some c.in-Some.frame)) is c.in-Some.ensures)
    (rw is at (c.new.ensures ∙ c.in_ok-scopes.ensures))

pub returns-in_err-scopes-clause-enough : goal.returns-in_err-scopes-clause-enough
returns-in_err-scopes-clause-enough c none =
    absurd (not_none _ c.args.asked.frame_id c.in-Some.frame (rw c.machine-machine.ensures at c.in-Some.ensures) none)
