use Rattle.pl0_machine.specs.Machine.{program, frames, frame_of}
use Rattle.dbg_plan.specs.Debugged.{machine_of}
use Rattle.dap_inspection.specs.Alive.{IsAlive}
use Rattle.dap_inspection.specs.Evaluate.{IsReadIn}
use Rattle.dap_inspection.proofs.AliveFrames.{not_none}
use Rattle.dap_inspection.proofs.FrameReadings.{refuses, answers}
use Rattle.dap_inspection.proofs.evaluate.evaluate.Goals as goal
use Rattle.dap_inspection.proofs.evaluate.evaluate.Goals.{In_ok-read}
use Rattle.std.proofs.Common.{arith}
use Rattle.std.proofs.lemmas.Grind.{common_steps}

alive : (c : In_ok-read) → IsAlive (frames (machine_of c.args.debuggee.now)) c.args.asked.now.frame_id c.in-Some.frame
alive c = rw c.machine-machine.ensures at c.in-Some.ensures

reads : (c : In_ok-read) → IsReadIn (program (machine_of c.args.debuggee.now))
    (frame_of (machine_of c.args.debuggee.now) c.in-Some.frame) c.args.asked.now.expression c.in_ok-read.read
reads c = rw (c.machine-machine.ensures, c.as_str.ensures) at c.in_ok-read.ensures

pub returns-in_default-read-clause-replies : goal.returns-in_default-read-clause-replies
returns-in_default-read-clause-replies c of same = grind (arith, common_steps, refuses, alive, reads)

pub returns-clause-replies : goal.returns-clause-replies
returns-clause-replies c of same =
    let m = machine_of c.args.debuggee.now in
    let at = (goal.at.returns-clause-replies c).In_ok-read in
    rw same (answers _ _ _ _ _ (alive at) _ _ _ (rw c.in-Some-read.is at (reads at)) c.evaluate.ensures
    c.answer_of.ensures)

pub returns-in_err-read-clause-enough : goal.returns-in_err-read-clause-enough
returns-in_err-read-clause-enough c none =
    absurd (not_none _ _ _ (rw c.machine-machine.ensures at c.in-Some.ensures) none)
