use Rattle.std.proofs.Common.{◌≡◌, take}
use Rattle.pl0_machine.specs.Machine.{program, frames}
use Rattle.dap_inspection.specs.Questions.{counting_of}
use Rattle.dap_inspection.proofs.AskedFrames.{rest_of}
use Rattle.dap_inspection.proofs.stack_trace.asked_frames.Given as goal

abbrev pub invariant-loop-index : goal.invariant-loop-index
invariant-loop-index l =
    l.shown.items ≡ take l.index (rest_of (program l.machine) (counting_of l.settings) (frames l.machine)
    l.fn.asked.start_frame)
