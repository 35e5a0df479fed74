use Rattle.dap_msg.proofs.Common.{map, stack_frame, take}
use Rattle.dap_msg.proofs.Pieces.{PutsFront}
use Rattle.dap_msg.proofs.answers.put_frames.Given as goal

abbrev pub invariant-loop-frame : goal.invariant-loop-frame
invariant-loop-frame l =
    PutsFront (map (stack_frame l.path) (take l.frame-index l.frames)) l.is_later l.initial.text l.text
