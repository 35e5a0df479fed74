use Rattle.dap_msg.proofs.Common.{map, take}
use Rattle.dap_msg.proofs.Pieces.{PutsFront}
use Rattle.dap_msg.proofs.answers.put_list.Given as goal

abbrev pub invariant-loop-one : goal.invariant-loop-one
invariant-loop-one g l =
    PutsFront (map g.T.Written.value (take l.one-index l.all)) l.is_later l.initial.text l.text
