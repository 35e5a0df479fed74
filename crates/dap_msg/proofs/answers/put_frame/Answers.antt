use Rattle.dap_msg.proofs.Common.{FrameFits, on_ok_weaker, rules}
use Rattle.dap_msg.proofs.Pieces.{frame_put}
use Rattle.dap_msg.proofs.answers.put_frame.Goals as goal

pub returns : goal.returns
returns c path is =
    let fits : FrameFits c.args.frame.now = search rules in
    on_ok_weaker c.put-5.result
    (frame_put path c.args.end.now c.args.frame.now _ _ _ _ _ _ _ _ _ _ fits is c.in_ok-put.ensures
    c.in_ok-put_whole.ensures c.in_ok-put-2.ensures c.in_ok-put_whole-2.ensures c.in_ok-put-3.ensures
    c.in_ok-put_whole-3.ensures c.in_ok-put-4.ensures (rw c.as_str.ensures at c.in_ok-put_escaped.ensures))
    c.put-5.ensures
