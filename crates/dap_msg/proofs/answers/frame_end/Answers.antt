use Rattle.dap_msg.proofs.Pieces.{frame_end_put}
use Rattle.dap_msg.proofs.answers.frame_end.Goals as goal

pub returns : goal.returns
returns c =
    rw (frame_end_put c.args.path.now _ _ _ _ c.requires c.in_ok-put.ensures c.in_ok-put_escaped.ensures
    c.in_ok-put-2.ensures) at c.into_text.ensures
