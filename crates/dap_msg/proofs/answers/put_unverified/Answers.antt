use Rattle.dap_msg.proofs.Common.{on_ok_weaker}
use Rattle.dap_msg.proofs.Pieces.{unverified_put}
use Rattle.dap_msg.proofs.answers.put_unverified.Goals as goal

pub returns : goal.returns
returns c =
    on_ok_weaker c.put-2.result
    (unverified_put c.args.why _ _ _ _ c.in_ok-put.ensures (rw c.message.ensures at c.in_ok-put_escaped.ensures))
    c.put-2.ensures
