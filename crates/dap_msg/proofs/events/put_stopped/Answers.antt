use Rattle.dap_msg.proofs.Common.{on_ok_weaker}
use Rattle.dap_msg.proofs.Pieces.{stopped_put}
use Rattle.dap_msg.proofs.events.put_stopped.Goals as goal

pub returns : goal.returns
returns c =
    on_ok_weaker c.put_stop_end.result
    (stopped_put c.args.reason _ _ _ _ c.in_ok-put.ensures (rw c.text.ensures at c.in_ok-put_escaped.ensures))
    c.put_stop_end.ensures
