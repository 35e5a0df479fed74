use Rattle.dap_msg.proofs.Common.{on_ok_weaker}
use Rattle.dap_msg.proofs.Pieces.{log_put}
use Rattle.dap_msg.proofs.events.put_log.Goals as goal

pub returns : goal.returns
returns c =
    on_ok_weaker c.put-2.result (log_put c.args.log.now _ _ _ _ c.in_ok-put.ensures c.in_ok-put_escaped.ensures)
    c.put-2.ensures
