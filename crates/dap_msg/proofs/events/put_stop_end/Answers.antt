use Rattle.dap_msg.proofs.Common.{on_ok_weaker}
use Rattle.dap_msg.proofs.Pieces.{exception_put, other_stop}
use Rattle.dap_msg.proofs.events.put_stop_end.Goals as goal

pub returns-in_ok-put_escaped-in-Exception : goal.returns-in_ok-put_escaped-in-Exception
returns-in_ok-put_escaped-in-Exception c =
    rw c.in-Exception.is (on_ok_weaker c.put-in-Exception.result
    (exception_put c.in-Exception.exception _ _ _ _ c.in_ok-put-in-Exception.ensures
    (rw c.text.ensures at c.in_ok-put_escaped-in-Exception.ensures)) c.put-in-Exception.ensures)

pub returns-in_default : goal.returns-in_default
returns-in_default c = rw (other_stop c.args.reason c.in_default.not-Exception) c.put-in_default.ensures
