use Rattle.dap_msg.proofs.Common.{on_ok_weaker}
use Rattle.dap_msg.proofs.Pieces.{numbers_put}
use Rattle.dap_msg.proofs.answers.put_numbers.Goals as goal

pub returns : goal.returns
returns c =
    on_ok_weaker c.put_whole-2.result
    (numbers_put c.args.request_seq c.args.seq _ _ _ _ _ c.in_ok-put.ensures c.in_ok-put_whole.ensures
    c.in_ok-put-2.ensures) c.put_whole-2.ensures
