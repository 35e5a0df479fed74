use Rattle.dap_msg.proofs.Common.{on_ok_weaker, rules, ◌<◌, ◌^◌}
use Rattle.dap_msg.proofs.Pieces.{verified_put}
use Rattle.dap_msg.proofs.answers.put_verified.Goals as goal

pub returns : goal.returns
returns c =
    let below : c.args.line < 2 ^ 64 = search rules in
    on_ok_weaker c.put-2.result
    (verified_put c.args.line _ _ _ _ below c.in_ok-put.ensures c.in_ok-put_whole.ensures) c.put-2.ensures
