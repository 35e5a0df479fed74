use Rattle.dap_msg.proofs.Common.{on_ok_weaker, rules, ◌<◌, ◌^◌}
use Rattle.dap_msg.proofs.Pieces.{exited_put}
use Rattle.dap_msg.proofs.events.put_exited.Goals as goal

pub returns : goal.returns
returns c =
    let below : c.args.code < 2 ^ 64 = search rules in
    on_ok_weaker c.put-2.result
    (exited_put c.args.code _ _ _ _ below c.in_ok-put.ensures (rw c.from.ensures at c.in_ok-put_whole.ensures))
    c.put-2.ensures
