use Rattle.dap_msg.proofs.Common.{on_ok_weaker, rules, ◌<◌, ◌^◌}
use Rattle.dap_msg.proofs.Pieces.{event_end_put}
use Rattle.dap_msg.proofs.events.put_end.Goals as goal

pub returns : goal.returns
returns c =
    let below : c.args.seq < 2 ^ 64 = search rules in
    on_ok_weaker c.put-3.result
    (event_end_put c.args.name.now c.args.seq _ _ _ _ _ _ below c.in_ok-put.ensures c.in_ok-put_escaped.ensures
    c.in_ok-put-2.ensures c.in_ok-put_whole.ensures) c.put-3.ensures
