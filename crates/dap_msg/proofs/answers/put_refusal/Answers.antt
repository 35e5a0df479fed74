use Rattle.dap_msg.proofs.Common.{on_ok_weaker, rules, ◌<◌, ◌^◌}
use Rattle.dap_msg.proofs.Pieces.{refused_put}
use Rattle.dap_msg.proofs.answers.put_refusal.Goals as goal

pub returns : goal.returns
returns c =
    let below : c.args.request_seq < 2 ^ 64 = search rules in
    let next_below : c.args.seq < 2 ^ 64 = search rules in
    on_ok_weaker c.put-3.result
    (refused_put c.args.message.now c.args.command.now c.args.request_seq c.args.seq _ _ _ _ _ _ _ below next_below
    c.in_ok-put.ensures c.in_ok-put_escaped.ensures c.in_ok-put-2.ensures c.in_ok-put_escaped-2.ensures
    c.in_ok-put_numbers.ensures) c.put-3.ensures
