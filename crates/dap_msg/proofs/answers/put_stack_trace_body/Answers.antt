use Rattle.dap_msg.proofs.Common.{on_ok_weaker, rules, ◌<◌, ◌^◌}
use Rattle.dap_msg.proofs.Pieces.{frames_put}
use Rattle.dap_msg.proofs.answers.put_stack_trace_body.Goals as goal

pub returns : goal.returns
returns c =
    let below : c.args.total < 2 ^ 64 = search rules in
    on_ok_weaker c.put-3.result
    (frames_put c.args.path.now c.args.frames.now c.args.total _ _ _ _ _ _ below c.in_ok-put.ensures
    c.in_ok-put_frames.ensures c.in_ok-put-2.ensures c.in_ok-put_whole.ensures) c.put-3.ensures
