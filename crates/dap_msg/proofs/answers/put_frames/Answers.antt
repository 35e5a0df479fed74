use Rattle.dap_msg.proofs.Common.{PutsValue, stack_frame, subst, ◌∙◌}
use Rattle.dap_msg.proofs.Pieces.{item_put, each_put}
use Rattle.dap_msg.proofs.answers.put_frames.Goals as goal

pub loop-frame-preserved : goal.loop-frame-preserved
loop-frame-preserved c =
    item_put (stack_frame c.args.path.now) c.args.frames.now c.loop-frame.frame-index c.frame-item.result
    c.loop-frame.is_later _ c.loop-frame.text _ _ c.loop-frame-test.true c.loop-frame.invariant
    c.in_ok-put_comma_if.ensures
    (subst (λ x. PutsValue (stack_frame c.args.path.now x) c.put_comma_if.new.self c.put_frame.new.text) c.frame-item.is
    (c.in_ok-put_frame.ensures c.args.path.now (c.as_str.ensures.value ∙ c.in_ok-end.ensures)))

pub returns : goal.returns
returns c =
    each_put (stack_frame c.args.path.now) c.args.frames.now c.loop-frame.frame-index c.loop-frame.is_later _ _
    c.loop-frame-test.false c.loop-frame.invariant
