use Rattle.dap_msg.proofs.Common.{refused_value, refusal_text}
use Rattle.dap_msg.proofs.Pieces.{value_is_content, both_ok}
use Rattle.dap_msg.proofs.answers.refusal_content.Goals as goal

pub returns : goal.returns
returns c =
    both_ok c.finish.result _ _ _
    (λ bytes is utf8. value_is_content (refused_value (refusal_text c.args.refusal) c.args.request_seq
    c.args.command.now c.args.seq) _ _ bytes.items c.new-text.ensures
    (rw (c.as_str.ensures.value, c.in_ok-message.ensures) at c.in_ok-put_refusal.ensures) is utf8)
    c.finish.ensures.bytes c.finish.ensures.utf8
