use Rattle.dap_msg.proofs.Common.{body_data, codes, response_end, string, true}
use Rattle.dap_msg.proofs.Pieces.{content_put, both_ok}
use Rattle.dap_msg.proofs.answers.success_content.Goals as goal

pub returns : goal.returns
returns c =
    both_ok c.finish.result _ _ _
    (λ bytes is utf8. content_put (body_data c.args.body.now) (codes "command") (string c.args.command.now)
    (response_end c.args.request_seq c.args.seq true) _ _ _ bytes.items c.new-text.ensures c.in_ok-put_body.ensures
    c.in_ok-put_end.ensures is utf8) c.finish.ensures.bytes c.finish.ensures.utf8
