use Rattle.dap_msg.proofs.Common.{event_body, event_name, codes, no_members, member, number, string, unsigned}
use Rattle.dap_msg.proofs.Pieces.{content_put, both_ok}
use Rattle.dap_msg.proofs.events.event_content.Goals as goal

pub returns : goal.returns
returns c =
    both_ok c.finish.result _ _ _
    (λ bytes is utf8. content_put (event_body c.args.event.now) (codes "event") (string (event_name c.args.event.now))
    (member (codes "seq") (number (unsigned c.args.seq)) (member (codes "type") (string (codes "event")) no_members))
    _ _ _ bytes.items c.new-text.ensures c.in_ok-put_body.ensures (rw c.name.ensures at c.in_ok-put_end.ensures) is
    utf8) c.finish.ensures.bytes c.finish.ensures.utf8
