use Rattle.std.proofs.Common.{◌∙◌}
use Rattle.dap_session.proofs.session.Session.send.Goals as goal

pub returns-clause-sent : goal.returns-clause-sent
returns-clause-sent g c = λ past step seq is.
    let sent = c.in_ok-send_messages.ensures.sent past step seq is in
    (sent.0, sent.1, c.take_over.ensures.next_seq ∙ sent.2)
