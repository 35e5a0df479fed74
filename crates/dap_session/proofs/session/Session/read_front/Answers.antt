use Rattle.std.proofs.Common.{subst}
use Rattle.dap_history.specs.Events.{IsInFront}
use Rattle.dap_session.proofs.Way.{front_read}
use Rattle.dap_session.proofs.session.Session.read_front.Goals as goal

pub returns-clause-ok : goal.returns-clause-ok
returns-clause-ok c =
    subst (λ s. IsInFront s.stream.dialect s.stream.rest c.in-Ok.request c.pass.new.self.rest) c.self.view_is
    (front_read _ _ c.content.result.now _ _ c.in-Ok.request c.content.ensures c.pass.ensures.frame c.in-Ok.ensures.ok)
