use Rattle.std.proofs.Common.{None, Ok, sym, ◌∙◌}
use Rattle.dap_session.proofs.Items.{skips}
use Rattle.dap_session.proofs.Requests.{content_of_item, no_request_wanted}
use Rattle.dap_history.specs.Readings.{situation}
use Rattle.dap_history.specs.Events.{IsTaking}
use Rattle.dap_session.proofs.session.Session.take_content.Goals as goal

pub returns-in-None-clause-comes : goal.returns-in-None-clause-comes
returns-in-None-clause-comes g c = λ past at.
    let taking : IsTaking past = sym at.ending_is ∙ c.requires.taking in
    rw c.in-None.is (content_of_item (Ok tt) past None c.args.self.now _ _ (no_request_wanted (situation past))
    (skips c.reading_laws.ensures c.phase_laws.ensures past c.args.self.now _ taking c.requires.taking
    c.requires.free (at.knows taking)))
