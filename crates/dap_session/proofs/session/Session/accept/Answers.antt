use Rattle.std.proofs.Common.{refl, ◌∙◌, None}
use Rattle.dbg_runner.specs.Reported.{plain_report}
use Rattle.dap_history.specs.History.{Accepted}
use Rattle.dap_history.specs.Reports.{report_effect}
use Rattle.dap_replies.specs.Replied.{report_step}
use Rattle.dap_session.proofs.Items.{fails_before, is_step, sends_item}
use Rattle.dap_session.proofs.Reports.{ends_nothing, needed_none}
use Rattle.dap_session.proofs.session.Session.accept.Goals as goal

pub returns-in_default-clause-comes : goal.returns-in_default-clause-comes
returns-in_default-clause-comes g c = λ past taking is_phase seq_is. fails_before past _ _

pub returns-clause-comes : goal.returns-clause-comes
returns-clause-comes g c = λ past taking is_phase seq_is.
    let h = c.in-Ok.ensures.follows past is_phase in
    let r = plain_report c.args.report in
    let effect = report_effect past r r.outcome in
    let step = report_step r effect in
    sends_item c.reading_laws.ensures c.send.result past step _ c.in-Ok.effect.phase _ _ taking
    (record { answer_is = refl; effect_is = refl })
    (ends_nothing c.args.report.outcome c.in-Ok.ensures.memory)
    (c.send.ensures.ending ∙ c.requires.taking) h.phase_is c.send.ensures.phase c.send.ensures.free
    (c.send.ensures.sent past step seq_is (is_step (Accepted r) None None effect c.in-Ok.effect refl h.does))

pub returns-clause-enough : goal.returns-clause-enough
returns-clause-enough g c = λ quiet.
    needed_none c.send.result c.send.new.self c.send.ensures.free
    (c.send.ensures.enough refl (c.in-Ok.ensures.enough quiet))
