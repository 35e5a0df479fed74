use Rattle.std.proofs.Common.{refl, sym, ◌∙◌, ap, subst, ◌++◌, ◌∷◌, []}
use Rattle.std.proofs.lemmas.Result.{err_from_is_err_and}
use Rattle.dap_msg.specs.Commands.{name_of}
use Rattle.dap_replies.specs.Phases.{IsPhase, launch_of}
use Rattle.dap_replies.specs.Replied.{request_step}
use Rattle.dap_session.proofs.Items.{fails_before, fails_at_step, is_answer_step, takes_item}
use Rattle.dap_session.proofs.session.Session.answer.Goals as goal

pub returns-in_default-clause-comes : goal.returns-in_default-clause-comes
returns-in_default-clause-comes g c = λ past taking is_phase seq_is. fails_before past _ _

pub returns-in_err-send-clause-comes : goal.returns-in_err-send-clause-comes
returns-in_err-send-clause-comes g c = λ past taking is_phase seq_is.
    let h = c.in-Ok.ensures.replies past is_phase in
    let step = request_step c.args.request h.reply in
    let p = err_from_is_err_and c.from_residual.result c.from_residual.ensures.1 in
    rw (p.1, p.2) (fails_at_step c.in_err-send.field-0.0 past step _ _
    (h.reply, h.replies, record { answer_is = refl; effect_is = refl })
    (c.in_err-send.ensures.sent past step seq_is
    (is_answer_step step.item c.args.request.seq c.into_name.result (name_of c.args.request.body) c.in-Ok.field-0
    h.reply c.into_name.ensures h.gives)))

pub returns-clause-comes : goal.returns-clause-comes
returns-clause-comes g c = λ past taking is_phase seq_is.
    let h = c.in-Ok.ensures.replies past is_phase in
    let step = request_step c.args.request h.reply in
    let sent = c.in_ok-send.ensures.sent past step seq_is
    (is_answer_step step.item c.args.request.seq c.into_name.result (name_of c.args.request.body) c.in-Ok.field-0
    h.reply c.into_name.ensures h.gives) in
    let same = ap (λ s. s.phase) c.self-2.view_is in
    takes_item c.reading_laws.ensures past step _ _ _ taking
    (h.reply, h.replies, record { answer_is = refl; effect_is = refl })
    (record {
      ending_is = c.ending_by-ending.ensures;
      phase_is =
          subst (λ p. IsPhase p (past ++ step ∷ [])) (sym same)
          (c.in_ok-send.ensures.phase _ (h.phase_is c.args.request.seq));
      free = ap launch_of same ∙ c.in_ok-send.ensures.free;
    })
    (record { sends = sent.0; refuses_nothing = sent.1; seq_is = ap (λ s. s.next_seq) c.self-2.view_is ∙ sent.2 })
