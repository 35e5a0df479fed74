use Rattle.std.proofs.Common.{◌++◌, ◌∷◌, []}
use Rattle.std.proofs.lemmas.Result.{err_from_is_err_and}
use Rattle.dap_history.specs.History.{messages}
use Rattle.dap_session.proofs.Building.{adds_step, breaks_at_push}
use Rattle.dap_session.proofs.session.Session.send_messages.Goals as goal

pub returns-in_err-push-clause-sent : goal.returns-in_err-push-clause-sent
returns-in_err-push-clause-sent g c =
    let p = err_from_is_err_and c.from_residual-in_err-push.result c.from_residual-in_err-push.ensures.1 in
    rw (p.1, p.2) (λ past step seq is. breaks_at_push _ past (past ++ step ∷ []) (messages step) step.effect.orders _ _
    _
    (adds_step c.reading_laws.ensures past step) c.in_err-push.ensures.err)
