-- What closed a session, and which faults of it are answered, by what is returned.
use Rattle.std.proofs.Common.{◌≡◌, false, true≢false, Some, Result, Ok, Err, refl, sym, ap, ◌∙◌, subst}
use Rattle.std.specs.Result.{is_err}
use Rattle.dap_frame.specs.declared.fault.FramingFault.{FramingFault}
use Rattle.dap_msg.specs.declared.request.Dialect.{Dialect}
use Rattle.dap_history.specs.declared.fault.SessionFault.{SessionFault}
use Rattle.dap_history.specs.declared.fault.SessionFault.TheVariants.{Frame, OrdersFull, RunnerGone, WriterGone}
use Rattle.dap_history.specs.declared.ending.Closed.{Closed}
use Rattle.dap_history.specs.declared.ending.Closed.TheVariants as closed
use Rattle.dap_session.specs.Serving.{SessionOutcome}
use Rattle.byte_streams.specs.declared.writing.WriteFailed.{WriteFailed}
use Rattle.adapter.specs.declared.serving.ServeFault.TheVariants.{Session}
use Rattle.adapter.specs.Laws.{closed_of, OutcomeIsOfSession, NobodyIsGone, FullAfterEnough}
use Rattle.adapter.specs.Serving.{World, nothing_sent, outcome_of, TasksEnd, IsServed, tasks_ended, had_no_memory, had_no_thread}
use Rattle.adapter.proofs.Gathered.{found_runner_gone}

-- what is returned tells what closed the session
closes_by : (wrote : Result (Unit {0}) WriteFailed) (result : Result Closed SessionFault) (by : Closed)
    → closed_of (outcome_of wrote result) ≡ Some by → (wrote ≡ Ok tt) × (result ≡ Ok by)
closes_by (Err failed) result by is = absurd cc
closes_by (Ok done) (Ok closed.Disconnected) by is = (refl, let same : closed.Disconnected ≡ by = cc in ap Ok same)
closes_by (Ok done) (Ok closed.InputEnded) by is = (refl, let same : closed.InputEnded ≡ by = cc in ap Ok same)
closes_by (Ok done) (Ok closed.ReadFailed) by is = (refl, let same : closed.ReadFailed ≡ by = cc in ap Ok same)
closes_by (Ok done) (Err f) by is = absurd cc

pub outcome_is_of_session : OutcomeIsOfSession
outcome_is_of_session f outcome by before after (tasks_ended wrote result is driven) closes =
    let c = closes_by wrote result by (ap closed_of (sym is) ∙ closes) in
    subst (λ w. TasksEnd f w (Ok by) before after) c.0 (subst (λ r. TasksEnd f wrote r before after) c.1 driven)
outcome_is_of_session f outcome by before after (had_no_memory is same) closes =
    let e = ap closed_of (sym is) ∙ closes in absurd cc
outcome_is_of_session f outcome by before after (had_no_thread is same) closes =
    let e = ap closed_of (sym is) ∙ closes in absurd cc

-- the session's fault is answered only where it ended so, and nothing failed to be written
answers : (wrote : Result (Unit {0}) WriteFailed) (result : Result Closed SessionFault) (fault : SessionFault)
    → outcome_of wrote result ≡ Err (Session fault)
    → (is_err wrote ≡ false) × (result ≡ Err fault)
answers (Err failed) result fault is = absurd cc
answers (Ok done) (Ok closed.Disconnected) fault is = absurd cc
answers (Ok done) (Ok closed.InputEnded) fault is = absurd cc
answers (Ok done) (Ok closed.ReadFailed) fault is = absurd cc
answers (Ok done) (Err f) fault is = (refl, let same : f ≡ fault = cc in ap Err same)

-- where it answers a framing fault, that ended the session, and all that was put was written
pub ends_at_framing_fault : (f : Dialect) (k : FramingFault) (before after : World)
    → IsServed f (Err (Session (Frame k))) before after → TasksEnd f (Ok tt) (Err (Frame k)) before after
ends_at_framing_fault f k before after (tasks_ended (Ok done) result is driven) =
    subst (λ r. TasksEnd f (Ok done) r before after) (answers (Ok done) result (Frame k) (sym is)).1 driven
ends_at_framing_fault f k before after (tasks_ended (Err failed) result is driven) = absurd cc
ends_at_framing_fault f k before after (had_no_memory is same) = absurd cc
ends_at_framing_fault f k before after (had_no_thread is same) = absurd cc

pub nobody_is_gone : NobodyIsGone
nobody_is_gone f outcome before after (tasks_ended wrote result is driven) = (
  λ gone.
      let a = answers wrote result WriterGone (sym is ∙ gone) in
      true≢false (sym (driven.writer.writer_gone a.1) ∙ a.0),
  λ gone.
      let a = answers wrote result RunnerGone (sym is ∙ gone) in
      let session = driven.session in
      found_runner_gone f session.events driven.given session.loaded driven.sent
      (subst (λ r. SessionOutcome f session.events driven.given session.loaded nothing_sent driven.sent r) a.1
      session.drives)
      session.never_gone,
)
nobody_is_gone f outcome before after (had_no_memory is same) =
    (λ gone. let e = sym is ∙ gone in absurd cc, λ gone. let e = sym is ∙ gone in absurd cc)
nobody_is_gone f outcome before after (had_no_thread is same) =
    (λ gone. let e = sym is ∙ gone in absurd cc, λ gone. let e = sym is ∙ gone in absurd cc)

pub full_after_enough : FullAfterEnough
full_after_enough f before after (tasks_ended (Ok done) result is driven) =
    let found : TasksEnd f (Ok tt) (Err OrdersFull) before after =
    subst (λ r. TasksEnd f (Ok done) r before after) (answers (Ok done) result OrdersFull (sym is)).1 driven in
    record { driven = found; enough = found.session.full refl }
full_after_enough f before after (tasks_ended (Err failed) result is driven) = absurd cc
full_after_enough f before after (had_no_memory is same) = absurd cc
full_after_enough f before after (had_no_thread is same) = absurd cc
