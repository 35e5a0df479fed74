-- Whether the session was driven or not, what the four know gives together what `serve` promises.
use Rattle.std.proofs.Common.{◌≡◌, ◌≢◌, ◌⊎◌, inl, inr, ℕ, List, [], ◌∷◌, ◌++◌, Option, None, Some, Result, Ok, Err, refl, sym, ap, ◌∙◌, subst, append-nil, rules}
use Rattle.std.specs.Prelude.{is_some}
use Rattle.std.specs.List.{concat, flat_map}
use Rattle.dap_msg.specs.declared.request.Dialect.{Dialect}
use Rattle.dap_history.specs.declared.ending.Closed.{Closed}
use Rattle.dap_history.specs.declared.fault.SessionFault.{SessionFault}
use Rattle.dap_history.specs.Events.{Incoming}
use Rattle.dap_history.specs.Interleaving.{Load}
use Rattle.dap_session.specs.Ports.{Ports, PushedOrders}
use Rattle.dap_session.specs.Sending.{IsPrefixOf}
use Rattle.dbg_runner.specs.Plain.{PlainOrder, PlainReport, Quit}
use Rattle.dbg_runner.specs.Queues.{order_in, sent_in, passed_in}
use Rattle.dbg_runner.specs.Runner.{Act, Runner, Idle, Ended, Does, DoesAll}
use Rattle.dbg_runner.specs.Runner as runner
use Rattle.dbg_runner.proofs.Refused.{nothing_after_end}
use Rattle.dap_wires.specs.declared.reading.ReadEnd.{ReadEnd}
use Rattle.dap_wires.specs.declared.writer_message.WriterMessage.{WriterMessage}
use Rattle.dap_wires.specs.Orders.{EnoughWerePushed}
use Rattle.dap_wires.specs.Senders.{from_client, reports_among}
use Rattle.dap_wires.specs.WriterMessages.{frames_in}
use Rattle.dap_wires.specs.Writing.{IsWrittenUntil}
use Rattle.dap_wires.proofs.Sending.{frames_append}
use Rattle.byte_streams.specs.declared.writing.WriteFailed.{WriteFailed}
use Rattle.byte_streams.specs.Streams.{StreamLog, Output, Appends}
use Rattle.adapter.specs.Serving.{World, nothing_sent, IsServed, tasks_ended, had_no_thread}
use Rattle.adapter.specs.ThreadTasks.{SessionEndsAs, ReaderEndsAs, outcome_if_driven}
use Rattle.adapter.proofs.Gathered.{append_none, gathers}

-- ---- the runner

-- no order but `Quit`
abbrev pub QuitsAtMost : List PlainOrder → Type 0
QuitsAtMost orders = (orders ≡ []) ⊎ (orders ≡ Quit ∷ [])

-- an act without a run that takes `Quit` at most is the last
none_passes : {act : Act} {next : Runner} (acts : List Act) (rest : List PlainOrder) → Does Idle act next
    → DoesAll next acts Ended → QuitsAtMost ((order_in act ++ flat_map order_in acts) ++ rest)
    → flat_map passed_in (act ∷ acts) ≡ []
none_passes acts rest runner.takes_go leads (inl none) = absurd (search (none, rules))
none_passes acts rest runner.takes_go leads (inr one) = absurd (search (one, rules))
none_passes acts rest runner.has_none_to_hold leads (inl none) = absurd (search (none, rules))
none_passes acts rest runner.has_none_to_hold leads (inr one) = absurd (search (one, rules))
none_passes [] rest runner.quits leads at_most = refl
none_passes (act ∷ acts) rest runner.quits leads at_most = absurd (nothing_after_end leads.1)

-- a runner that takes `Quit` at most runs nothing
pub passes_none : (acts : List Act) (orders : List PlainOrder) → DoesAll Idle acts Ended
    → IsPrefixOf (flat_map order_in acts) orders → QuitsAtMost orders → flat_map passed_in acts ≡ []
passes_none [] orders leads begins at_most = refl
passes_none (act ∷ acts) orders leads begins at_most =
    none_passes acts begins.0 leads.1 leads.2 (subst QuitsAtMost (sym begins.1) at_most)

-- ---- the writer

same_log : (old later : StreamLog) (bytes : List ℕ) → Appends old later bytes → bytes ≡ [] → later ≡ old
same_log old later bytes appends none =
    appends ∙ ap (λ b. record { first = old.first; bytes = b })
    (ap (λ l. old.bytes ++ l) none ∙ append-nil old.bytes)

-- a writer that takes no frame writes nothing
pub writes_none : (wrote : Result (Unit {0}) WriteFailed) (taken put : List WriterMessage) (old later : Output)
    → IsPrefixOf taken put → frames_in put ≡ [] → IsWrittenUntil wrote taken old later → later.written ≡ old.written
writes_none (Ok done) taken put old later begins none written =
    same_log old.written later.written (concat (frames_in taken)) written.1.0
    (ap concat (append_none (frames_in taken) (frames_in begins.0)
    (sym (frames_append taken begins.0) ∙ (ap frames_in begins.1 ∙ none))))
writes_none (Err failed) taken put old later begins none written =
    let part = written.1.0 in
    same_log old.written later.written part.0 part.1
    (append_none part.0 part.2.0 (part.2.1 ∙ ap concat (append_none (frames_in taken) (frames_in begins.0)
    (sym (frames_append taken begins.0) ∙ (ap frames_in begins.1 ∙ none)))))

-- ---- all together

-- a session that has taken and sent nothing
pub begun : (f dialect : Dialect) (closed : Option (Result Closed SessionFault)) (events given : List Incoming)
    (loads was later : List Load) (old : Ports) (put : List WriterMessage) (pushed : PushedOrders)
    → f ≡ dialect → events ≡ [] → loads ≡ was → old ≡ nothing_sent
    → SessionEndsAs f closed events given loads later old put pushed
    → SessionEndsAs dialect closed [] given was later nothing_sent put pushed
begun f dialect closed events given loads was later old put pushed same none loaded unsent ends =
    subst (λ f. SessionEndsAs f closed [] given was later nothing_sent put pushed) same
    (subst (λ e. SessionEndsAs f closed e given was later nothing_sent put pushed) none
    (subst (λ l. SessionEndsAs f closed events given l later nothing_sent put pushed) loaded
    (subst (λ o. SessionEndsAs f closed events given loads later o put pushed) unsent ends)))

-- Nothing was taken, put or pushed when all began.
pub serves : (f : Dialect) (wrote : Result (Unit {0}) WriteFailed) (closed : Option (Result Closed SessionFault))
    (end : Option ReadEnd) (before after : World) (given client : List Incoming) (put taken : List WriterMessage)
    (pushed : PushedOrders) (acts : List Act) (reports : List PlainReport) (orders : List PlainOrder)
    → is_some end ≡ is_some closed
    → SessionEndsAs f closed [] given before.loads after.loads nothing_sent put pushed
    → ReaderEndsAs end [] client before.streams.input after.streams.input → IsPrefixOf (from_client given) client
    → DoesAll Idle acts Ended → orders ≡ flat_map order_in acts → reports ≡ flat_map sent_in acts
    → IsPrefixOf orders pushed.orders → (pushed.fulls ≢ 0 → EnoughWerePushed pushed.orders)
    → IsPrefixOf (reports_among given) reports → after.passed ≡ before.passed ++ flat_map passed_in acts
    → IsWrittenUntil wrote taken before.streams.output after.streams.output → IsPrefixOf taken put
    → IsServed f (outcome_if_driven wrote closed) before after
serves f wrote (Some result) (Some end) before after given client put taken pushed acts reports orders both
    session reader client_taken leads orders_are reports_are orders_taken many reports_taken passed written put_taken =
    tasks_ended wrote result refl (gathers f wrote result before after given put pushed end reader.0.0 acts reports
    orders taken session reader.0.2
    (subst (λ l. IsPrefixOf (from_client given) l) reader.0.1 client_taken)
    leads orders_are reports_are orders_taken many reports_taken passed written put_taken reader.1)
serves f wrote None None before after given client put taken pushed acts reports orders both
    session reader client_taken leads orders_are reports_are orders_taken many reports_taken passed written put_taken =
    let none : flat_map passed_in acts ≡ [] =
    passes_none acts pushed.orders leads (subst (λ o. IsPrefixOf o pushed.orders) orders_are orders_taken)
    session.orders_are in
    had_no_thread refl (record {
      loads_are = session.loads_are;
      passed_are = passed ∙ (ap (λ l. before.passed ++ l) none ∙ append-nil before.passed);
      input_is = reader;
      written_are =
          writes_none wrote taken put before.streams.output after.streams.output put_taken session.frames_are written;
    })
serves f wrote (Some result) None before after given client put taken pushed acts reports orders both
    session reader client_taken leads orders_are reports_are orders_taken many reports_taken passed written put_taken =
    absurd cc
serves f wrote None (Some end) before after given client put taken pushed acts reports orders both
    session reader client_taken leads orders_are reports_are orders_taken many reports_taken passed written put_taken =
    absurd cc
