-- When all threads have ended: what each of them knows, put together.
use Rattle.std.proofs.Common.{◌≡◌, ◌≢◌, ◌<◌, ◌≤◌, ◌⊎◌, inl, inr, ℕ, true, false, true≢false, arith, List, [], ◌∷◌, ◌++◌, Result, Ok, Err, refl, sym, ap, ◌∙◌, subst, append_assoc, append-nil, rules}
use Rattle.std.specs.Prelude.{map, drop}
use Rattle.std.specs.Result.{is_err}
use Rattle.std.specs.List.{concat, flat_map}
use Rattle.std.proofs.lemmas.List.Folds.{concat-append}
use Rattle.dap_msg.specs.declared.request.Dialect.{Dialect}
use Rattle.dap_history.specs.declared.fault.SessionFault.{SessionFault}
use Rattle.dap_history.specs.declared.fault.SessionFault.TheVariants.{OrdersFull, RunnerGone, WriterGone}
use Rattle.dap_history.specs.declared.ending.Closed.{Closed}
use Rattle.dap_history.specs.declared.ending.Closed.TheVariants as closed
use Rattle.dap_history.specs.declared.ending.Ending.{Ending}
use Rattle.dap_history.specs.declared.ending.Ending.TheVariants as ending
use Rattle.dap_history.specs.History.{orders_of}
use Rattle.dap_history.specs.Events.{Incoming, Piece, End, ReadFailed, File, Report}
use Rattle.dap_history.specs.Events.{NoMemory as NoMemoryCame}
use Rattle.dap_history.specs.Interleaving.{Load}
use Rattle.dap_history.proofs.Closings.{closed_by_end, closed_by_failure, interleaved_end, interleaved_failure, quit_is_last}
use Rattle.dap_session.specs.Ports.{Ports, PushedOrders}
use Rattle.dap_session.specs.Sending.{IsPrefixOf, HasTriedQuit, ordered_at}
use Rattle.dap_session.specs.Serving.{Serves, SessionOutcome, closes, gives_up}
use Rattle.dbg_runner.specs.Plain.{PlainOrder, PlainReport, Quit}
use Rattle.dbg_runner.specs.Queues.{order_in, sent_in, handed_back_in, passed_in}
use Rattle.dbg_runner.specs.Runner.{Act, Runner, Idle, Ended, Does, DoesAll}
use Rattle.dbg_runner.specs.Runner as runner
use Rattle.dap_wires.specs.declared.writer_message.WriterMessage.{WriterMessage}
use Rattle.dap_wires.specs.declared.writer_message.WriterMessage.TheVariants as message
use Rattle.dap_wires.specs.declared.reading.ReadEnd.{ReadEnd}
use Rattle.dap_wires.specs.declared.reading.ReadEnd.TheVariants as ends
use Rattle.byte_streams.specs.declared.writing.WriteFailed.{WriteFailed}
use Rattle.dap_wires.specs.Orders.{EnoughWerePushed}
use Rattle.dap_wires.specs.WriterMessages.{bundled, frames_in, has_end, AreEnded}
use Rattle.dap_wires.specs.Reading.{IsReadUntil, last_of}
use Rattle.dap_wires.specs.Senders.{from_client, reports_among}
use Rattle.byte_streams.specs.Streams.{Supply, Output, IsOfWhole, WritesAll}
use Rattle.dap_wires.specs.Writing.{IsWrittenUntil}
use Rattle.dap_wires.proofs.Sending.{client_append, frames_append}
use Rattle.adapter.specs.ThreadTasks.{SessionLeaves}
use Rattle.adapter.specs.Serving.{World, nothing_sent, Writes, TakenOfSent, TakenOfPushed, TasksEnd}

-- ---- lists

module _ {A : Type 0} where
  tail_is : {x y : A} {xs ys : List A} → x ∷ xs ≡ y ∷ ys → xs ≡ ys
  tail_is e = ap (drop 1) e

  pub append_none : (xs ys : List A) → xs ++ ys ≡ [] → xs ≡ []
  append_none [] ys e = refl
  append_none (x ∷ xs) ys e = absurd (search (e, rules))

  begins_more : (xs ys zs : List A) → IsPrefixOf xs ys → IsPrefixOf xs (ys ++ zs)
  begins_more xs ys zs b = (b.0 ++ zs, sym (append_assoc xs b.0 zs) ∙ ap (λ l. l ++ zs) b.1)

-- ---- the writer

ended_has : (taken more : List WriterMessage) → AreEnded taken → has_end (taken ++ more) ≡ true
ended_has [] more ended = absurd ended
ended_has (message.Frames frame ∷ taken) more ended = ended_has taken more ended
ended_has (message.End ∷ taken) more ended = refl

-- nothing was put after the end
ended_whole : (taken more : List WriterMessage) → AreEnded taken → AreEnded (taken ++ more)
    → frames_in taken ≡ frames_in (taken ++ more)
ended_whole [] more ended whole = absurd ended
ended_whole (message.Frames frame ∷ taken) more ended whole =
    ap (λ l. bundled frame ++ l) (ended_whole taken more ended whole)
ended_whole (message.End ∷ []) [] ended whole = refl
ended_whole (message.End ∷ []) (p ∷ more) ended whole = absurd whole
ended_whole (message.End ∷ p ∷ taken) more ended whole = absurd ended

-- the frames that were put were written, or a prefix of them
pub writes_frames : (wrote : Result (Unit {0}) WriteFailed) (taken put : List WriterMessage) (frames : List (List ℕ))
    (old later : Output)
    → IsPrefixOf taken put → frames_in put ≡ frames → (has_end put ≡ false) ⊎ AreEnded put
    → IsWrittenUntil wrote taken old later → Writes wrote (concat frames) old later
writes_frames (Ok done) taken put frames old later begins frames_are (inl without) written =
    absurd (true≢false (sym (ended_has taken begins.0 written.0) ∙ (ap has_end begins.1 ∙ without)))
writes_frames (Ok done) taken put frames old later begins frames_are (inr ended) written =
    let same : frames_in taken ≡ frames =
    ended_whole taken begins.0 written.0 (subst AreEnded (sym begins.1) ended)
    ∙ (ap frames_in begins.1 ∙ frames_are) in
    subst (λ f. WritesAll (concat f) old later) same written.1
writes_frames (Err failed) taken put frames old later begins frames_are ended written =
    let whole : concat frames ≡ concat (frames_in taken) ++ concat (frames_in begins.0) =
    ap concat (sym frames_are ∙ (ap frames_in (sym begins.1) ∙ frames_append taken begins.0))
    ∙ concat-append (frames_in taken) (frames_in begins.0) in
    let part = written.1.0 in (
      (
        part.0,
        part.1,
        subst (IsPrefixOf part.0) (sym whole)
            (begins_more part.0 (concat (frames_in taken)) (concat (frames_in begins.0)) part.2),
      ),
      written.1.1,
    )

-- without the end the writer ended by a failure
write_fails : (wrote : Result (Unit {0}) WriteFailed) (taken put : List WriterMessage) (old later : Output)
    → IsPrefixOf taken put → has_end put ≡ false → IsWrittenUntil wrote taken old later → is_err wrote ≡ true
write_fails (Ok done) taken put old later begins without written =
    absurd (true≢false (sym (ended_has taken begins.0 written.0) ∙ (ap has_end begins.1 ∙ without)))
write_fails (Err failed) taken put old later begins without written = refl

-- ---- the session's faults

-- The order to quit takes no refusal back.
keeps_refusals : (old later : PushedOrders) → HasTriedQuit old later → (old.fulls ≤ later.fulls)
    × (old.refusals ≤ later.refusals)
keeps_refusals old later (inl pushed) =
    let fulls = pushed.1 in let refusals = pushed.2 in (omega (arith, fulls), omega (arith, refusals))
keeps_refusals old later (inr refused) = by_count refused.1
  where
    by_count : ((old.fulls < later.fulls) × (later.refusals ≡ old.refusals))
        ⊎ ((old.refusals < later.refusals) × (later.fulls ≡ old.fulls))
        → (old.fulls ≤ later.fulls) × (old.refusals ≤ later.refusals)
    by_count (inl full) = let more = full.0 in let same = full.1 in (omega (arith, more), omega (arith, same))
    by_count (inr gone) = let more = gone.0 in let same = gone.1 in (omega (arith, same), omega (arith, more))

-- Where the session answers that the queue of orders was full, it found it so.
found_full : (f : Dialect) (events given : List Incoming) (loads : List Load) (sent : Ports)
    → SessionOutcome f events given loads nothing_sent sent (Err OrdersFull) → sent.orders_full ≢ 0
found_full f events given loads sent (gives_up cannot from short) = λ none.
    let found = short.fails.breaks.1 in
    let kept =
    (keeps_refusals (ordered_at short.stopped) (ordered_at sent) short.quit.quit).0 in omega
    (arith, found, kept, none)

-- Where it answers that the runner is gone, the port had said so.
pub found_runner_gone : (f : Dialect) (events given : List Incoming) (loads : List Load) (sent : Ports)
    → SessionOutcome f events given loads nothing_sent sent (Err RunnerGone) → sent.runner_gone ≢ 0
found_runner_gone f events given loads sent (gives_up cannot from short) = λ none.
    let found = short.fails.breaks.1 in
    let kept =
    (keeps_refusals (ordered_at short.stopped) (ordered_at sent) short.quit.quit).1 in omega
    (arith, found, kept, none)

not_empty : {A : Type 0} (xs : List A) (x : A) → xs ++ x ∷ [] ≢ []
not_empty [] x none = absurd (search (none, rules))
not_empty (y ∷ xs) x none = absurd (search (none, rules))

-- Where it answers that the writer is gone, a frame was refused.
found_gone : (f : Dialect) (events given : List Incoming) (loads : List Load) (sent : Ports)
    → SessionOutcome f events given loads nothing_sent sent (Err WriterGone) → sent.refused ≢ []
found_gone f events given loads sent (gives_up cannot from short) = λ none.
    let broke = short.fails.breaks in
    not_empty short.fails.between.refused broke.frame (sym broke.refused_are ∙ (sym short.quit.refused_are ∙ none))

-- ---- the reader

abbrev pub IsPiece : Incoming → Type 0
IsPiece (Piece bytes) = Unit {0}
IsPiece End = ⊥
IsPiece ReadFailed = ⊥
IsPiece NoMemoryCame = ⊥
IsPiece (File file) = ⊥
IsPiece (Report r) = ⊥

-- at most one event
abbrev pub AtMostOne : List Incoming → Type 0
AtMostOne [] = Unit {0}
AtMostOne (e ∷ []) = Unit {0}
AtMostOne (e ∷ f ∷ events) = ⊥

pub last_one : (end : ReadEnd) → AtMostOne (last_of end)
last_one ends.Ended = tt
last_one ends.Failed = tt
last_one ends.NoMemory = tt
last_one ends.HandedBack = tt

none_after : (last xs ys : List Incoming) (own : Incoming) → AtMostOne last → xs ++ own ∷ ys ≡ last → ys ≡ []
none_after [] [] ys own one e = absurd (search (e, rules))
none_after [] (x ∷ xs) ys own one e = absurd (search (e, rules))
none_after (a ∷ []) [] ys own one e = tail_is e
none_after (a ∷ []) (x ∷ []) ys own one e = absurd (search (tail_is e, rules))
none_after (a ∷ []) (x ∷ z ∷ xs) ys own one e = absurd (search (tail_is e, rules))
none_after (a ∷ b ∷ last) xs ys own one e = absurd one

-- after pieces comes one event at most: what is no piece is the last
pub last_sent : (pieces : List (List ℕ)) (last xs ys : List Incoming) (own : Incoming) → AtMostOne last → ¬ IsPiece own
    → xs ++ own ∷ ys ≡ map Piece pieces ++ last → ys ≡ []
last_sent [] last xs ys own one other e = none_after last xs ys own one e
last_sent (p ∷ pieces) last [] ys own one other e =
    let same : Piece p ≡ own = search (e, rules) in
    absurd (other (subst IsPiece same tt))
last_sent (p ∷ pieces) last (x ∷ xs) ys own one other e = last_sent pieces last xs ys own one other (tail_is e)

-- all that was sent was taken where that has an event that is no piece
all_taken : (end : ReadEnd) (taken client front back : List Incoming) (own : Incoming) (old later : Supply)
    → IsReadUntil end client old later
    → IsPrefixOf taken client → ¬ IsPiece own → taken ≡ front ++ own ∷ back → taken ≡ client
all_taken end taken client front back own old later read begins other has =
    let sent : front ++ own ∷ (back ++ begins.0) ≡ map Piece read.pieces ++ last_of end =
    sym (append_assoc front (own ∷ back) begins.0) ∙ (ap (λ l. l ++ begins.0) (sym has) ∙ (begins.1 ∙ read.sent_are)) in
    let none : back ++ begins.0 ≡ [] =
    last_sent read.pieces (last_of end) front (back ++ begins.0) own (last_one end) other sent in
    let nothing : begins.0 ≡ [] = ap (λ l. l ++ begins.0) (sym (append_none back begins.0 none)) ∙ none in
    sym (append-nil taken) ∙ (ap (λ l. taken ++ l) (sym nothing) ∙ begins.1)

-- ---- the runner

-- the last act took Quit, or a report was returned
abbrev EndsBy : List Act → Type 0
EndsBy acts =
    ((front : List PlainOrder) × (flat_map order_in acts ≡ front ++ Quit ∷ [])) ⊎ (flat_map handed_back_in acts ≢ [])

-- an act that leads to the end took Quit, or was a report returned
abbrev Finishes : Act → Runner → Type 0
Finishes act next = (next ≢ Ended) ⊎ ((order_in act ≡ Quit ∷ []) ⊎ (handed_back_in act ≢ []))

finishes : {from next : Runner} {act : Act} → Does from act next → Finishes act next
finishes runner.takes_go = inl (λ e. search (e, rules))
finishes runner.has_none_to_hold = inl (λ e. search (e, rules))
finishes runner.quits = inr (inl refl)
finishes (runner.passes _) = inl (λ e. search (e, rules))
finishes (runner.goes_on _ _) = inl (λ e. search (e, rules))
finishes (runner.stops _ _) = inl (λ e. search (e, rules))
finishes (runner.is_refused _) = inr (inr (λ e. search (e, rules)))
finishes runner.finds_none = inl (λ e. search (e, rules))
finishes runner.finds_go = inl (λ e. search (e, rules))
finishes (runner.finds_hold _) = inl (λ e. search (e, rules))
finishes (runner.finds_vain_hold _) = inl (λ e. search (e, rules))
finishes runner.finds_quit = inr (inl refl)
finishes (runner.holds _) = inl (λ e. search (e, rules))
finishes (runner.is_refused_held _) = inr (inr (λ e. search (e, rules)))

last_act : (act : Act) (next : Runner) → next ≡ Ended → Finishes act next → EndsBy (act ∷ [])
last_act act next ended (inl goes_on) = absurd (goes_on ended)
last_act act next ended (inr (inl quits)) = inl ([], append-nil (order_in act) ∙ quits)
last_act act next ended (inr (inr refused)) = inr (λ e. refused (append_none (handed_back_in act) [] e))

act_before : (act : Act) (acts : List Act) → EndsBy acts → EndsBy (act ∷ acts)
act_before act acts (inl quits) =
    inl (
      order_in act ++ quits.0,
      ap (λ l. order_in act ++ l) quits.1
          ∙ sym (append_assoc (order_in act) quits.0 (Quit ∷ [])),
    )
act_before act acts (inr refused) =
    inr (λ e. refused (ap (λ l. l ++ flat_map handed_back_in acts)
    (sym (append_none (handed_back_in act) (flat_map handed_back_in acts) e)) ∙ e))

ends_by_some : (from : Runner) (act : Act) (acts : List Act) → DoesAll from (act ∷ acts) Ended → EndsBy (act ∷ acts)
ends_by_some from act [] leads = last_act act leads.0 leads.2 (finishes leads.1)
ends_by_some from act (next ∷ acts) leads = act_before act (next ∷ acts) (ends_by_some leads.0 next acts leads.2)

ends_by : (acts : List Act) → DoesAll Idle acts Ended → EndsBy acts
ends_by [] leads = absurd (search (leads, rules))
ends_by (act ∷ acts) leads = ends_by_some Idle act acts leads

-- ---- all together

takes_client : (f : Dialect) (result : Result Closed SessionFault) (events given client : List Incoming)
    (loads : List Load)
    (sent : Ports) (end : ReadEnd) (old later : Supply)
    → SessionOutcome f events given loads nothing_sent sent result → IsReadUntil end client old later
    → IsPrefixOf (from_client given) client
    → TakenOfSent result (from_client given) client
takes_client f (Ok closed.Disconnected) events given client loads sent end old later drives read begins = begins
takes_client f (Ok closed.InputEnded) events given client loads sent end old later (closes from serves) read begins =
    let by = closed_by_end f events serves.past serves.rest serves.history serves.ending_is in
    let own = interleaved_end f events given loads from by.0 by.1 by.2 in
    all_taken end (from_client given) client (from_client own.0) (from_client own.1) End old later read begins (λ p. p)
    (ap from_client own.2 ∙ client_append own.0 (End ∷ own.1))
takes_client f (Ok closed.ReadFailed) events given client loads sent end old later (closes from serves) read begins =
    let by = closed_by_failure f events serves.past serves.rest serves.history serves.ending_is in
    let own = interleaved_failure f events given loads from by.0 by.1 by.2 in
    all_taken end (from_client given) client (from_client own.0) (from_client own.1) ReadFailed old later read begins
    (λ p. p) (ap from_client own.2 ∙ client_append own.0 (ReadFailed ∷ own.1))
takes_client f (Err fault) events given client loads sent end old later drives read begins = begins

all_orders : (f : Dialect) (events : List Incoming) (by : Ending) (sent : Ports) (acts : List Act)
    → Serves f events by nothing_sent sent → IsPrefixOf (flat_map order_in acts) sent.orders
    → EndsBy acts → (flat_map order_in acts ≡ sent.orders) ⊎ (IsPrefixOf (flat_map order_in acts) sent.orders
    × (flat_map handed_back_in acts ≢ []))
all_orders f events by sent acts serves begins (inl quits) =
    let whole : orders_of serves.past ≡ quits.0 ++ Quit ∷ begins.0 =
    sym serves.orders_are ∙ (sym begins.1 ∙ (ap (λ l. l ++ begins.0) quits.1
    ∙ append_assoc quits.0 (Quit ∷ []) begins.0)) in
    let nothing : begins.0 ≡ [] =
    quit_is_last f events serves.past serves.rest serves.history quits.0 begins.0 whole in
    inl (sym (append-nil (flat_map order_in acts)) ∙ (ap (λ l. flat_map order_in acts ++ l) (sym nothing) ∙ begins.1))
all_orders f events by sent acts serves begins (inr refused) = inr (begins, refused)

takes_orders : (f : Dialect) (result : Result Closed SessionFault) (events given : List Incoming) (loads : List Load)
    (sent : Ports)
    (acts : List Act)
    → SessionOutcome f events given loads nothing_sent sent result → DoesAll Idle acts Ended
    → IsPrefixOf (flat_map order_in acts) sent.orders
    → TakenOfPushed result acts sent.orders
takes_orders f (Ok by) events given loads sent acts (closes from serves) leads begins =
    all_orders f events (ending.Closed by) sent acts serves begins (ends_by acts leads)
takes_orders f (Err fault) events given loads sent acts drives leads begins = begins

-- Nothing was taken, put or pushed when all began.
pub gathers : (f : Dialect) (wrote : Result (Unit {0}) WriteFailed) (result : Result Closed SessionFault)
    (before after : World)
    (given : List Incoming) (put : List WriterMessage) (pushed : PushedOrders) (end : ReadEnd) (client : List Incoming)
    (acts : List Act) (reports : List PlainReport) (orders : List PlainOrder) (taken : List WriterMessage)
    → SessionLeaves f result [] given before.loads after.loads nothing_sent put pushed
    → IsReadUntil end client before.streams.input after.streams.input → IsPrefixOf (from_client given) client
    → DoesAll Idle acts Ended → orders ≡ flat_map order_in acts → reports ≡ flat_map sent_in acts
    → IsPrefixOf orders pushed.orders → (pushed.fulls ≢ 0 → EnoughWerePushed pushed.orders)
    → IsPrefixOf (reports_among given) reports
    → after.passed ≡ before.passed ++ flat_map passed_in acts
    → IsWrittenUntil wrote taken before.streams.output after.streams.output → IsPrefixOf taken put
    → ∥ IsOfWhole after.streams.input ∥₁ → TasksEnd f wrote result before after
gathers f wrote result before after given put pushed end client acts reports orders taken
    drove read client_taken leads orders_are reports_are orders_taken many reports_taken gate_passed written put_taken
    of_whole =
    let d = drove.driven in
    let drives : SessionOutcome f d.events given d.loads nothing_sent drove.later result =
    subst (λ g. SessionOutcome f d.events g d.loads nothing_sent drove.later result) (sym d.given_are) d.drives in
    let begins : IsPrefixOf (flat_map order_in acts) drove.later.orders =
    subst (λ o. IsPrefixOf o drove.later.orders) orders_are
    (subst (λ o. IsPrefixOf orders o) drove.orders_are orders_taken)
    in
    record {
      given = given;
      sent = drove.later;
      session = record {
        events = d.events;
        loaded = d.loads;
        lawful = d.lawful;
        drives = drives;
        loads_are = d.loads_are;
        never_gone = drove.never_gone;
        full = λ is. subst (λ orders. EnoughWerePushed orders) drove.orders_are
            (many (λ none. found_full f d.events given d.loads drove.later
            (subst (λ r. SessionOutcome f d.events given d.loads nothing_sent drove.later r) is drives)
            (sym drove.fulls_are ∙ none)));
      };
      reader = record {
        end = end;
        client = client;
        read = read;
        of_whole = of_whole;
        client_taken =
            takes_client f result d.events given client d.loads drove.later end before.streams.input
            after.streams.input drives read client_taken;
      };
      runner = record {
        acts = acts;
        worked = leads;
        orders_taken = takes_orders f result d.events given d.loads drove.later acts drives leads begins;
        reports_taken = subst (λ r. IsPrefixOf (reports_among given) r) reports_are reports_taken;
        gate_passed = gate_passed;
      };
      writer = record {
        written =
            writes_frames wrote taken put drove.later.frames before.streams.output after.streams.output
            put_taken drove.frames_are drove.ended written;
        writer_gone = λ is. write_fails wrote taken put before.streams.output after.streams.output put_taken
            (drove.refused (found_gone f d.events given d.loads drove.later
            (subst (λ r. SessionOutcome f d.events given d.loads nothing_sent drove.later r) is drives))) written;
      };
    }
