-- What each sender put and what was taken, as plain data.
use Rattle.std.proofs.Common.{◌≡◌, true, false, true≢false, append-nil, List, [], ◌∷◌, ◌++◌, refl, sym, ◌∙◌, ap, subst, inl, inr, Ok, Err, append_assoc}
use Rattle.std.specs.Prelude.{◌⊎◌, ◌&&◌, map, Result, OnOk, OnErr}
use Rattle.std.specs.List.{flat_map}
use Rattle.std.proofs.lemmas.List.{map-append}
use Rattle.std.proofs.lemmas.Bool.{and_parts}
use Rattle.dap_history.specs.Events.{Incoming, Piece, End, ReadFailed, NoMemory, File, Report}
use Rattle.dap_session.specs.declared.ports.Event.{Event}
use Rattle.dap_session.specs.declared.ports.Event.TheVariants as event
use Rattle.dap_session.specs.Incoming.{incoming_of}
use Rattle.dap_session.specs.Sending.{IsPrefixOf}
use Rattle.dbg_runner.specs.Plain.{PlainReport}
use Rattle.dbg_runner.specs.Reported.{Reported, plain_report}
use Rattle.dap_wires.specs.declared.arrival.Arrival.{Arrival}
use Rattle.dap_wires.specs.declared.arrival.Arrival.TheVariants as arrival
use Rattle.dap_wires.specs.declared.writer_message.WriterMessage.{WriterMessage}
use Rattle.dap_wires.specs.declared.writer_message.WriterMessage.TheVariants as message
use Rattle.dap_wires.specs.declared.bundle.Bundle.{Bundle}
use Rattle.dap_wires.specs.declared.end_log.EndLog.{EndLog}
use Rattle.dap_wires.specs.Delivery.{of_first, of_second, put}
use Rattle.dap_wires.specs.Inbox.{came}
use Rattle.dap_wires.specs.WriterMessages.{bundled, frames_in, has_end, AreEnded}
use Rattle.dap_wires.specs.Senders.{is_by_runner, events_in, from_client, reports_among, is_quiet, are_quiet}
use Rattle.dap_wires.proofs.Delivered.{all_first}

-- ---- events and reports

flat_append : (xs ys : List Arrival) → flat_map events_in (xs ++ ys) ≡ flat_map events_in xs ++ flat_map events_in ys
flat_append [] ys = refl
flat_append (x ∷ xs) ys =
    ap (λ l. events_in x ++ l) (flat_append xs ys) ∙ sym
    (append_assoc (events_in x) (flat_map events_in xs) (flat_map events_in ys))

pub came_append : (xs ys : List Arrival) → came (xs ++ ys) ≡ came xs ++ came ys
came_append xs ys =
    ap (map incoming_of) (flat_append xs ys) ∙ map-append incoming_of (flat_map events_in xs) (flat_map events_in ys)

pub client_append : (xs ys : List Incoming) → from_client (xs ++ ys) ≡ from_client xs ++ from_client ys
client_append [] ys = refl
client_append (Piece bytes ∷ xs) ys = ap (λ l. Piece bytes ∷ l) (client_append xs ys)
client_append (End ∷ xs) ys = ap (λ l. End ∷ l) (client_append xs ys)
client_append (ReadFailed ∷ xs) ys = ap (λ l. ReadFailed ∷ l) (client_append xs ys)
client_append (NoMemory ∷ xs) ys = ap (λ l. NoMemory ∷ l) (client_append xs ys)
client_append (File file ∷ xs) ys = ap (λ l. File file ∷ l) (client_append xs ys)
client_append (Report r ∷ xs) ys = client_append xs ys

pub reports_append : (xs ys : List Incoming) → reports_among (xs ++ ys) ≡ reports_among xs ++ reports_among ys
reports_append [] ys = refl
reports_append (Piece bytes ∷ xs) ys = reports_append xs ys
reports_append (End ∷ xs) ys = reports_append xs ys
reports_append (ReadFailed ∷ xs) ys = reports_append xs ys
reports_append (NoMemory ∷ xs) ys = reports_append xs ys
reports_append (File file ∷ xs) ys = reports_append xs ys
reports_append (Report r ∷ xs) ys = ap (λ l. r ∷ l) (reports_append xs ys)

-- reports, as events
abbrev told : List Reported → List Incoming
told reports = map incoming_of (map event.Report reports)

no_client : (reports : List Reported) → from_client (told reports) ≡ []
no_client [] = refl
no_client (r ∷ reports) = no_client reports

all_reports : (reports : List Reported) → reports_among (told reports) ≡ map plain_report reports
all_reports [] = refl
all_reports (r ∷ reports) = ap (λ l. plain_report r ∷ l) (all_reports reports)

-- events that end with reports
told_last : (given : List Event) (reports : List Reported) → map incoming_of (given ++ map event.Report reports) ≡ map
    incoming_of given ++ told reports
told_last given reports = map-append incoming_of given (map event.Report reports)

-- reports came first
told_first : (reports : _) (ms : List Arrival) → came (arrival.Quiet reports ∷ ms) ≡ told reports.items ++ came ms
told_first reports ms = map-append incoming_of (map event.Report reports.items) (flat_map events_in ms)

client_after : (reports : _) (ms : List Arrival) → from_client (came (arrival.Quiet reports ∷ ms)) ≡ from_client
    (came ms)
client_after reports ms =
    ap from_client (told_first reports ms)
    ∙ client_append (told reports.items) (came ms)
    ∙ ap (λ l. l ++ from_client (came ms)) (no_client reports.items)

reports_after : (reports : _) (ms : List Arrival) → reports_among (came (arrival.Quiet reports ∷ ms)) ≡ map plain_report
    reports.items ++ reports_among (came ms)
reports_after reports ms =
    ap reports_among (told_first reports ms)
    ∙ reports_append (told reports.items) (came ms)
    ∙ ap (λ l. l ++ reports_among (came ms)) (all_reports reports.items)

-- the reader's arrivals are what the client sent
pub client_first : (ms : List Arrival) → came (of_first is_by_runner ms) ≡ from_client (came ms)
client_first [] = refl
client_first (arrival.Event (event.Piece piece) ∷ ms) = ap (λ l. Piece piece.items ∷ l) (client_first ms)
client_first (arrival.Event event.End ∷ ms) = ap (λ l. End ∷ l) (client_first ms)
client_first (arrival.Event event.ReadFailed ∷ ms) = ap (λ l. ReadFailed ∷ l) (client_first ms)
client_first (arrival.Event event.NoMemory ∷ ms) = ap (λ l. NoMemory ∷ l) (client_first ms)
client_first (arrival.Event (event.File (Ok file)) ∷ ms) = ap (λ l. File (Ok file.items) ∷ l) (client_first ms)
client_first (arrival.Event (event.File (Err fault)) ∷ ms) = ap (λ l. File (Err fault) ∷ l) (client_first ms)
client_first (arrival.Event (event.Report r) ∷ ms) = client_first ms
client_first (arrival.Quiet reports ∷ ms) = client_first ms ∙ sym (client_after reports ms)

-- the runner's arrivals have all the reports
pub reports_second : (ms : List Arrival) → reports_among (came (of_second is_by_runner ms)) ≡ reports_among (came ms)
reports_second [] = refl
reports_second (arrival.Event (event.Piece piece) ∷ ms) = reports_second ms
reports_second (arrival.Event event.End ∷ ms) = reports_second ms
reports_second (arrival.Event event.ReadFailed ∷ ms) = reports_second ms
reports_second (arrival.Event event.NoMemory ∷ ms) = reports_second ms
reports_second (arrival.Event (event.File (Ok file)) ∷ ms) = reports_second ms
reports_second (arrival.Event (event.File (Err fault)) ∷ ms) = reports_second ms
reports_second (arrival.Event (event.Report r) ∷ ms) = ap (λ l. plain_report r ∷ l) (reports_second ms)
reports_second (arrival.Quiet reports ∷ ms) =
    reports_after reports (of_second is_by_runner ms)
    ∙ ap (λ l. map plain_report reports.items ++ l) (reports_second ms)
    ∙ sym (reports_after reports ms)

-- what the session was given of what was taken, but for reports that it wasn't given yet
module _ (taken inside : List Arrival) (given : List Event) (rest : List Reported)
    (is : flat_map events_in taken ≡ given ++ map event.Report rest) where
  taken_is : came taken ≡ map incoming_of given ++ told rest
  taken_is = ap (map incoming_of) is ∙ told_last given rest

  client_taken : from_client (came (taken ++ inside)) ≡ from_client (map incoming_of given) ++ from_client (came inside)
  client_taken =
      ap from_client (came_append taken inside)
      ∙ client_append (came taken) (came inside)
      ∙ ap (λ l. from_client l ++ from_client (came inside)) taken_is
      ∙ ap (λ l. l ++ from_client (came inside))
      (client_append (map incoming_of given) (told rest) ∙ ap (λ l. from_client (map incoming_of given) ++ l)
      (no_client rest) ∙ append-nil (from_client (map incoming_of given)))

  reports_taken : reports_among (came (taken ++ inside)) ≡ reports_among (map incoming_of given)
      ++ (map plain_report rest ++ reports_among (came inside))
  reports_taken =
      ap reports_among (came_append taken inside)
      ∙ reports_append (came taken) (came inside)
      ∙ ap (λ l. reports_among l ++ reports_among (came inside)) taken_is
      ∙ ap (λ l. l ++ reports_among (came inside))
      (reports_append (map incoming_of given) (told rest)
      ∙ ap (λ l. reports_among (map incoming_of given) ++ l) (all_reports rest))
      ∙ append_assoc (reports_among (map incoming_of given)) (map plain_report rest) (reports_among (came inside))

  -- what the session was given of the reader's is a prefix of what that put
  pub client_begins : (put : List Arrival) → put ≡ of_first is_by_runner (taken ++ inside)
      → IsPrefixOf (from_client (map incoming_of given)) (came put)
  client_begins put put_is =
      (from_client (came inside), sym client_taken ∙ sym (client_first (taken ++ inside)) ∙ ap came (sym put_is))

  -- and of the runner's, which has sent more than it put
  pub reports_begin : (put : List Arrival) (kept : List Reported) → put ≡ of_second is_by_runner (taken ++ inside)
      → IsPrefixOf (reports_among (map incoming_of given)) (reports_among (came put) ++ map plain_report kept)
  reports_begin put kept put_is = (
    (map plain_report rest ++ reports_among (came inside)) ++ map plain_report kept,
    sym (append_assoc (reports_among (map incoming_of given)) (map plain_report rest ++ reports_among (came inside))
        (map plain_report kept))
        ∙ ap (λ l. l ++ map plain_report kept)
        (sym reports_taken ∙ sym (reports_second (taken ++ inside))
        ∙ ap (λ l. reports_among (came l)) (sym put_is)),
  )

-- one more report was put
report_came : (old new : List Arrival) (r : Reported) → new ≡ old ++ arrival.Event (event.Report r) ∷ []
    → reports_among (came new) ≡ reports_among (came old) ++ plain_report r ∷ []
report_came old new r is =
    ap (λ l. reports_among (came l)) is
    ∙ ap reports_among (came_append old (arrival.Event (event.Report r) ∷ []))
    ∙ reports_append (came old) (Report (plain_report r) ∷ [])

-- where none is kept
pub report_put : (old new : List Arrival) (kept : List Reported) (r : Reported) → new ≡ old
    ++ arrival.Event (event.Report r) ∷ [] → kept ≡ []
    → reports_among (came new) ++ map plain_report kept ≡ (reports_among (came old) ++ map plain_report kept)
    ++ plain_report r ∷ []
report_put old new kept r is none =
    ap (λ k. reports_among (came new) ++ map plain_report k) none
    ∙ append-nil (reports_among (came new))
    ∙ report_came old new r is
    ∙ ap (λ l. l ++ plain_report r ∷ []) (sym (append-nil (reports_among (came old)))
    ∙ ap (λ k. reports_among (came old) ++ map plain_report k) (sym none))

-- where none is kept, all that was sent was put
pub all_put : (put : List PlainReport) (kept : List Reported) → kept ≡ [] → put ≡ put ++ map plain_report kept
all_put put kept none = sym (append-nil put) ∙ ap (λ k. put ++ map plain_report k) (sym none)

-- the oldest of those that were kept
pub oldest_put : (old new : List Arrival) (was now : List Reported) (r : Reported) → new ≡ old
    ++ arrival.Event (event.Report r) ∷ [] → was ≡ r ∷ now
    → reports_among (came new) ++ map plain_report now ≡ reports_among (came old) ++ map plain_report was
oldest_put old new was now r is first =
    ap (λ l. l ++ map plain_report now) (report_came old new r is)
    ∙ append_assoc (reports_among (came old)) (plain_report r ∷ []) (map plain_report now)
    ∙ ap (λ l. reports_among (came old) ++ map plain_report l) (sym first)

-- what was kept was put
pub kept_put : (old new : List Arrival) (kept : _) (was now : List Reported) → new ≡ old ++ arrival.Quiet kept ∷ []
    → kept.items ≡ was → now ≡ []
    → reports_among (came new) ++ map plain_report now ≡ reports_among (came old) ++ map plain_report was
kept_put old new kept was now is all none =
    ap (λ l. reports_among (came new) ++ map plain_report l) none
    ∙ append-nil (reports_among (came new))
    ∙ ap (λ l. reports_among (came l)) is
    ∙ ap reports_among (came_append old (arrival.Quiet kept ∷ []))
    ∙ reports_append (came old) (came (arrival.Quiet kept ∷ []))
    ∙ ap (λ l. reports_among (came old) ++ l)
    (reports_after kept [] ∙ append-nil (map plain_report kept.items) ∙ ap (map plain_report) all)

-- one more report is kept
pub report_kept : (sent : List PlainReport) (old new : List Reported) (r : Reported) → new ≡ old ++ r ∷ []
    → sent ++ map plain_report new ≡ (sent ++ map plain_report old) ++ plain_report r ∷ []
report_kept sent old new r is =
    ap (λ l. sent ++ map plain_report l) is
    ∙ ap (λ l. sent ++ l) (map-append plain_report old (r ∷ []))
    ∙ sym (append_assoc sent (map plain_report old) (plain_report r ∷ []))

pub quiet_kept : (old : List Reported) (r : Reported) → are_quiet old ≡ true → is_quiet r ≡ true
    → are_quiet (old ++ r ∷ []) ≡ true
quiet_kept [] r all one = ap (λ b. b && true) one
quiet_kept (x ∷ old) r all one =
    let each = and_parts (is_quiet x) (are_quiet old) all in
    ap (λ b. b && are_quiet (old ++ r ∷ [])) each.0 ∙ quiet_kept old r each.1 one

pub quiet_rest : (was now : List Reported) (r : Reported) → are_quiet was ≡ true → was ≡ r ∷ now
    → are_quiet now ≡ true
quiet_rest was now r all first = (and_parts (is_quiet r) (are_quiet now) (ap are_quiet (sym first) ∙ all)).1

-- ---- messages

pub frames_append : (xs ys : List WriterMessage) → frames_in (xs ++ ys) ≡ frames_in xs ++ frames_in ys
frames_append [] ys = refl
frames_append (message.Frames b ∷ xs) ys =
    ap (λ l. bundled b ++ l) (frames_append xs ys) ∙ sym (append_assoc (bundled b) (frames_in xs) (frames_in ys))
frames_append (message.End ∷ xs) ys = frames_append xs ys

-- frames were put, and one more
pub frame_keeps_open : (xs : List WriterMessage) (frame : _) → has_end xs ≡ false
    → has_end (xs ++ message.Frames frame ∷ []) ≡ false
frame_keeps_open [] frame none = refl
frame_keeps_open (message.Frames first ∷ xs) frame none = frame_keeps_open xs frame none
frame_keeps_open (message.End ∷ xs) frame none = none

-- frames were put, and then the end
pub end_ends : (xs : List WriterMessage) → has_end xs ≡ false → AreEnded (xs ++ message.End ∷ [])
end_ends [] none = tt
end_ends (message.Frames first ∷ xs) none = end_ends xs none
end_ends (message.End ∷ xs) none = absurd (true≢false none)

-- the end is no frame
pub frames_end : (xs : List WriterMessage) → frames_in (xs ++ message.End ∷ []) ≡ frames_in xs
frames_end xs = frames_append xs (message.End ∷ []) ∙ append-nil (frames_in xs)

-- what was taken is a prefix of what was put
pub messages_begin : (put kept taken inside : List WriterMessage) → put ≡ of_first (λ _. false) (taken ++ inside)
    → IsPrefixOf taken (put ++ kept)
messages_begin put kept taken inside is = (
  inside ++ kept,
  sym (append_assoc taken inside kept) ∙ ap (λ l. l ++ kept) (sym (is ∙ all_first (taken ++ inside))),
)

-- The end was put, or returned.
module _ {A B : Type 0} where
  pub finish_ends : (answer : Result A B) (old new : EndLog WriterMessage)
      → OnOk answer (new ≡ put (λ _. false) old message.End) → OnErr answer (new ≡ old)
      → has_end old.put_first ≡ false → (has_end new.put_first ≡ false) ⊎ AreEnded new.put_first
  finish_ends (Ok done) old new sent refused none =
      inr (subst AreEnded (sym (ap (λ v. v.put_first) sent)) (end_ends old.put_first none))
  finish_ends (Err back) old new sent refused none = inl (ap (λ v. has_end v.put_first) refused ∙ none)

  -- Frames were put, or returned. The end may still put, and isn't over.
  pub frames_keep_open : (answer : Result A B) (old new : EndLog WriterMessage) (b : Bundle)
      → OnOk answer (new ≡ put (λ _. false) old (message.Frames b)) → OnErr answer (new ≡ old)
      → old.first ≡ true → has_end old.put_first ≡ false → (new.first ≡ true) × (has_end new.put_first ≡ false)
  frames_keep_open (Ok done) old new b sent refused may none =
      (ap (λ v. v.first) sent ∙ may, ap (λ v. has_end v.put_first) sent ∙ frame_keeps_open old.put_first b none)
  frames_keep_open (Err back) old new b sent refused may none =
      (ap (λ v. v.first) refused ∙ may, ap (λ v. has_end v.put_first) refused ∙ none)

  pub finish_keeps : (answer : Result A B) (old new : EndLog WriterMessage)
      → OnOk answer (new ≡ put (λ _. false) old message.End) → OnErr answer (new ≡ old)
      → frames_in new.put_first ≡ frames_in old.put_first
  finish_keeps (Ok done) old new sent refused = ap (λ v. frames_in v.put_first) sent ∙ frames_end old.put_first
  finish_keeps (Err back) old new sent refused = ap (λ v. frames_in v.put_first) refused
