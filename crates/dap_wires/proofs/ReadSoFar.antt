-- What was read and sent so far.
use Rattle.std.proofs.Common.{◌≡◌, ℕ, true, false, true≢false, List, [], ◌∷◌, ◌++◌, refl, sym, ◌∙◌, ap, subst, append-nil, Ok, Err, rules}
use Rattle.std.specs.Prelude.{map, Some, None, Result, OnOk, OnErr}
use Rattle.std.specs.Result.{is_err}
use Rattle.std.proofs.lemmas.List.{map-append}
use Rattle.std.proofs.lemmas.Option.{same_Some}
use Rattle.dap_history.specs.Events.{Incoming, Piece}
use Rattle.dap_session.specs.declared.ports.Event.{Event}
use Rattle.dap_session.specs.declared.ports.Event.TheVariants as event
use Rattle.dap_session.specs.Incoming.{incoming_of}
use Rattle.dap_wires.specs.declared.reading.ReadEnd.{ReadEnd}
use Rattle.dap_wires.specs.declared.reading.ReadEnd.TheVariants.{HandedBack}
use Rattle.dap_wires.specs.Reading.{last_of, Loses, IsReadUntil, end_by}
use Rattle.dap_wires.specs.Senders.{is_report}
use Rattle.byte_streams.specs.Streams.{Supply}
use Rattle.dap_wires.specs.Transfer.{IsRead, AreRead}
use Rattle.dap_wires.proofs.Growing.{one_more}

-- pieces were sent, and nothing else was read
pub record ReadSoFar (put_old put_new : List Incoming) (old later : Supply) : Type 0 where
  pub pieces : List (List ℕ)
  pub put_is : put_new ≡ put_old ++ map Piece pieces
  pub read : AreRead (map Piece pieces) old later

are_read-append : (events : List Incoming) (e : Incoming) (old mid later : Supply) → AreRead events old mid
    → IsRead e mid later → AreRead (events ++ e ∷ []) old later
are_read-append [] e old mid later before now = (later, subst (λ s. IsRead e s later) before now, refl)
are_read-append (first ∷ events) e old mid later before now =
    (before.0, before.1, are_read-append events e before.0 mid later before.2 now)

some_is_no_none : {A : Type 0} {x : ReadEnd} → Some x ≡ None → A
some_is_no_none e = absurd (search (e, rules))

-- where nothing was returned, it was sent
pub when_ok : {A B : Type 0} {P : Type 0} (answer : Result A B) → is_err answer ≡ false → OnOk answer P → P
when_ok (Ok done) ok p = p
when_ok (Err back) ok p = absurd (true≢false ok)

-- where the event was returned, it was handed back
pub when_err : {A B : Type 0} {P : Type 0} (answer : Result A B) → is_err answer ≡ true → OnErr answer P → P
when_err (Ok done) back p = absurd (true≢false (sym back))
when_err (Err event) back p = p

-- one more piece was sent
pub read_goes_on : (put_old put_mid put_new : List Incoming) (old mid later : Supply) (e : Event)
    → ReadSoFar put_old put_mid old mid → is_report e ≡ false
    → end_by (incoming_of e) ≡ None → IsRead (incoming_of e) mid later → put_new ≡ put_mid ++ incoming_of e ∷ []
    → ReadSoFar put_old put_new old later
read_goes_on put_old put_mid put_new old mid later (event.Piece piece) r own none now put_is =
    let pieces_are = sym (map-append Piece r.pieces (piece.items ∷ [])) in
    record {
      pieces = r.pieces ++ piece.items ∷ [];
      put_is = one_more put_old put_mid put_new (map Piece r.pieces) (Piece piece.items) r.put_is put_is
          ∙ ap (λ l. put_old ++ l) pieces_are;
      read = subst (λ l. AreRead l old later) pieces_are
          (are_read-append (map Piece r.pieces) (Piece piece.items) old mid later r.read now);
    }
read_goes_on put_old put_mid put_new old mid later event.End r own none now put_is = some_is_no_none none
read_goes_on put_old put_mid put_new old mid later event.ReadFailed r own none now put_is = some_is_no_none none
read_goes_on put_old put_mid put_new old mid later event.NoMemory r own none now put_is = some_is_no_none none
read_goes_on put_old put_mid put_new old mid later (event.File (Ok file)) r own none now put_is = absurd now
read_goes_on put_old put_mid put_new old mid later (event.File (Err fault)) r own none now put_is = absurd now
read_goes_on put_old put_mid put_new old mid later (event.Report x) r own none now put_is = absurd (true≢false own)

abbrev pub Until : ReadEnd → List Incoming → List Incoming → List Incoming → List Incoming → Supply → Supply → Type 0
Until end put_old put_new back_old back_new old later =
    (sent : List Incoming) × (put_new ≡ put_old ++ sent)
    × ((read : IsReadUntil end sent old later) × (back_new ≡ back_old ++ read.lost))

-- what ended the input was sent
ends_by : (put_old put_mid put_new back_old back_new : List Incoming) (old mid later : Supply) (e : Incoming)
    (end : ReadEnd) → ReadSoFar put_old put_mid old mid → back_new ≡ back_old
    → last_of end ≡ e ∷ [] → ((s : Supply) → Loses end [] s s) → IsRead e mid later → put_new ≡ put_mid ++ e ∷ []
    → Until end put_old put_new back_old back_new old later
ends_by put_old put_mid put_new back_old back_new old mid later e end r back last nothing now put_is = (
  map Piece r.pieces ++ e ∷ [],
  one_more put_old put_mid put_new (map Piece r.pieces) e r.put_is put_is,
  (
    record {
      pieces = r.pieces;
      sent_are = ap (λ l. map Piece r.pieces ++ l) (sym last);
      mid = later;
      read = are_read-append (map Piece r.pieces) e old mid later r.read now;
      lost = [];
      loses = nothing later;
    },
    back ∙ sym (append-nil back_old),
  ),
)

pub read_ends : (put_old put_mid put_new back_old back_new : List Incoming) (old mid later : Supply) (e : Event)
    (end : ReadEnd) → ReadSoFar put_old put_mid old mid → back_new ≡ back_old
    → end_by (incoming_of e) ≡ Some end → IsRead (incoming_of e) mid later → put_new ≡ put_mid ++ incoming_of e ∷ []
    → Until end put_old put_new back_old back_new old later
read_ends _ _ _ _ _ _ _ _ (event.Piece piece) end r back is now put_is = some_is_no_none (sym is)
read_ends put_old put_mid put_new back_old back_new old mid later event.End end r back is now put_is =
    rw (sym (same_Some _ _ is)) (ends_by put_old put_mid put_new back_old back_new old mid later _ _ r back refl
    (λ s. (refl, refl)) now put_is)
read_ends put_old put_mid put_new back_old back_new old mid later event.ReadFailed end r back is now put_is =
    rw (sym (same_Some _ _ is)) (ends_by put_old put_mid put_new back_old back_new old mid later _ _ r back refl
    (λ s. (refl, refl)) now put_is)
read_ends put_old put_mid put_new back_old back_new old mid later event.NoMemory end r back is now put_is =
    rw (sym (same_Some _ _ is)) (ends_by put_old put_mid put_new back_old back_new old mid later _ _ r back refl
    (λ s. (refl, refl)) now put_is)
read_ends _ _ _ _ _ _ _ _ (event.File (Ok file)) end r back is now put_is = absurd now
read_ends _ _ _ _ _ _ _ _ (event.File (Err fault)) end r back is now put_is = absurd now
read_ends _ _ _ _ _ _ _ _ (event.Report x) end r back is now put_is = some_is_no_none (sym is)

-- the last event was returned
pub read_lost : (put_old put_mid put_new back_old back_mid back_new : List Incoming) (old mid later : Supply)
    (e : Incoming) → ReadSoFar put_old put_mid old mid → back_mid ≡ back_old → back_new ≡ back_mid ++ e ∷ []
    → IsRead e mid later → put_new ≡ put_mid → Until HandedBack put_old put_new back_old back_new old later
read_lost put_old put_mid put_new back_old back_mid back_new old mid later e r back_is back now same = (
  map Piece r.pieces,
  same ∙ r.put_is,
  (
    record {
      pieces =
          r.pieces;
      sent_are = sym (append-nil (map Piece r.pieces));
      mid = mid;
      read = r.read;
      lost = e ∷ [];
      loses = (e, refl, now);
    },
    back ∙ ap (λ l. l ++ e ∷ []) back_is,
  ),
)
