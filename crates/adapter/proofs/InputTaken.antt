-- What of the input a session took, by what closed it.
use Rattle.std.proofs.Common.{◌≡◌, inl, inr, ℕ, true, List, [], ◌∷◌, ◌++◌, Option, None, Some, Ok, refl, sym, ap, ◌∙◌, subst, append_assoc, append-nil, rules}
use Rattle.std.specs.Prelude.{map}
use Rattle.byte_streams.proofs.Appending.{appends_none, appends_both}
use Rattle.dap_msg.specs.declared.command.Command.{Command}
use Rattle.dap_msg.specs.declared.command.Command.TheVariants as command
use Rattle.dbg_runner.specs.declared.outcome.SliceOutcome.{SliceOutcome}
use Rattle.dbg_runner.specs.declared.outcome.SliceOutcome.TheVariants as slice
use Rattle.dap_msg.specs.declared.request.Dialect.{Dialect}
use Rattle.dap_history.specs.declared.ending.Closed.TheVariants as closed
use Rattle.dap_history.specs.declared.ending.Ending.TheVariants as ending
use Rattle.dap_history.specs.Last.{or_else, last_such}
use Rattle.dap_history.specs.History.{Item, Content, Loaded, Accepted, Fault, InputEnd, ReadFailure, MemoryFailure, Step, History}
use Rattle.dap_history.specs.Readings.{closing_command, closing_report, closing, ending_of}
use Rattle.dap_history.specs.Events.{Incoming, Piece, End, ReadFailed, File, Report, Rest, IsHistoryOf}
use Rattle.dap_history.specs.Events.{NoMemory as NoMemoryCame}
use Rattle.dap_history.specs.Interleaving.{Load, IsLoad, Interleaves}
use Rattle.dap_history.specs.Laws.{stream_of, DisconnectIsLast}
use Rattle.dap_history.proofs.Closings.{IsFile, first_event, later_events}
use Rattle.dap_session.specs.Sending.{IsPrefixOf}
use Rattle.dap_session.specs.Serving.{SessionOutcome, closes}
use Rattle.dap_wires.specs.declared.reading.ReadEnd.{ReadEnd}
use Rattle.dap_wires.specs.declared.reading.ReadEnd.TheVariants as ends
use Rattle.dap_wires.specs.Reading.{IsReadUntil, Loses, last_of}
use Rattle.dap_wires.specs.Senders.{from_client}
use Rattle.dap_wires.specs.Transfer.{IsRead, AreRead}
use Rattle.dap_wires.proofs.Sending.{client_append}
use Rattle.byte_streams.specs.Streams.{Supply, Appends, IsOfWhole, IsReadOf}
use Rattle.adapter.specs.Laws.{AsksToDisconnect, TakesFirstDisconnect, FirstDisconnectCloses}
use Rattle.adapter.specs.Serving.{nothing_sent, SessionSends}
use Rattle.adapter.proofs.Gathered.{IsPiece, last_one, last_sent}

-- ---- bytes left

consumed_at : (old later : Supply) → later ≡ old → Appends old.read later.read []
consumed_at old later same = subst (λ (s : Supply). Appends old.read s.read []) (sym same) (appends_none old.read)

-- ---- pieces, joined

stream_append : (xs ys : List Incoming) → stream_of (xs ++ ys) ≡ stream_of xs ++ stream_of ys
stream_append [] ys = refl
stream_append (Piece p ∷ xs) ys =
    ap (λ l. p ++ l) (stream_append xs ys) ∙ sym (append_assoc p (stream_of xs) (stream_of ys))
stream_append (End ∷ xs) ys = stream_append xs ys
stream_append (ReadFailed ∷ xs) ys = stream_append xs ys
stream_append (NoMemoryCame ∷ xs) ys = stream_append xs ys
stream_append (File file ∷ xs) ys = stream_append xs ys
stream_append (Report r ∷ xs) ys = stream_append xs ys

stream_more : (e : Incoming) (xs ys : List Incoming) → stream_of xs ≡ stream_of ys
    → stream_of (e ∷ xs) ≡ stream_of (e ∷ ys)
stream_more e xs ys same =
    stream_append (e ∷ []) xs ∙ ap (λ l. stream_of (e ∷ []) ++ l) same ∙ sym (stream_append (e ∷ []) ys)

pub client_stream : (xs : List Incoming) → stream_of (from_client xs) ≡ stream_of xs
client_stream [] = refl
client_stream (Piece p ∷ xs) = ap (λ l. p ++ l) (client_stream xs)
client_stream (End ∷ xs) = client_stream xs
client_stream (ReadFailed ∷ xs) = client_stream xs
client_stream (NoMemoryCame ∷ xs) = client_stream xs
client_stream (File file ∷ xs) = client_stream xs
client_stream (Report r ∷ xs) = client_stream xs

-- ---- what was read

reads_stream : (e : Incoming) (old later : Supply) → IsRead e old later
    → Appends old.read later.read (stream_of (e ∷ []))
reads_stream (Piece p) old later read = subst (λ l. Appends old.read later.read l) (sym (append-nil p)) read.0
reads_stream End old later read = read.0
reads_stream ReadFailed old later read = read.0
reads_stream NoMemoryCame old later read = read.0
reads_stream (File file) old later read = absurd read
reads_stream (Report r) old later same = consumed_at old later same

pub read_stream : (events : List Incoming) (old later : Supply) → AreRead events old later
    → Appends old.read later.read (stream_of events)
read_stream [] old later same = consumed_at old later same
read_stream (e ∷ events) old later read =
    subst (λ l. Appends old.read later.read l) (sym (stream_append (e ∷ []) events))
    (appends_both old.read read.0.read later.read (stream_of (e ∷ [])) (stream_of events)
    (reads_stream e old read.0 read.1) (read_stream events read.0 later read.2))

-- an input of which the end was read is at its end
pub read_to_end : (events : List Incoming) (old later : Supply) → AreRead (events ++ End ∷ []) old later
    → later.ended ≡ true
read_to_end [] old later read = subst (λ (s : Supply). s.ended ≡ true) (sym read.2) read.1.1
read_to_end (e ∷ events) old later read = read_to_end events read.0 later read.2

-- the last event, which was returned, was read too
lost_stream : (end : ReadEnd) (lost : List Incoming) (mid later : Supply) → Loses end lost mid later
    → Appends mid.read later.read (stream_of lost)
lost_stream ends.HandedBack lost mid later loses =
    subst (λ l. Appends mid.read later.read (stream_of l)) (sym loses.1) (reads_stream loses.0 mid later loses.2)
lost_stream ends.Ended lost mid later loses =
    subst (λ l. Appends mid.read later.read (stream_of l)) (sym loses.0) (consumed_at mid later loses.1)
lost_stream ends.Failed lost mid later loses =
    subst (λ l. Appends mid.read later.read (stream_of l)) (sym loses.0) (consumed_at mid later loses.1)
lost_stream ends.NoMemory lost mid later loses =
    subst (λ l. Appends mid.read later.read (stream_of l)) (sym loses.0) (consumed_at mid later loses.1)

-- ---- the reader came to an end

-- the input's end or a failed read, which a reader sends last
abbrev pub IsLast : Incoming → Type 0
IsLast End = Unit {0}
IsLast ReadFailed = Unit {0}
IsLast _ = ⊥

no_piece : (own : Incoming) → IsLast own → ¬ IsPiece own
no_piece End last piece = piece
no_piece ReadFailed last piece = piece
no_piece _ last piece = absurd last

no_file : (own : Incoming) → IsLast own → ¬ IsFile own
no_file End last file = file
no_file ReadFailed last file = file
no_file _ last file = absurd last

client_last : (own : Incoming) → IsLast own → (events : List Incoming) → from_client (own ∷ events) ≡ own
    ∷ from_client events
client_last End last events = refl
client_last ReadFailed last events = refl
client_last _ last events = absurd last

stream_last : (own : Incoming) → IsLast own → stream_of (own ∷ []) ≡ []
stream_last End last = refl
stream_last ReadFailed last = refl
stream_last _ last = absurd last

-- pieces alone have no such event
not_in_pieces : (pieces : List (List ℕ)) (xs ys : List Incoming) (own : Incoming) → ¬ IsPiece own
    → ¬ (xs ++ own ∷ ys ≡ map Piece pieces ++ [])
not_in_pieces [] [] ys own other e = absurd (search (e, rules))
not_in_pieces [] (x ∷ xs) ys own other e = absurd (search (e, rules))
not_in_pieces (p ∷ pieces) [] ys own other e =
    let same : Piece p ≡ own = search (e, rules) in
    other (subst IsPiece same tt)
not_in_pieces (p ∷ pieces) (x ∷ xs) ys own other e = not_in_pieces pieces xs ys own other (ap later_events e)

-- where one was sent, nothing was lost
loses_none : (pieces : List (List ℕ)) (end : ReadEnd) (lost : List Incoming) (mid later : Supply)
    → Loses end lost mid later → (xs ys : List Incoming) (own : Incoming) → ¬ IsPiece own
    → xs ++ own ∷ ys ≡ map Piece pieces ++ last_of end → later ≡ mid
loses_none pieces ends.Ended lost mid later loses xs ys own other e = loses.1
loses_none pieces ends.Failed lost mid later loses xs ys own other e = loses.1
loses_none pieces ends.NoMemory lost mid later loses xs ys own other e = loses.1
loses_none pieces ends.HandedBack lost mid later loses xs ys own other e =
    absurd (not_in_pieces pieces xs ys own other e)

-- ---- what the inbox gave

pub no_last_loads : (f : Dialect) (before : List Incoming) (e : Incoming) (load : Load) (own : Incoming)
    → IsLast own → IsLoad f before e load → ¬ (e ≡ own)
no_last_loads f before (File file) load own last is same = no_file own last (subst IsFile same tt)
no_last_loads f before _ load own last is same = absurd is

load_stream : (f : Dialect) (before : List Incoming) (e : Incoming) (load : Load) (events : List Incoming)
    → IsLoad f before e load
    → stream_of (e ∷ events) ≡ stream_of events
load_stream f before (File file) load events is = refl
load_stream f before _ load events is = absurd is

pub inbox_stream : (f : Dialect) (before events given : List Incoming) (loads : List Load)
    → Interleaves f before events given loads
    → stream_of given ≡ stream_of events
inbox_stream f before [] given loads from = ap stream_of from.0
inbox_stream f before (e ∷ events) given loads (inl from) =
    inbox_stream f (before ++ e ∷ []) events given from.1 from.4 ∙ sym (load_stream f before e from.0 events from.3)
inbox_stream f before (e ∷ events) given loads (inr from) =
    ap stream_of from.1 ∙ stream_more e from.0 events (inbox_stream f (before ++ e ∷ []) events from.0 loads from.3)

-- such an event is among those that the inbox gave, with the same pieces before it
record IsSplit (own : Incoming) (front back given : List Incoming) : Type 0 where
  pub first : List Incoming
  pub last : List Incoming
  pub given_are : given ≡ first ++ own ∷ last
  pub before : stream_of first ≡ stream_of front

split : (f : Dialect) (own : Incoming) → IsLast own → (so_far events given : List Incoming) (loads : List Load)
    → Interleaves f so_far events given loads
    → (front back : List Incoming) → events ≡ front ++ own ∷ back → IsSplit own front back given
split f own ends so_far [] given loads from [] back is = absurd cc
split f own ends so_far [] given loads from (x ∷ front) back is = absurd cc
split f own ends so_far (e ∷ events) given loads (inl from) [] back is =
    absurd (no_last_loads f so_far e from.0 own ends from.3 (ap (first_event own) is))
split f own ends so_far (e ∷ events) given loads (inl from) (x ∷ front) back is =
    let there = split f own ends (so_far ++ e ∷ []) events given from.1 from.4 front back (ap later_events is) in
    let kept : stream_of (x ∷ front) ≡ stream_of front =
    subst (λ y. stream_of (y ∷ front) ≡ stream_of front) (ap (first_event own) is)
    (load_stream f so_far e from.0 front from.3) in
    record {
      first =
          there.first;
      last = there.last;
      given_are = there.given_are;
      before = there.before
          ∙ sym kept;
    }
split f own ends so_far (e ∷ events) given loads (inr from) [] back is = record {
  first = [];
  last = from.0;
  given_are = from.1 ∙ ap (λ x. x ∷ from.0) (ap (first_event own) is);
  before = refl;
}
split f own ends so_far (e ∷ events) given loads (inr from) (x ∷ front) back is =
    let there = split f own ends (so_far ++ e ∷ []) events from.0 loads from.3 front back (ap later_events is) in
    record {
      first = e ∷ there.first;
      last = there.last;
      given_are = from.1 ∙ ap (λ l. e ∷ l) there.given_are;
      before = stream_more e there.first front there.before ∙ ap (λ y. stream_of (y ∷ front)) (ap (first_event own) is);
    }

-- ---- closed by the input's end or a failed read

-- All that was read of the input stands before the event that closed the session: pieces were read, and then that.
pub record TakesAll (own : Incoming) (front : List Incoming) (old later : Supply) : Type 0 where
  pub whole : IsReadOf (stream_of front) old later
  pub pieces : List Incoming
  pub read : AreRead (pieces ++ own ∷ []) old later

module _ (f : Dialect) (events given client : List Incoming) (loads : List Load) (end : ReadEnd) (old later : Supply)
    (from : Interleaves f [] events given loads) (read : IsReadUntil end client old later)
    (of_whole : ∥ IsOfWhole later ∥₁) (taken : from_client given ≡ client) (own : Incoming) (last : IsLast own) where
  pub takes_all : (front back : List Incoming) → events ≡ front ++ own ∷ back → TakesAll own front old later
  takes_all front back is = record {
    whole = record {
      appended = subst (λ l. Appends old.read later.read l) all
          (subst (λ (s : Supply). Appends old.read s.read (stream_of client)) (sym same)
          (read_stream client old read.mid read.read));
      of_whole = of_whole;
    };
    pieces = from_client parts.first;
    read = subst (λ s. AreRead (from_client parts.first ++ own ∷ []) old s) (sym same)
        (subst (λ l. AreRead l old read.mid) last_is read.read);
  }
    where
      parts : IsSplit own front back given
      parts = split f own last [] events given loads from front back is

      client_is : client ≡ from_client parts.first ++ own ∷ from_client parts.last
      client_is =
          sym taken ∙ ap from_client parts.given_are ∙ client_append parts.first (own ∷ parts.last)
          ∙ ap (λ l. from_client parts.first ++ l) (client_last own last parts.last)

      sent : from_client parts.first ++ own ∷ from_client parts.last ≡ map Piece read.pieces ++ last_of end
      sent = sym client_is ∙ read.sent_are

      none : from_client parts.last ≡ []
      none = last_sent read.pieces (last_of end) (from_client parts.first) (from_client parts.last) own (last_one end)
          (no_piece own last) sent

      last_is : client ≡ from_client parts.first ++ own ∷ []
      last_is = client_is ∙ ap (λ l. from_client parts.first ++ own ∷ l) none

      same : later ≡ read.mid
      same = loses_none read.pieces end read.lost read.mid later read.loses (from_client parts.first)
          (from_client parts.last) own (no_piece own last) sent

      all : stream_of client ≡ stream_of front
      all = ap stream_of last_is ∙ stream_append (from_client parts.first) (own ∷ [])
          ∙ ap (λ l. stream_of (from_client parts.first) ++ l) (stream_last own last)
          ∙ append-nil (stream_of (from_client parts.first))
          ∙ client_stream parts.first ∙ parts.before

-- ---- a prefix of what was read

-- the pieces that a session took, joined, are a prefix of what was read of the input
pub record BeginsRead (events : List Incoming) (old later : Supply) : Type 0 where
  pub read : List ℕ
  pub consumed : IsReadOf read old later
  pub begins : IsPrefixOf (stream_of events) read

pub begins_read : (f : Dialect) (events given client : List Incoming) (loads : List Load) (end : ReadEnd)
    (old later : Supply) → Interleaves f [] events given loads → IsReadUntil end client old later
    → ∥ IsOfWhole later ∥₁ → IsPrefixOf (from_client given) client → BeginsRead events old later
begins_read f events given client loads end old later from read of_whole taken = record {
  read = stream_of client ++ stream_of read.lost;
  consumed = record {
    appended =
        appends_both old.read read.mid.read later.read (stream_of client) (stream_of read.lost)
        (read_stream client old read.mid read.read) (lost_stream end read.lost read.mid later read.loses);
    of_whole = of_whole;
  };
  begins = (
    stream_of taken.0 ++ stream_of read.lost,
    sym (append_assoc (stream_of events) (stream_of taken.0) (stream_of read.lost))
        ∙ ap (λ l. l ++ stream_of read.lost) client_is,
  );
}
  where
    client_is : stream_of events ++ stream_of taken.0 ≡ stream_of client
    client_is =
        ap (λ l. l ++ stream_of taken.0) (sym (inbox_stream f [] events given loads from) ∙ sym (client_stream given))
        ∙ sym (stream_append (from_client given) taken.0) ∙ ap stream_of taken.1

-- ---- closed by a `disconnect`

record IsFound {A B : Type 0} (f : A → Option B) (xs : List A) (y : B) : Type 0 where
  pub front : List A
  pub found : A
  pub back : List A
  pub are : xs ≡ front ++ found ∷ back
  pub gives : f found ≡ Some y

find : {A B : Type 0} (f : A → Option B) (xs : List A) (y : B) → last_such f xs ≡ Some y → IsFound f xs y
find f [] y is = absurd cc
find {A} {B} f (x ∷ xs) y is = by_last (last_such f xs) refl is (λ later. find f xs y later)
  where
    by_last : (o : Option B) → last_such f xs ≡ o → or_else o (f x) ≡ Some y
        → (last_such f xs ≡ Some y → IsFound f xs y) → IsFound f (x ∷ xs) y
    by_last None same here further = record { front = []; found = x; back = xs; are = refl; gives = here }
    by_last (Some z) same there further =
        let more = further (same ∙ there) in
        record {
          front =
              x ∷ more.front;
          found = more.found;
          back = more.back;
          are = ap (λ l. x ∷ l) more.are;
          gives = more.gives;
        }

command_disconnects : (c : Command) → closing_command c ≡ Some (ending.Closed closed.Disconnected)
    → c ≡ command.Disconnect
command_disconnects command.Disconnect is = refl
command_disconnects _ is = absurd cc

report_disconnects_not : (outcome : SliceOutcome) → ¬
    (closing_report outcome ≡ Some (ending.Closed closed.Disconnected))
report_disconnects_not slice.NoMemory is = absurd cc
report_disconnects_not _ is = absurd cc

item_disconnects : (item : Item) → closing item ≡ Some (ending.Closed closed.Disconnected) → AsksToDisconnect item
item_disconnects (Content None) is = absurd cc
item_disconnects (Content (Some request)) is = (
  request.seq,
  ap (λ c. Content (Some (record { seq = request.seq; body = c })))
      (command_disconnects request.body is),
)
item_disconnects (Loaded launch file) is = absurd cc
item_disconnects (Accepted r) is = absurd (report_disconnects_not r.outcome is)
item_disconnects (Fault k) is = absurd cc
item_disconnects InputEnd is = absurd cc
item_disconnects ReadFailure is = absurd cc
item_disconnects MemoryFailure is = absurd cc

not_none : {A : Type 0} (xs : List A) (x : A) → ¬ (xs ++ x ∷ [] ≡ [])
not_none [] x is = absurd cc
not_none (y ∷ xs) x is = absurd cc

module _ (last : DisconnectIsLast) (f : Dialect) (events : List Incoming) (old later : Supply)
    (all : BeginsRead events old later) where
  first_disconnect : (past : History) (rest : Rest) → IsHistoryOf f events past rest
      → ending_of past ≡ Some (ending.Closed closed.Disconnected) → TakesFirstDisconnect f events old later
  first_disconnect past rest history is = record {
    read = all.read;
    consumed = all.consumed;
    begins = all.begins;
    before = closer.front;
    step = closer.found;
    rest = rest;
    history = subst (λ h. IsHistoryOf f events h rest) past_is history;
    asks = asks;
    first = λ front other back before_is others.
        not_none back closer.found (last f events past rest history front other (back ++ closer.found ∷ []) others.0
        (past_is ∙ ap (λ l. l ++ closer.found ∷ []) before_is ∙ append_assoc front (other ∷ back) (closer.found ∷ []))
        others.1).0;
  }
    where
      closer : IsFound (λ (step : Step). closing step.item) past (ending.Closed closed.Disconnected)
      closer = find (λ (step : Step). closing step.item) past (ending.Closed closed.Disconnected) is

      asks : AsksToDisconnect closer.found.item
      asks = item_disconnects closer.found.item closer.gives

      past_is : past ≡ closer.front ++ closer.found ∷ []
      past_is =
          closer.are ∙ ap (λ l. closer.front ++ closer.found ∷ l)
          (last f events past rest history closer.front closer.found closer.back asks.0 closer.are asks.1).0

pub first_disconnect_closes : DisconnectIsLast → FirstDisconnectCloses
first_disconnect_closes last f wrote before after driven = by_drives session.drives
  where
    session : SessionSends f (Ok closed.Disconnected) driven.given driven.sent before.loads after.loads
    session = driven.session

    by_drives : SessionOutcome f session.events driven.given session.loaded nothing_sent driven.sent
        (Ok closed.Disconnected)
        → TakesFirstDisconnect f session.events before.streams.input after.streams.input
    by_drives (closes from serves) =
        first_disconnect last f session.events before.streams.input after.streams.input
        (begins_read f session.events driven.given driven.reader.client session.loaded driven.reader.end
        before.streams.input after.streams.input from driven.reader.read driven.reader.of_whole
        driven.reader.client_taken)
        serves.past serves.rest serves.history serves.ending_is
