-- All that was read is answered, where the input's end or a failed read closed the session.
use Rattle.std.proofs.Common.{◌≡◌, ◌⊎◌, inl, inr, ◌<◌, ◌≤◌, ℕ, arith, List, [], ◌∷◌, ◌++◌, Option, None, Some, Ok, refl, sym, ap, ◌∙◌, subst, append_assoc, append-nil}
use Rattle.std.specs.Prelude.{map}
use Rattle.std.specs.List.{concat, filter_map, cons_option}
use Rattle.std.proofs.lemmas.List.{map-append}
use Rattle.std.proofs.lemmas.List.Elements.{filter_map-append}
use Rattle.dap_frame.specs.Frame.{Frames}
use Rattle.dap_msg.specs.declared.request.Request.{Request}
use Rattle.dap_msg.specs.declared.request.Dialect.{Dialect}
use Rattle.dap_history.specs.declared.ending.Closed.{Closed}
use Rattle.dap_history.specs.declared.ending.Closed.TheVariants as closed
use Rattle.dap_history.specs.declared.ending.Ending.TheVariants as ending
use Rattle.dap_history.specs.Events.{Incoming, Piece, End, ReadFailed, File, Report, Rest, only_bytes, IsTaking, MayTake, LeadsByEvent, LeadsByEvents, IsHistoryOf}
use Rattle.dap_history.specs.Events.{NoMemory as NoMemoryCame}
use Rattle.dap_history.specs.History.{Item, Content, Loaded, Accepted, Fault, InputEnd, ReadFailure, MemoryFailure, Step, History, messages_of}
use Rattle.dap_history.specs.Emission.{IsAfter}
use Rattle.dap_history.specs.Readings.{ending_of}
use Rattle.dap_history.specs.Interleaving.{Load, AwaitsNone, Interleaves}
use Rattle.dap_history.specs.Laws.{stream_of, HistoryIsOne, ContentsAreOfTheStream, EachIsAnsweredOnce, RestIsOpen, ClosedByItsEvent, IsAmong, AreReadAs, contents_read, read_as, waiting, request_of_item}
use Rattle.dap_history.specs.Taken.{EventsAreTaken, EachItemEndsOrNot, ends_by}
use Rattle.dap_session.proofs.Standing.{leads_one_more}
use Rattle.dap_session.specs.Serving.{ReachesLast, SessionOutcome, closes}
use Rattle.dap_wires.specs.Senders.{from_client}
use Rattle.dap_wires.specs.Transfer.{IsRead, AreRead}
use Rattle.byte_streams.specs.Streams.{Supply, WritesAll}
use Rattle.adapter.specs.AllRead.{asked, AnswersAll, ClosesBy, AnswersAllRead, AllReadIsAnswered}
use Rattle.adapter.specs.Laws.{TakesWholeInput, InputIsTakenWhole}
use Rattle.adapter.specs.Serving.{World, nothing_sent, TasksEnd}
use Rattle.dap_history.proofs.Closings.{first_event, later_events}
use Rattle.adapter.proofs.InputTaken.{IsLast, no_last_loads, takes_all, read_to_end}
use Rattle.adapter.proofs.SessionFaults.{outcome_is_of_session}

-- the laws of the histories of sessions that the law follows from
pub record HistoryLaws : Type 0 where
  pub one : HistoryIsOne
  pub contents : ContentsAreOfTheStream
  pub answered : EachIsAnsweredOnce
  pub unread : RestIsOpen
  pub closed_by : ClosedByItsEvent
  pub taken : EventsAreTaken
  pub ends : EachItemEndsOrNot

-- ---- the first such event

pub record FirstSuch (own : Incoming) (events : List Incoming) : Type 0 where
  pub front : List Incoming
  pub back : List Incoming
  pub are : events ≡ front ++ own ∷ back
  pub first : ¬ IsAmong own front

none_in_none : (own : Incoming) → ¬ IsAmong own []
none_in_none own ([], back, is) = absurd cc
none_in_none own (x ∷ front, back, is) = absurd cc

none_before : (own e : Incoming) (events : List Incoming) → ¬ (own ≡ e) → ¬ IsAmong own events
    → ¬ IsAmong own (e ∷ events)
none_before own e events other none ([], back, is) = other (sym (ap (first_event own) is))
none_before own e events other none (x ∷ front, back, is) = none (front, back, ap later_events is)

first_such : (own : Incoming) → ((e : Incoming) → (own ≡ e) ⊎ ¬ (own ≡ e)) → (events front back : List Incoming)
    → events ≡ front ++ own ∷ back → FirstSuch own events
first_such own known [] [] back is = absurd cc
first_such own known [] (x ∷ front) back is = absurd cc
first_such own known (e ∷ events) front back is =
    by_head (known e) front is (λ front back is. first_such own known events front back is)
  where
    by_head : (own ≡ e) ⊎ ¬ (own ≡ e) → (front : List Incoming) → e ∷ events ≡ front ++ own ∷ back
        → ((front back : List Incoming) → events ≡ front ++ own ∷ back → FirstSuch own events)
        → FirstSuch own (e ∷ events)
    by_head (inl same) front is later = record {
      front = [];
      back = events;
      are = ap (λ x. x ∷ events) (sym same);
      first = none_in_none own;
    }
    by_head (inr other) [] is later = absurd (other (sym (ap (first_event own) is)))
    by_head (inr other) (x ∷ front) is later =
        let more = later front back (ap later_events is) in
        record {
          front = e ∷ more.front;
          back = more.back;
          are = ap (λ l. e ∷ l) more.are;
          first = none_before own e more.front other more.first;
        }

-- ---- where the event came, no launch waited

one_further : (f : Dialect) (so_far : List Incoming) (e x : Incoming) (front : List Incoming) → e ≡ x
    → AwaitsNone f ((so_far ++ e ∷ []) ++ front) → AwaitsNone f (so_far ++ x ∷ front)
one_further f so_far e x front same none =
    subst (λ y. AwaitsNone f (so_far ++ y ∷ front)) same
    (subst (AwaitsNone f) (append_assoc so_far (e ∷ []) front) none)

awaits_none : (f : Dialect) (own : Incoming) → IsLast own → (so_far events given : List Incoming) (loads : List Load)
    → Interleaves f so_far events given loads
    → (front back : List Incoming) → events ≡ front ++ own ∷ back → AwaitsNone f (so_far ++ front)
awaits_none f own last so_far [] given loads from [] back is = absurd cc
awaits_none f own last so_far [] given loads from (x ∷ front) back is = absurd cc
awaits_none f own last so_far (e ∷ events) given loads (inl from) [] back is =
    absurd (no_last_loads f so_far e from.0 own last from.3 (ap (first_event own) is))
awaits_none f own last so_far (e ∷ events) given loads (inl from) (x ∷ front) back is =
    one_further f so_far e x front (ap (first_event own) is)
    (awaits_none f own last (so_far ++ e ∷ []) events given from.1 from.4 front back (ap later_events is))
awaits_none f own last so_far (e ∷ events) given loads (inr from) [] back is =
    subst (AwaitsNone f) (sym (append-nil so_far)) from.2
awaits_none f own last so_far (e ∷ events) given loads (inr from) (x ∷ front) back is =
    one_further f so_far e x front (ap (first_event own) is)
    (awaits_none f own last (so_far ++ e ∷ []) events from.0 loads from.3 front back (ap later_events is))

-- ---- the history up to the event, and after it

record IsParted (f : Dialect) (past : History) (rest : Rest) (front : List Incoming) (own : Incoming)
    (back : List Incoming)
    (new : History) (left : Rest) : Type 0 where
  pub mid : History
  pub between : Rest
  pub next : History
  pub after : Rest
  pub before : LeadsByEvents f past rest front mid between
  pub at : LeadsByEvent f mid between own next after
  pub later : LeadsByEvents f next after back new left

parted : (f : Dialect) (past : History) (rest : Rest) (front : List Incoming) (own : Incoming) (back : List Incoming)
    (new : History)
    (left : Rest) → LeadsByEvents f past rest (front ++ own ∷ back) new left
    → IsParted f past rest front own back new left
parted f past rest [] own back new left all = record {
  mid = past;
  between = rest;
  next = all.0;
  after = all.1;
  before = (refl, refl);
  at = all.2;
  later = all.3;
}
parted f past rest (e ∷ front) own back new left all =
    let more = parted f all.0 all.1 front own back new left all.3 in
    record {
      mid = more.mid;
      between = more.between;
      next = more.next;
      after = more.after;
      before = (all.0, all.1, all.2, more.before);
      at = more.at;
      later = more.later;
    }

-- the same of a history from its beginning
record IsHistoryParted (f : Dialect) (front : List Incoming) (own : Incoming) (back : List Incoming) (new : History)
    (left : Rest)
    : Type 0 where
  pub mid : History
  pub between : Rest
  pub next : History
  pub after : Rest
  pub before : IsHistoryOf f front mid between
  pub at : LeadsByEvent f mid between own next after
  pub up_to : IsHistoryOf f (front ++ own ∷ []) next after
  pub later : LeadsByEvents f next after back new left

history_parted : (f : Dialect) (front : List Incoming) (own : Incoming) (back : List Incoming) (new : History)
    (left : Rest)
    → IsHistoryOf f (front ++ own ∷ back) new left → IsHistoryParted f front own back new left
history_parted f front own back new left history = record {
  mid = parts.mid;
  between = parts.between;
  next = parts.next;
  after = parts.after;
  before = parts.before;
  at = parts.at;
  up_to = leads_one_more f [] (only_bytes []) front parts.mid parts.between own parts.next parts.after parts.before
      parts.at;
  later = parts.later;
}
  where
    parts : IsParted f [] (only_bytes []) front own back new left
    parts = parted f [] (only_bytes []) front own back new left history

-- a session that is over takes nothing more
stays : EventsAreTaken → (f : Dialect) (events back : List Incoming) (mid : History) (between : Rest) (new : History)
    (left : Rest)
    → IsHistoryOf f events mid between → ¬ IsTaking mid → LeadsByEvents f mid between back new left → new ≡ mid
stays taken f events [] mid between new left history over all = all.0
stays taken f events (e ∷ back) mid between new left history over all =
    let next = leads_one_more f [] (only_bytes []) events mid between e all.0 all.1 history all.2 in
    let same : all.0 ≡ mid = (taken f events e mid all.0 between all.1 history next).1 over in
    stays taken f (events ++ e ∷ []) back all.0 all.1 new left next (subst (λ h. ¬ IsTaking h) (sym same) over) all.3
    ∙ same

-- ---- requests

pub asked_are : (items : List Item) → filter_map asked (filter_map read_as items) ≡ filter_map request_of_item items
asked_are [] = refl
asked_are (Content None ∷ items) = asked_are items
asked_are (Content (Some request) ∷ items) =
    ap (cons_option (request_of_item (Content (Some request)))) (asked_are items)
asked_are (Loaded launch file ∷ items) =
    ap (cons_option (request_of_item (Loaded launch file))) (asked_are items)
asked_are (Accepted r ∷ items) = asked_are items
asked_are (Fault k ∷ items) = asked_are items
asked_are (InputEnd ∷ items) = asked_are items
asked_are (ReadFailure ∷ items) = asked_are items
asked_are (MemoryFailure ∷ items) = asked_are items

abbrev pub items_of : History → List Item
items_of past = map (λ (step : Step). step.item) past

-- one more item that is no request
none_asked : (past : History) (step : Step) → request_of_item step.item ≡ None
    → filter_map request_of_item (items_of (past ++ step ∷ [])) ≡ filter_map request_of_item (items_of past)
none_asked past step none =
    ap (filter_map request_of_item) (map-append (λ (s : Step). s.item) past (step ∷ []))
    ∙ filter_map-append request_of_item (items_of past) (step.item ∷ [])
    ∙ ap (λ o. filter_map request_of_item (items_of past) ++ cons_option o []) none
    ∙ append-nil (filter_map request_of_item (items_of past))

-- ---- what is answered

-- an event that closes a session, and the item that it is
pub record Closing (by : Closed) (own : Incoming) (item : Item) : Type 0 where
  pub last : IsLast own
  pub known : (e : Incoming) → (own ≡ e) ⊎ ¬ (own ≡ e)
  pub takes : (f : Dialect) (past : History) (rest : Rest) (new : History) (left : Rest)
      → LeadsByEvent f past rest own new left
      → MayTake past item new
  pub unasked : request_of_item item ≡ None
  pub ends : ends_by item ≡ Some (ending.Closed by)
  pub among : (f : Dialect) (events : List Incoming) (past : History) (rest : Rest) → IsHistoryOf f events past rest
      → ending_of past ≡ Some (ending.Closed by) → IsAmong own events

-- a session that took it is over
closes_there : EachItemEndsOrNot → {by : Closed} {own : Incoming} {item : Item} → Closing by own item
    → {f : Dialect} {front back : List Incoming} {new : History} {left : Rest}
    → (parts : IsHistoryParted f front own back new left)
    → IsAfter parts.mid item parts.next → ¬ IsTaking parts.next
closes_there ends_or_not {by} {own} {item} closing {f} {front} {back} {new} {left} parts after still =
    let ends = (ends_or_not f (front ++ own ∷ []) parts.next parts.after parts.up_to parts.mid after.step []
    after.new_is).1 in
    let e : None ≡ Some (ending.Closed by) =
    sym still ∙ ap ending_of after.new_is ∙ ends ∙ ap ends_by after.item_is ∙ closing.ends in
    absurd cc

pub record AnswersUpTo (own : Incoming) (f : Dialect) (events : List Incoming) (past : History) : Type 0 where
  pub front : List Incoming
  pub back : List Incoming
  pub events_are : events ≡ front ++ own ∷ back
  pub answers : AnswersAll f (stream_of front) (messages_of past)

module _ (laws : HistoryLaws) (f : Dialect) (events given : List Incoming) (loads : List Load)
    (from : Interleaves f [] events given loads) (past : History) (rest : Rest)
    (history : IsHistoryOf f events past rest) (by : Closed) (own : Incoming) (item : Item)
    (closing : Closing by own item) (ending_is : ending_of past ≡ Some (ending.Closed by)) where
  pub answers_up_to : AnswersUpTo own f events past
  answers_up_to = record {
    front = such.front;
    back = such.back;
    events_are = such.are;
    answers = record {
      requests = requests;
      rest = parts.between.bytes;
      unfinished = (laws.unread f such.front parts.mid parts.between parts.before way.0).0 none_waits;
      answers = record {
        contents = told.0;
        frames = told.1;
        read = subst (AreReadAs f told.0) (ap (λ o. requests ++ waiting o) none_waits ∙ append-nil requests) told.2;
        answers = laws.answered f events past rest history
            ∙ ap (λ h. filter_map request_of_item (items_of h)) past_is
            ∙ none_asked parts.mid step (ap request_of_item way.1.item_is ∙ closing.unasked)
            ∙ sym (asked_are (items_of parts.mid));
      };
    };
  }
    where
      there : IsAmong own events
      there = closing.among f events past rest history ending_is

      such : FirstSuch own events
      such = first_such own closing.known events there.0 there.1 there.2

      parts : IsHistoryParted f such.front own such.back past rest
      parts = history_parted f such.front own such.back past rest
          (subst (λ l. IsHistoryOf f l past rest) such.are history)

      -- it was not over before
      was_taken : MayTake parts.mid item parts.next → IsTaking parts.mid × IsAfter parts.mid item parts.next
      was_taken (inr is) = is
      was_taken (inl is) =
          let same : past ≡ parts.mid =
          stays laws.taken f such.front (own ∷ such.back) parts.mid parts.between past rest parts.before is.0
          (parts.next, parts.after, parts.at, parts.later) in
          absurd (such.first (closing.among f such.front parts.mid parts.between parts.before
          (ap ending_of (sym same) ∙ ending_is)))

      way : IsTaking parts.mid × IsAfter parts.mid item parts.next
      way = was_taken (closing.takes f parts.mid parts.between parts.next parts.after parts.at)

      step : Step
      step = way.1.step

      past_is : past ≡ parts.mid ++ step ∷ []
      past_is =
          stays laws.taken f (such.front ++ own ∷ []) such.back parts.next parts.after past rest parts.up_to
          (closes_there laws.ends closing parts way.1) parts.later
          ∙ way.1.new_is

      awaits : AwaitsNone f such.front
      awaits = awaits_none f own closing.last [] events given loads from such.front such.back such.are

      same_there : (parts.mid ≡ awaits.past) × (parts.between ≡ awaits.rest)
      same_there = laws.one f such.front parts.mid awaits.past parts.between awaits.rest parts.before awaits.history

      by_waits : (¬ IsTaking awaits.past) ⊎ (awaits.rest.launch ≡ None) → parts.between.launch ≡ None
      by_waits (inl over) = absurd (over (subst (λ h. IsTaking h) same_there.0 way.0))
      by_waits (inr none) = ap (λ (r : Rest). r.launch) same_there.1 ∙ none

      none_waits : parts.between.launch ≡ None
      none_waits = by_waits awaits.waits

      requests : List (Option Request)
      requests = filter_map read_as (items_of parts.mid)

      told : (contents : List (List ℕ)) × Frames (stream_of such.front) contents parts.between.bytes
          × AreReadAs f contents (contents_read parts.mid parts.between.launch)
      told = laws.contents f such.front parts.mid parts.between parts.before

-- ---- no event comes after one that closes a session

-- of events of which it isn't the last it is among those before the last
among_earlier : (own last other : Incoming) (front back earlier : List Incoming)
    → front ++ own ∷ (other ∷ back) ≡ earlier ++ last ∷ [] → IsAmong own earlier
among_earlier own last other [] back [] is = let e = ap later_events is in absurd cc
among_earlier own last other [] back (x ∷ earlier) is =
    ([], earlier, ap (λ e. e ∷ earlier) (sym (ap (first_event own) is)))
among_earlier own last other (x ∷ []) back [] is = let e = ap later_events is in absurd cc
among_earlier own last other (x ∷ y ∷ front) back [] is = let e = ap later_events is in absurd cc
among_earlier own last other (x ∷ front) back (y ∷ earlier) is =
    let there = among_earlier own last other front back earlier (ap later_events is) in
    (y ∷ there.0, there.1, ap (λ l. y ∷ l) there.2)

-- a session that takes items has taken none
none_taken : EventsAreTaken → EachItemEndsOrNot → {by : Closed} {own : Incoming} {item : Item} → Closing by own item
    → (f : Dialect) (events : List Incoming) (past : History) (rest : Rest) → IsHistoryOf f events past rest
    → IsTaking past
    → ¬ IsAmong own events
none_taken taken ends {by} {own} {item} closing f events past rest history taking (front, back, is) =
    over (closing.takes f parts.mid parts.between parts.next parts.after parts.at)
  where
    parts : IsHistoryParted f front own back past rest
    parts = history_parted f front own back past rest (subst (λ l. IsHistoryOf f l past rest) is history)

    over : MayTake parts.mid item parts.next → ⊥
    over (inl before) =
        before.0 (subst IsTaking
        (stays taken f front (own ∷ back) parts.mid parts.between past rest parts.before before.0
        (parts.next, parts.after, parts.at, parts.later))
        taking)
    over (inr there) =
        let closed_there = closes_there ends closing parts there.1 in
        closed_there (subst IsTaking
        (stays taken f (front ++ own ∷ []) back parts.next parts.after past rest parts.up_to closed_there parts.later)
        taking)

nothing_after : EventsAreTaken → EachItemEndsOrNot → {by : Closed} {own : Incoming} {item : Item} → Closing by own item
    → {f : Dialect} {events : List Incoming} → ReachesLast f events
    → (front back : List Incoming) → events ≡ front ++ own ∷ back → back ≡ []
nothing_after taken ends closing reaches front [] is = refl
nothing_after taken ends {by} {own} closing {f = f} reaches front (other ∷ back) is =
    absurd (none_taken taken ends closing f reaches.before reaches.past reaches.rest reaches.history reaches.taking
    (among_earlier own reaches.last other front back reaches.before (sym is ∙ reaches.events_are)))

-- ---- all together

known_end : (e : Incoming) → (End ≡ e) ⊎ ¬ (End ≡ e)
known_end End = inl refl
known_end _ = inr (λ same. absurd cc)

known_failure : (e : Incoming) → (ReadFailed ≡ e) ⊎ ¬ (ReadFailed ≡ e)
known_failure ReadFailed = inl refl
known_failure _ = inr (λ same. absurd cc)

by_end : ClosedByItsEvent → Closing closed.InputEnded End InputEnd
by_end closed_by = record {
  last = tt;
  known = known_end;
  takes = λ f past rest new left leads. leads.0;
  unasked = refl;
  ends = refl;
  among = λ f events past rest history is. (closed_by f events past rest history).0 is;
}

by_failure : ClosedByItsEvent → Closing closed.ReadFailed ReadFailed ReadFailure
by_failure closed_by = record {
  last = tt;
  known = known_failure;
  takes = λ f past rest new left leads. leads.0;
  unasked = refl;
  ends = refl;
  among = λ f events past rest history is. (closed_by f events past rest history).1 is;
}

failures_grow : (e : Incoming) (old later : Supply) → IsRead e old later → old.failures ≤ later.failures
failures_grow (Piece p) old later read = let same = read.2 in omega (arith, same)
failures_grow End old later read = let same = read.2 in omega (arith, same)
failures_grow ReadFailed old later read = let more = read.1 in omega (arith, more)
failures_grow NoMemoryCame old later read = let same = read.1 in omega (arith, same)
failures_grow (File file) old later read = absurd read
failures_grow (Report r) old later same =
    subst (λ (s : Supply). old.failures ≤ s.failures) (sym same) (omega arith)

-- a read that failed is counted
read_fails : (events : List Incoming) (old later : Supply) → AreRead (events ++ ReadFailed ∷ []) old later
    → old.failures < later.failures
read_fails [] old later read =
    subst (λ (s : Supply). old.failures < s.failures) (sym read.2) read.1.1
read_fails (e ∷ events) old later read =
    let a = failures_grow e old read.0 read.1 in let b = read_fails events read.0 later read.2 in omega (arith, a, b)

answers_all_read : HistoryLaws → (f : Dialect) (before after : World) (by : Closed) (own : Incoming) (item : Item)
    → Closing by own item → (driven : TasksEnd f (Ok tt) (Ok by) before after)
    → from_client driven.given ≡ driven.reader.client
    → ((pieces : List Incoming) → AreRead (pieces ++ own ∷ []) before.streams.input after.streams.input
    → ClosesBy by before.streams.input after.streams.input)
    → SessionOutcome f driven.session.events driven.given driven.session.loaded nothing_sent driven.sent (Ok by)
    → AnswersAllRead f by before after
answers_all_read laws f before after by own item closing driven taken ends (closes from serves) =
    let told =
    answers_up_to laws f driven.session.events driven.given driven.session.loaded from serves.past serves.rest
    serves.history by own item closing serves.ending_is in
    let all =
    takes_all f driven.session.events driven.given driven.reader.client driven.session.loaded driven.reader.end
    before.streams.input after.streams.input from driven.reader.read driven.reader.of_whole taken own closing.last
    told.front
    told.back told.events_are in
    record {
      read = stream_of told.front;
      consumed = all.whole;
      ends = ends all.pieces all.read;
      messages = messages_of serves.past;
      answers = told.answers;
      written = subst (λ frames. WritesAll (concat frames) before.streams.output after.streams.output)
          serves.frames_are driven.writer.written;
    }

pub all_read_is_answered : HistoryLaws → AllReadIsAnswered
all_read_is_answered laws f outcome closed.Disconnected before after served is other = absurd (other refl)
all_read_is_answered laws f outcome closed.InputEnded before after served is other =
    let driven = outcome_is_of_session f outcome closed.InputEnded before after served is in
    answers_all_read laws f before after closed.InputEnded End InputEnd (by_end laws.closed_by) driven
    driven.reader.client_taken
    (λ pieces read. read_to_end pieces before.streams.input after.streams.input read) driven.session.drives
all_read_is_answered laws f outcome closed.ReadFailed before after served is other =
    let driven = outcome_is_of_session f outcome closed.ReadFailed before after served is in
    answers_all_read laws f before after closed.ReadFailed ReadFailed ReadFailure (by_failure laws.closed_by) driven
    driven.reader.client_taken
    (λ pieces read. read_fails pieces before.streams.input after.streams.input read) driven.session.drives

pub input_taken_whole : EventsAreTaken → EachItemEndsOrNot → ClosedByItsEvent → InputIsTakenWhole
input_taken_whole taken ends closed_by f wrote before after driven = by_drives driven.session.drives
  where
    by_drives : SessionOutcome f driven.session.events driven.given driven.session.loaded nothing_sent driven.sent
        (Ok closed.InputEnded)
        → TakesWholeInput driven.session.events before.streams.input after.streams.input
    by_drives (closes from serves) =
        let there : IsAmong End driven.session.events =
        (by_end closed_by).among f driven.session.events serves.past serves.rest serves.history serves.ending_is in
        let all =
        takes_all f driven.session.events driven.given driven.reader.client driven.session.loaded driven.reader.end
        before.streams.input after.streams.input from driven.reader.read driven.reader.of_whole
        driven.reader.client_taken End tt
        there.0 there.1 there.2 in
        record {
          front = there.0;
          events_are = there.2
              ∙ ap (λ back. there.0 ++ End ∷ back)
              (nothing_after taken ends (by_end closed_by) serves.reaches there.0 there.1 there.2);
          whole = all.whole;
          at_end = read_to_end all.pieces before.streams.input after.streams.input all.read;
        }
