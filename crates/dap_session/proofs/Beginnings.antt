-- What a session sent is a prefix of what the history gives that it reached.
use Rattle.std.proofs.Common.{◌≡◌, ◌⊎◌, inl, inr, ℕ, suc, ◌+◌, ◌≤◌, ◌<◌, ◌^◌, List, [], ◌∷◌, ◌++◌, length, Option, None, Some, Result, Ok, Err, refl, sym, ◌∙◌, ap, subst, append_assoc, append-nil, length-append, arith, lit≤}
use Rattle.std.proofs.lemmas.Grind.{flat_map-append, common_steps}
use Rattle.dap_msg.specs.declared.outgoing.Outgoing.{Outgoing}
use Rattle.dap_msg.specs.declared.request.Dialect.{Dialect}
use Rattle.dbg_runner.specs.Plain.{PlainOrder, PlainReport}
use Rattle.dap_history.specs.declared.ending.Closed.{Closed}
use Rattle.dap_history.specs.declared.ending.Ending.{Ending}
use Rattle.dap_history.specs.declared.ending.Ending.TheVariants as ending
use Rattle.dap_history.specs.declared.launch.Launch.{Launch}
use Rattle.dap_history.specs.declared.fault.LoadFault.{LoadFault}
use Rattle.dap_history.specs.declared.fault.LoadFault.TheVariants as load_fault
use Rattle.dap_history.specs.declared.fault.SessionFault.{SessionFault}
use Rattle.dap_history.specs.declared.fault.SessionFault.TheVariants.{Frame, NoMemory, SeqExhausted, OrdersFull, RunnerGone, WriterGone}
use Rattle.dap_history.specs.History.{Item, Content, Loaded, Accepted, InputEnd, ReadFailure, MemoryFailure, History, messages, messages_of, orders_of, next_seq}
use Rattle.dap_history.specs.Emission.{IsAfter}
use Rattle.dap_history.specs.Events.{Incoming, Piece, End, ReadFailed, File, Report, Rest, IsTaking, AreLawful, TakesSome, no_content, one_content, Rests, closed, open_ended, faulty, waits, Takes, MayTake, LeadsByPiece, LeadsByFile, LeadsByReport, LeadsByEvent, IsHistoryOf}
use Rattle.dap_history.specs.Events.{NoMemory as NoMemoryCame}
use Rattle.dap_history.specs.Laws.{HistoryIsOne}
use Rattle.dap_history.specs.Interleaving.{Load}
use Rattle.dap_history.specs.Output.{frames_from}
use Rattle.dap_history.specs.Reports.{Accepts}
use Rattle.dap_history.proofs.Takings.{leads_last}
use Rattle.dap_history.proofs.OneHistory.{IsReadOnce, further}
use Rattle.dap_session.specs.Ports.{Ports}
use Rattle.dap_session.specs.Sending.{Sends, IsPrefixOf, PushesSome, PutsSome, BreaksOff, TriesQuit}
use Rattle.dap_session.specs.Taking.{TowardByPiece, LoadsToward, Toward, EventGivesUp}
use Rattle.dap_session.specs.Serving.{Serves, StopsShort, SessionOutcome, closes, ends_at_fault, runs_out_of_memory, gives_up}
use Rattle.dap_session.specs.Laws.{IsOnTheWay, IsReached, FaultsLeavePrefixes}
use Rattle.dap_session.proofs.Joining.{frames_from-append, sends_both}
use Rattle.dap_session.proofs.Driven.{lawful_apart}
use Rattle.dap_session.proofs.Retaken.{retaken, retaken_toward}

-- ---- beginnings

begins_same : {A : Type 0} (xs ys : List A) → xs ≡ ys → IsPrefixOf xs ys
begins_same xs ys is = ([], append-nil xs ∙ is)

begins_both : {A : Type 0} (xs ys zs : List A) → IsPrefixOf xs ys → IsPrefixOf ys zs → IsPrefixOf xs zs
begins_both xs ys zs first next = (first.0 ++ next.0, cc (append_assoc xs first.0 next.0, first.1, next.1))

-- a prefix of what is added, after what was there
begins_after : {A : Type 0} (xs ys zs : List A) → IsPrefixOf ys zs → IsPrefixOf (xs ++ ys) (xs ++ zs)
begins_after xs ys zs is = (is.0, append_assoc xs ys is.0 ∙ ap (λ l. xs ++ l) is.1)

begins_front : {A : Type 0} (xs ys zs : List A) → IsPrefixOf (xs ++ ys) zs → IsPrefixOf xs zs
begins_front xs ys zs is = (ys ++ is.0, sym (append_assoc xs ys is.0) ∙ is.1)

begins_longer : (past : History) (item : Item) (new : History) → IsAfter past item new → IsPrefixOf past new
begins_longer past item new after = (after.step ∷ [], sym after.new_is)

-- ---- what longer histories send

messages_begin : (past new : History) → IsPrefixOf past new → IsPrefixOf (messages_of past) (messages_of new)
messages_begin past new is = (messages_of is.0, sym (flat_map-append messages past is.0) ∙ ap messages_of is.1)

frames_begin : (past new : History) → IsPrefixOf past new → IsPrefixOf (frames_from 1 (messages_of past))
    (frames_from 1 (messages_of new))
frames_begin past new is =
    let more = messages_begin past new is in (
      frames_from (1 + length (messages_of past)) more.0,
      sym (frames_from-append 1 (messages_of past) more.0)
          ∙ ap (frames_from 1) more.1,
    )

orders_begin : (past new : History) → IsPrefixOf past new → IsPrefixOf (orders_of past) (orders_of new)
orders_begin past new is =
    (orders_of is.0, sym (flat_map-append (λ step. step.effect.orders) past is.0) ∙ ap orders_of is.1)

-- ---- an event that was taken in part

some_longer : {f : Dialect} {past new : History} {bytes left : List ℕ} → TakesSome f past bytes new left
    → IsPrefixOf past new
some_longer {past = past} no_content = begins_same past past refl
some_longer {past = past} {new = new} (one_content {mid = mid} request taking front unwanted after some) =
    begins_both past mid new (begins_longer past (Content request) mid after) (some_longer some)

rests_longer : {f : Dialect} {past new : History} {bytes : List ℕ} {rest : Rest} → Rests f past bytes new rest
    → IsPrefixOf past new
rests_longer {past = past} (closed not) = begins_same past past refl
rests_longer {past = past} (open_ended taking is) = begins_same past past refl
rests_longer {past = past} (faulty k new taking fault after) = begins_longer past _ new after
rests_longer {past = past} (waits request launch more taking front wanted) = begins_same past past refl

takes_begin : (f : Dialect) (past new : History) (bytes : List ℕ) (rest : Rest) → Takes f past bytes new rest
    → IsPrefixOf past new
takes_begin f past new bytes rest taken = begins_both past taken.0 new (some_longer taken.2) (rests_longer taken.3)

module _ (once : IsReadOnce) where
  -- what was taken is a prefix of all that can be
  some_begin : (f : Dialect) (past mid new : History) (bytes left : List ℕ) (rest : Rest)
      → TakesSome f past bytes mid left
      → Takes f past bytes new rest → IsPrefixOf mid new
  some_begin f past mid new bytes left rest some all =
      begins_both mid all.0 new (some_longer (further once some all.2 all.3)) (rests_longer all.3)

  may_begin : (past : History) (item : Item) (new : History) → MayTake past item new → IsPrefixOf past new
  may_begin past item new (inl is) = begins_same past new (sym is.1)
  may_begin past item new (inr is) = begins_longer past item new is.1

  item_begins : (past : History) (item : Item) (next new : History) → IsTaking past → (next ≡ past)
      ⊎ IsAfter past item next → MayTake past item new → IsPrefixOf next new
  item_begins past item next new taking (inl same) may = rw same (may_begin past item new may)
  item_begins past item next new taking (inr after) (inl is) = absurd (is.0 taking)
  item_begins past item next new taking (inr after) (inr is) =
      begins_same next new (once.one_after past item next new after is.1)

  piece_begins : (f : Dialect) (past : History) (launch : Option Launch) (bytes : List ℕ) (next new : History)
      (left : Rest)
      → TowardByPiece f past launch bytes next → LeadsByPiece f past launch bytes new left → IsPrefixOf next new
  piece_begins f past None bytes next new left toward leads =
      some_begin f past next new bytes toward.0 left toward.1 leads
  piece_begins f past (Some launch) bytes next new left toward leads = begins_same next new (toward ∙ sym leads.0)

  -- a launch was made with its file, and some contents after it were taken
  loaded_begins : (f : Dialect) (past : History) (launch : Launch) (file : Option (List ℕ)) (bytes : List ℕ)
      (mid other next new : History) (left : List ℕ) (rest : Rest)
      → IsAfter past (Loaded launch file) mid → TakesSome f mid bytes next left
      → IsAfter past (Loaded launch file) other
      → Takes f other bytes new rest → IsPrefixOf next new
  loaded_begins f past launch file bytes mid other next new left rest after taken there all =
      some_begin f mid next new bytes left rest taken
      (subst (λ h. Takes f h bytes new rest) (once.one_after past (Loaded launch file) other mid there after) all)

  same_launch : (f : Dialect) (past : History) (rest : Rest) (launch : Launch) (answer : Result (List ℕ) LoadFault)
      (file : Option (List ℕ)) (next : History) → rest.launch ≡ Some launch
      → (toward : LoadsToward f past rest answer next) → toward.file ≡ file
      → IsAfter past (Loaded launch file) toward.mid
  same_launch f past rest launch answer file next is toward same = grind (arith, common_steps)

  file_begins : (f : Dialect) (past : History) (rest : Rest) (launch : Option Launch)
      (answer : Result (List ℕ) LoadFault)
      (next new : History) (left : Rest) → IsTaking past → rest.launch ≡ launch
      → (next ≡ past) ⊎ LoadsToward f past rest answer next → LeadsByFile f past rest launch answer new left
      → IsPrefixOf next new
  file_begins f past rest None answer next new left taking is (inl same) leads = begins_same next new
      (same ∙ sym leads.0)
  file_begins f past rest None answer next new left taking is (inr toward) leads =
      absurd (let e = sym is ∙ toward.waits in cc)
  file_begins f past rest (Some launch) (Ok file) next new left taking is toward (inl not) = absurd (not.0 taking)
  file_begins f past rest (Some launch) (Ok file) next new left taking is (inl same) (inr loads) =
      rw same (begins_both past _ new (begins_longer past _ _ loads.loaded) (takes_begin f _ new _ left loads.after))
  file_begins f past rest (Some launch) (Ok file) next new left taking is (inr toward) (inr loads) =
      let same : toward.file ≡ Some file = let e = toward.file_is in cc in
      loaded_begins f past launch (Some file) rest.bytes toward.mid loads.mid next new toward.left left
      (same_launch f past rest launch (Ok file) (Some file) next is toward same) toward.taken loads.loaded loads.after
  file_begins f past rest (Some launch) (Err load_fault.CannotRead) next new left taking is toward (inl not) =
      absurd (not.0 taking)
  file_begins f past rest (Some launch) (Err load_fault.CannotRead) next new left taking is (inl same) (inr loads) =
      rw same (begins_both past _ new (begins_longer past _ _ loads.loaded) (takes_begin f _ new _ left loads.after))
  file_begins f past rest (Some launch) (Err load_fault.CannotRead) next new left taking is (inr toward) (inr loads) =
      let same : toward.file ≡ None = let e = toward.file_is in cc in
      loaded_begins f past launch None rest.bytes toward.mid loads.mid next new toward.left left
      (same_launch f past rest launch (Err load_fault.CannotRead) None next is toward same) toward.taken loads.loaded
      loads.after
  file_begins f past rest (Some launch) (Err load_fault.NoMemory) next new left taking is (inl same) leads =
      subst (λ h. IsPrefixOf h new) (sym same) (may_begin past MemoryFailure new leads.0)
  file_begins f past rest (Some launch) (Err load_fault.NoMemory) next new left taking is (inr toward) leads =
      absurd (let e = toward.file_is in cc)

  report_begins : (past : History) (r : PlainReport) (next new : History) → IsTaking past → (next ≡ past)
      ⊎ (Accepts past r × IsAfter past (Accepted r) next) → LeadsByReport past r new → IsPrefixOf next new
  report_begins past r next new taking (inl same) (inl not) = begins_same next new (same ∙ sym not.1)
  report_begins past r next new taking (inl same) (inr is) = rw same (begins_longer past (Accepted r) new is.2)
  report_begins past r next new taking (inr toward) (inl not) = absurd (not.0 (taking, toward.0))
  report_begins past r next new taking (inr toward) (inr is) = grind (arith, common_steps, begins_same)

  event_begins : (f : Dialect) (past : History) (rest : Rest) (event : Incoming) (next new : History) (left : Rest)
      → IsTaking past
      → Toward f past rest event next → LeadsByEvent f past rest event new left → IsPrefixOf next new
  event_begins f past rest (Piece piece) next new left taking toward leads =
      piece_begins f past rest.launch _ next new left toward leads
  event_begins f past rest End next new left taking toward leads =
      item_begins past InputEnd next new taking toward leads.0
  event_begins f past rest ReadFailed next new left taking toward leads =
      item_begins past ReadFailure next new taking toward leads.0
  event_begins f past rest NoMemoryCame next new left taking toward leads = rw toward (may_begin past _ new leads.0)
  event_begins f past rest (File answer) next new left taking toward leads =
      file_begins f past rest rest.launch answer next new left taking refl toward leads
  event_begins f past rest (Report r) next new left taking toward leads =
      report_begins past r next new taking toward leads.0

-- ---- what was sent

-- what was sent is a prefix of what the history sends
record SendsPart (new : History) (old later : Ports) : Type 0 where
  frames : List (List ℕ)
  orders : List PlainOrder
  frames_are : later.frames ≡ old.frames ++ frames
  orders_are : later.orders ≡ old.orders ++ orders
  frames_begin : IsPrefixOf frames (frames_from 1 (messages_of new))
  orders_begin : IsPrefixOf orders (orders_of new)
  few : length frames < 2 ^ 53

-- there are fewer messages than that where the next seq is no more
length-frames_from : (n : ℕ) (ms : List Outgoing) → length (frames_from n ms) ≡ length ms
length-frames_from n [] = refl
length-frames_from n (m ∷ ms) = ap (λ k. suc k) (length-frames_from (n + 1) ms)

few_begin : (frames : List (List ℕ)) (past : History) → IsPrefixOf frames (frames_from 1 (messages_of past))
    → next_seq past ≤ 2 ^ 53 → length frames < 2 ^ 53
few_begin frames past is fits =
    let whole = length-append frames is.0 in
    let same = ap length is.1 in
    let all = length-frames_from 1 (messages_of past) in
    omega (arith, whole, same, all, fits)

first_fits : (past : History) (old later : Ports) → Sends [] past old later → next_seq past ≤ 2 ^ 53
first_fits past old later sent = sent.seqs_fit (lit≤ tt)

sends_whole : (past : History) (old later : Ports) → Sends [] past old later
    → (later.frames ≡ old.frames ++ frames_from 1 (messages_of past)) × (later.orders ≡ old.orders ++ orders_of past)
sends_whole past old later sent = grind (arith, common_steps)

same_part : (past : History) (old between later : Ports) → Sends [] past old between → later ≡ between
    → SendsPart past old later
same_part past old between later sent same =
    grind (arith, common_steps, sends_whole, frames_begin, begins_same, orders_begin, few_begin, first_fits)

longer_part : (past new : History) (old later : Ports) → IsPrefixOf past new → SendsPart past old later
    → SendsPart new old later
longer_part past new old later is part = record {
  frames = part.frames;
  orders = part.orders;
  frames_are = part.frames_are;
  orders_are = part.orders_are;
  frames_begin = begins_both part.frames _ _ part.frames_begin (frames_begin past new is);
  orders_begin = begins_both part.orders _ _ part.orders_begin (orders_begin past new is);
  few = part.few;
}

pushed_part : (past next : History) (old between later : Ports) → Sends [] past old between
    → PushesSome past next between later → SendsPart next old later
pushed_part past next old between later sent some =
    let all = sends_whole past old between sent in record {
      frames = frames_from 1 (messages_of past);
      orders = orders_of past ++ some.pushed;
      frames_are = some.frames_are ∙ all.0;
      orders_are =
          some.orders_are ∙ ap (λ l. l ++ some.pushed) all.1 ∙ append_assoc old.orders (orders_of past) some.pushed;
      frames_begin =
          subst (λ ms. IsPrefixOf (frames_from 1 (messages_of past)) (frames_from 1 ms)) (sym some.adds.messages_are) (
            frames_from (1 + length (messages_of past)) some.messages,
            sym
                (frames_from-append 1 (messages_of past) some.messages),
          );
      orders_begin =
          subst (λ os. IsPrefixOf (orders_of past ++ some.pushed) os) (sym some.adds.orders_are)
          (begins_after (orders_of past) some.pushed some.orders some.begins);
      few = few_begin _ past (begins_same _ _ refl) (first_fits past old between sent);
    }

put_part : (past next : History) (old between later : Ports) → Sends [] past old between
    → PutsSome past next between later → SendsPart next old later
put_part past next old between later sent some =
    let all = sends_whole past old between sent in
    let seq : next_seq past ≡ 1 + length (messages_of past) = omega arith in
    let begins : IsPrefixOf (frames_from 1 (messages_of past) ++ some.put) (frames_from 1 (messages_of next)) =
    subst (λ fs. IsPrefixOf (frames_from 1 (messages_of past) ++ some.put) fs)
    (sym (ap (frames_from 1) some.adds.messages_are ∙ frames_from-append 1 (messages_of past) some.messages))
    (begins_after (frames_from 1 (messages_of past)) some.put _ (begins_front some.put (some.frame ∷ []) _
    (subst (λ n. IsPrefixOf (some.put ++ some.frame ∷ []) (frames_from n some.messages)) seq some.begins))) in record {
      frames = frames_from 1 (messages_of past) ++ some.put;
      orders = orders_of past ++ some.orders;
      frames_are =
          some.frames_are ∙ ap (λ l. l ++ some.put) all.0 ∙ append_assoc old.frames (frames_from 1 (messages_of past))
          some.put;
      orders_are =
          some.orders_are ∙ ap (λ l. l ++ some.orders) all.1 ∙ append_assoc old.orders (orders_of past) some.orders;
      frames_begin = begins;
      orders_begin = begins_same _ _ (sym some.adds.orders_are);
      few = few_begin _ next begins (some.seqs_fit (first_fits past old between sent));
    }

-- the fault let through a part of the next step
broken_part : (fault : SessionFault) (mid next : History) (old between later : Ports) → IsPrefixOf mid next
    → Sends [] mid old between → BreaksOff fault mid next between later → SendsPart next old later
broken_part (Frame k) mid next old between later at sent breaks = absurd breaks
broken_part NoMemory mid next old between later at sent breaks =
    longer_part mid next old later at (same_part mid old between later sent breaks)
broken_part SeqExhausted mid next old between later at sent breaks =
    longer_part mid next old later at (same_part mid old between later sent breaks.0)
broken_part OrdersFull mid next old between later at sent breaks = pushed_part mid next old between later sent breaks.0
broken_part RunnerGone mid next old between later at sent breaks = pushed_part mid next old between later sent breaks.0
broken_part WriterGone mid next old between later at sent breaks = put_part mid next old between later sent breaks

-- ---- a whole session

next_toward : (f : Dialect) (fault : SessionFault) (past : History) (rest : Rest) (event : Incoming)
    (old later : Ports)
    (fails : EventGivesUp f fault past rest event old later) → Toward f past rest event fails.next
next_toward f fault past rest event old later fails = by fails.next_is
  where
    by : (fails.next ≡ fails.mid) ⊎ (Toward f past rest event fails.next
        × ((item : Item) × IsAfter fails.mid item fails.next)) → Toward f past rest event fails.next
    by (inl same) = subst (Toward f past rest event) (sym same) fails.toward
    by (inr is) = is.0

mid_next : (f : Dialect) (fault : SessionFault) (past : History) (rest : Rest) (event : Incoming) (old later : Ports)
    (fails : EventGivesUp f fault past rest event old later) → IsPrefixOf fails.mid fails.next
mid_next f fault past rest event old later fails = by fails.next_is
  where
    by : (fails.next ≡ fails.mid) ⊎ (Toward f past rest event fails.next
        × ((item : Item) × IsAfter fails.mid item fails.next)) → IsPrefixOf fails.mid fails.next
    by (inl same) = begins_same fails.mid fails.next (sym same)
    by (inr is) = begins_longer fails.mid is.1.0 fails.next is.1.1

stops_part : (f : Dialect) (events : List Incoming) (fault : SessionFault) (old later : Ports)
    (stops : StopsShort f events fault old later) → SendsPart stops.fails.next old stops.stopped
stops_part f events fault old later stops =
    let fails = stops.fails in
    broken_part fault _ _ old _ _ (mid_next f fault _ _ _ _ _ fails) (sends_both [] _ _ old _ _ stops.sent fails.sent)
    fails.breaks

-- ---- the history that a session reached

-- how it was reached, and what was sent of it
record Sent (f : Dialect) (events : List Incoming) (old stopped : Ports) : Type 0 where
  reached : History
  is_reached : IsReached f events reached
  part : SendsPart reached old stopped

-- the frames that were put in all are those of a prefix
pub record PutsFew (reached : History) (old later : Ports) : Type 0 where
  pub frames : List (List ℕ)
  pub frames_are : later.frames ≡ old.frames ++ frames
  pub few : length frames < 2 ^ 53
  pub begins : IsPrefixOf frames (frames_from 1 (messages_of reached))

module _ (once : IsReadOnce) (one : HistoryIsOne) where
  -- a history of all events goes on with the last one from where the session stood
  last_leads : (f : Dialect) (events : List Incoming) (last : Incoming) (past : History) (rest : Rest) (new : History)
      (left : Rest)
      → IsHistoryOf f events past rest → IsHistoryOf f (events ++ last ∷ []) new left
      → LeadsByEvent f past rest last new left
  last_leads f events last past rest new left here whole = grind (arith, common_steps, leads_last)

  -- a session reached a history on the way to that of all events
  reached_toward : (f : Dialect) (events : List Incoming) (reached : History) → AreLawful events
      → IsOnTheWay f events reached
      → IsReached f events reached
  reached_toward f events reached lawful way =
      let at = way.reaches in
      let parts = lawful_apart at.before (at.last ∷ []) (subst AreLawful at.events_are lawful) in
      let there =
      retaken_toward f at.past at.rest at.last reached parts.1 at.taking way.toward
      (retaken f at.before at.past at.rest parts.0 at.history) in
      record {
        way = inr way;
        begins = λ new left whole.
            let leads =
            last_leads f at.before at.last at.past at.rest new left at.history
            (subst (λ es. IsHistoryOf f es new left) at.events_are whole) in
            event_begins once f at.past at.rest at.last reached new left at.taking way.toward leads;
        taken = there.1.events;
        rest = there.1.rest;
        lawful = there.1.lawful;
        history = there.1.history;
      }

  -- or that of all events
  reached_all : (f : Dialect) (events : List Incoming) (past : History) (rest : Rest) → AreLawful events
      → IsHistoryOf f events past rest → IsReached f events past
  reached_all f events past rest lawful history = record {
    way = inl (rest, history);
    begins = λ new left whole. begins_same past new (one f events past new rest left history whole).0;
    taken = events;
    rest = rest;
    lawful = lawful;
    history = history;
  }

  stops_sent : (f : Dialect) (events : List Incoming) (fault : SessionFault) (old later : Ports) → AreLawful events
      → (stops : StopsShort f events fault old later) → Sent f events old stops.stopped
  stops_sent f events fault old later lawful stops = record {
    reached = stops.fails.next;
    is_reached = reached_toward f events stops.fails.next lawful (record {
      reaches = stops.reaches;
      toward =
          let at = stops.reaches in
          next_toward f fault at.past at.rest at.last stops.mid stops.stopped stops.fails;
    });
    part = stops_part f events fault old later stops;
  }

  -- all was sent
  serves_sent : (f : Dialect) (events : List Incoming) (ending : Ending) (old later : Ports) → AreLawful events
      → Serves f events ending old later → Sent f events old later
  serves_sent f events ending old later lawful serves = record {
    reached = serves.past;
    is_reached = reached_all f events serves.past serves.rest lawful serves.history;
    part = record {
      frames = frames_from 1 (messages_of serves.past);
      orders = orders_of serves.past;
      frames_are = serves.frames_are;
      orders_are = serves.orders_are;
      frames_begin = begins_same _ _ refl;
      orders_begin = begins_same _ _ refl;
      few = few_begin _ serves.past (begins_same _ _ refl) serves.seqs_fit;
    };
  }

  fault_sent : (f : Dialect) (fault : SessionFault) (events given : List Incoming) (loads : List Load)
      (old later : Ports)
      → AreLawful events → SessionOutcome f events given loads old later (Err fault)
      → (stopped : Ports) × Sent f events old stopped × TriesQuit stopped later
  fault_sent f fault events given loads old later lawful (ends_at_fault from until) =
      (until.mid, serves_sent f events _ old until.mid lawful until.serves, until.quit)
  fault_sent f fault events given loads old later lawful (runs_out_of_memory from short) =
      (short.stopped, stops_sent f events NoMemory old later lawful short, short.quit)
  fault_sent f fault events given loads old later lawful (gives_up cannot from short) =
      (short.stopped, stops_sent f events fault old later lawful short, short.quit)

  pub faults_leave_prefixes : FaultsLeavePrefixes
  faults_leave_prefixes f fault given_before given_after loaded_before loaded_after old later driven =
      let left = fault_sent f fault driven.events driven.given driven.loads old later driven.lawful driven.drives in
      let part = left.1.part in (
        left.1.reached,
        left.1.is_reached,
        left.0,
        record {
          frames = part.frames;
          orders = part.orders;
          frames_are = part.frames_are;
          orders_are = part.orders_are;
          frames_begin = part.frames_begin;
          orders_begin = part.orders_begin;
        },
        left.2,
      )

  -- what is put in the end is what was put then
  puts_few : (f : Dialect) (events : List Incoming) (old stopped later : Ports) → later.frames ≡ stopped.frames
      → Sent f events old stopped → (reached : History) × IsReached f events reached × PutsFew reached old later
  puts_few f events old stopped later same sent = (
    sent.reached,
    sent.is_reached,
    record {
      frames = sent.part.frames;
      frames_are = same
          ∙ sent.part.frames_are;
      few = sent.part.few;
      begins = sent.part.frames_begin;
    },
  )

  pub drives_few : (f : Dialect) (result : Result Closed SessionFault) (events given : List Incoming)
      (loads : List Load)
      (old later : Ports) → AreLawful events → SessionOutcome f events given loads old later result
      → (reached : History) × IsReached f events reached × PutsFew reached old later
  drives_few f (Ok by) events given loads old later lawful (closes from serves) =
      puts_few f events old later later refl (serves_sent f events (ending.Closed by) old later lawful serves)
  drives_few f (Err fault) events given loads old later lawful drives =
      grind (arith, common_steps, fault_sent, puts_few)
