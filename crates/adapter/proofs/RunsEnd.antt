-- Each run has one last report, unless it was cut short.
use Rattle.std.proofs.Common.{◌≡◌, ◌≢◌, ◌⊎◌, inl, inr, ℕ, ◌+◌, ◌<◌, ◌≤◌, List, [], ◌∷◌, ◌++◌, length, Option, None, Some, Ok, refl, sym, ap, ◌∙◌, subst, append-nil, length-append, arith}
use Rattle.std.specs.Prelude.{unwrap_or}
use Rattle.std.specs.List.{flat_map, filter_map}
use Rattle.std.proofs.lemmas.Bool.{cases_eq}
use Rattle.std.proofs.lemmas.List.Elements.{filter_map-append}
use Rattle.dap_msg.specs.declared.outgoing.StopReason.{StopReason}
use Rattle.dbg_plan.specs.declared.mode.Mode.{Mode}
use Rattle.dbg_runner.specs.declared.outcome.SliceOutcome.{SliceOutcome}
use Rattle.dbg_runner.specs.declared.outcome.SliceOutcome.TheVariants as slice
use Rattle.dbg_runner.specs.Laws.{reports_of_run, RunsAreReported, HasLast, IsCut, RunsHaveOneLast}
use Rattle.dbg_runner.specs.Plain.{Heading, PlainOrder, PlainReport, Go, Hold, Quit}
use Rattle.dbg_runner.specs.Queues.{order_in, sent_in}
use Rattle.dbg_runner.specs.Runner.{Act, Idle, Ended, DoesAll}
use Rattle.dap_msg.specs.declared.request.Dialect.{Dialect}
use Rattle.dap_history.specs.declared.ending.Closed.{Closed}
use Rattle.dap_history.specs.declared.launch.Launch.{Launch}
use Rattle.dap_history.specs.declared.situation.Situation.{Situation}
use Rattle.dap_history.specs.declared.situation.Situation.TheVariants.{Configuring, Running, Stopped, Faulted}
use Rattle.dap_history.specs.Last.{or_else, last_such}
use Rattle.dap_history.specs.Plans.{Plan}
use Rattle.dap_history.specs.History.{Item, Content, Loaded, Accepted, Fault, InputEnd, ReadFailure, MemoryFailure, Effect, Step, History, messages, orders_of}
use Rattle.dap_history.specs.Readings.{go, order_mark, message_mark, step_mark, situation, runs}
use Rattle.dap_history.specs.Replies.{Reply}
use Rattle.dap_history.specs.Launching.{Launches}
use Rattle.dap_history.specs.Reports.{outputs, report_effect}
use Rattle.dap_history.specs.Stops.{stop_of_event, IsStopped}
use Rattle.dap_history.specs.Emission.{Causes}
use Rattle.dap_history.specs.Events.{Incoming, Piece, End, ReadFailed, File, Report, Rest, IsHistoryOf}
use Rattle.dap_history.specs.Events.{NoMemory as NoMemoryCame}
use Rattle.dap_history.specs.Interleaving.{Load, IsLoad, Interleaves}
use Rattle.dap_history.proofs.Readings.{situation-snoc, runs-snoc}
use Rattle.dap_history.proofs.Along.{IsTaken, IsKept, AllEvents, any_events, along}
use Rattle.dap_history.proofs.Counted.{Counted, next_runs, accepted_number, counted_more, counted_first}
use Rattle.dap_history.proofs.Ordered.{CanRun, RunsAs, runs_none, runs_one, all_orders}
use Rattle.dap_history.proofs.Outputs.{outputs_stop}
use Rattle.dap_history.proofs.Passing.{loaded_orders}
use Rattle.dap_history.proofs.Runs.{none_such, AreNumbered}
use Rattle.dap_history.proofs.Silent.{StopsBy, no_stop, at_first, NextRuns, all_silent}
use Rattle.dap_history.proofs.Standing.{MarkIs, mark_unwrap, answers_only, ReportsStop, step_stops}
use Rattle.dap_history.proofs.Started.{IsYoung, was_young}
use Rattle.dap_session.specs.Sending.{IsPrefixOf}
use Rattle.dap_session.specs.Serving.{SessionOutcome, closes}
use Rattle.dap_wires.specs.Senders.{reports_among}
use Rattle.adapter.specs.Laws.{RunsEndOnce, IsCutShort}
use Rattle.adapter.specs.Serving.{nothing_sent, TakenOfPushed, SessionSends}
use Rattle.adapter.proofs.RunNumbers.{NumberedFrom, last_from, numbered_acts, last_is, NoEnd, no_end_front, cut_how, IsCutByGo, IsEndless, cut_run}

-- ---- which runs have ended

-- a report of this run that it doesn't go on was accepted
abbrev Ends : ℕ → Item → Type 0
Ends n (Accepted r) = (r.run ≡ n) × (r.outcome ≢ slice.More)
Ends n _ = ⊥

abbrev HasEnded : ℕ → History → Type 0
HasEnded n [] = ⊥
HasEnded n (step ∷ past) = Ends n step.item ⊎ HasEnded n past

ended_before : (n : ℕ) (past more : History) → HasEnded n past → HasEnded n (past ++ more)
ended_before n [] more ended = absurd ended
ended_before n (step ∷ past) more (inl here) = inl here
ended_before n (step ∷ past) more (inr there) = inr (ended_before n past more there)

ended_now : (n : ℕ) (past : History) (step : Step) → Ends n step.item → HasEnded n (past ++ step ∷ [])
ended_now n [] step ends = inl ends
ended_now n (s ∷ past) step ends = inr (ended_now n past step ends)

ended_split : (n : ℕ) (past : History) (step : Step) → HasEnded n (past ++ step ∷ []) → HasEnded n past
    ⊎ Ends n step.item
ended_split n [] step (inl ends) = inr ends
ended_split n [] step (inr none) = absurd none
ended_split n (s ∷ past) step (inl here) = inl (inl here)
ended_split n (s ∷ past) step (inr there) = onward (ended_split n past step there)
  where
    onward : HasEnded n past ⊎ Ends n step.item → HasEnded n (s ∷ past) ⊎ Ends n step.item
    onward (inl before) = inl (inr before)
    onward (inr now) = inr now

-- there was no run before, or the last one has ended
abbrev NoneGoes : ℕ → History → Type 0
NoneGoes n past = (n ≡ 0) ⊎ HasEnded n past

goes_before : (n : ℕ) (past more : History) → NoneGoes n past → NoneGoes n (past ++ more)
goes_before n past more (inl none) = inl none
goes_before n past more (inr ended) = inr (ended_before n past more ended)

record RunsEnd (past : History) : Type 0 where
  pub counted : Counted past
  pub young : IsYoung (situation past) → runs past ≡ 0
  pub stands : IsStopped (situation past) → NoneGoes (runs past) past
  pub each : (n : ℕ) → 1 ≤ n → n < runs past → HasEnded n past

-- ---- where a step orders a run

abbrev OrdersNone : Effect → Type 0
OrdersNone effect = filter_map go effect.orders ≡ []

module _ (past : History) (step : Step) (here : RunsEnd past) where
  abbrev Before : Type 0
  Before = NoneGoes (runs past) (past ++ step ∷ [])

  was_young_here : (s : Situation) → situation past ≡ s → IsYoung s → Before
  was_young_here s is young = inl (here.young (subst IsYoung (sym is) young))

  stood_here : (s : Situation) → situation past ≡ s → IsStopped s → Before
  stood_here s is standing = goes_before (runs past) past (step ∷ []) (here.stands (subst IsStopped (sym is) standing))

  can_run_here : (s : Situation) → situation past ≡ s → CanRun s → Before
  can_run_here Configuring is can = was_young_here Configuring is tt
  can_run_here Stopped is can = stood_here Stopped is tt
  can_run_here Faulted is can = stood_here Faulted is tt
  can_run_here _ is can = absurd can

  report_ends : (Q : Incoming → Type 0) (r : PlainReport) → step.item ≡ Accepted r → IsTaken Q past (Accepted r)
      → r.outcome ≢ slice.More → Before
  report_ends Q r item_is taken on =
      inr (ended_now (runs past) past step
      (subst (Ends (runs past)) (sym item_is) (accepted_number past r here.counted taken.0, on)))

  orders_when : (Q : Incoming → Type 0) (item : Item) → step.item ≡ item → IsTaken Q past item → Causes past item step
      → OrdersNone step.effect ⊎ Before
  orders_when Q (Content None) item_is taken is = inl (ap (λ (e : Effect). filter_map go e.orders) is.effect_is)
  orders_when Q (Content (Some request)) item_is taken is =
      by_run (last_such go is.0.effect.orders) refl (all_orders (situation past) past request.body is.0 refl is.1).run
    where
      by_run : {back : Option Mode} {put : Option Plan} (o : Option Heading) → last_such go is.0.effect.orders ≡ o
          → RunsAs (situation past) past back put o → OrdersNone step.effect ⊎ Before
      by_run None none runs_none =
          inl (ap (λ (e : Effect). filter_map go e.orders) is.2.effect_is
          ∙ none_such PlainOrder Heading go is.0.effect.orders none)
      by_run (Some run) some (runs_one run' goes under counted starts none can) =
          inr (can_run_here (situation past) refl can)
  orders_when Q (Loaded launch file) item_is taken is =
      inl (ap (λ (e : Effect). filter_map go e.orders) is.2.effect_is
      ∙ none_such PlainOrder Heading go is.0.effect.orders (loaded_orders launch file is.0 is.1))
  orders_when Q (Accepted r) item_is taken is = by_outcome r.outcome refl
    where
      by_outcome : (e : SliceOutcome) → r.outcome ≡ e → OrdersNone step.effect ⊎ Before
      by_outcome slice.More same =
          inl (ap (λ (e : Effect). filter_map go e.orders) (is.effect_is ∙ ap (report_effect past r) same))
      by_outcome slice.Done same = inr (report_ends Q r item_is taken (λ more. let e = sym same ∙ more in absurd cc))
      by_outcome slice.Held same = inr (report_ends Q r item_is taken (λ more. let e = sym same ∙ more in absurd cc))
      by_outcome slice.NoMemory same =
          inr (report_ends Q r item_is taken (λ more. let e = sym same ∙ more in absurd cc))
      by_outcome (slice.Due reason) same =
          inr (report_ends Q r item_is taken (λ more. let e = sym same ∙ more in absurd cc))
      by_outcome (slice.Fault fault) same =
          inr (report_ends Q r item_is taken (λ more. let e = sym same ∙ more in absurd cc))
  orders_when Q (Fault k) item_is taken is = inl (ap (λ (e : Effect). filter_map go e.orders) is.effect_is)
  orders_when Q InputEnd item_is taken is = inl (ap (λ (e : Effect). filter_map go e.orders) is.effect_is)
  orders_when Q ReadFailure item_is taken is = inl (ap (λ (e : Effect). filter_map go e.orders) is.effect_is)
  orders_when Q MemoryFailure item_is taken is = inl (ap (λ (e : Effect). filter_map go e.orders) is.effect_is)

  -- ---- where a step stops the program

  stops_not : (effect : Effect) → step.effect ≡ effect → last_such stop_of_event effect.events ≡ None
      → ¬ ReportsStop step.effect.events
  stops_not effect is none stop =
      let e = sym (ap (λ (x : Effect). last_such stop_of_event x.events) is ∙ none) ∙ stop.1 in absurd cc

  loaded_stops : (launch : Launch) (file : Option (List ℕ)) (reply : Reply) → Launches launch.arguments file reply
      → last_such stop_of_event reply.effect.events ≡ None
  loaded_stops launch None reply is = ap (λ (r : Reply). last_such stop_of_event r.effect.events) is
  loaded_stops launch (Some text) reply (inl is) =
      ap (λ (r : Reply). last_such stop_of_event r.effect.events) is.reply_is
  loaded_stops launch (Some text) reply (inr is) =
      ap (λ (r : Reply). last_such stop_of_event r.effect.events) is.reply_is

  stops_when : (Q : Incoming → Type 0) (item : Item) → step.item ≡ item → IsTaken Q past item → Causes past item step
      → ReportsStop step.effect.events → Before
  stops_when Q (Content None) item_is taken is stop = absurd (stops_not _ is.effect_is refl stop)
  stops_when Q (Content (Some request)) item_is taken is stop =
      by_stop (last_such stop_of_event is.0.effect.events) refl
      (all_silent (situation past) past request.body is.0 is.1).stops
    where
      by_stop : (o : Option StopReason) → last_such stop_of_event is.0.effect.events ≡ o
          → StopsBy (situation past) past o → Before
      by_stop None none no_stop = absurd (stops_not is.0.effect is.2.effect_is none stop)
      by_stop (Some reason) some (at_first l r s_is launched due) = was_young_here Configuring s_is tt
  stops_when Q (Loaded launch file) item_is taken is stop =
      absurd (stops_not is.0.effect is.2.effect_is (loaded_stops launch file is.0 is.1) stop)
  stops_when Q (Accepted r) item_is taken is stop = by_outcome r.outcome refl
    where
      by_outcome : (e : SliceOutcome) → r.outcome ≡ e → Before
      by_outcome slice.More same =
          absurd (stops_not _ (is.effect_is ∙ ap (report_effect past r) same)
          (ap (last_such stop_of_event) (sym (append-nil (outputs past r))) ∙ outputs_stop past r []) stop)
      by_outcome slice.Done same = report_ends Q r item_is taken (λ more. let e = sym same ∙ more in absurd cc)
      by_outcome slice.Held same = report_ends Q r item_is taken (λ more. let e = sym same ∙ more in absurd cc)
      by_outcome slice.NoMemory same = report_ends Q r item_is taken (λ more. let e = sym same ∙ more in absurd cc)
      by_outcome (slice.Due reason) same = report_ends Q r item_is taken (λ more. let e = sym same ∙ more in absurd cc)
      by_outcome (slice.Fault fault) same = report_ends Q r item_is taken (λ more. let e = sym same ∙ more in absurd cc)
  stops_when Q (Fault k) item_is taken is stop = absurd (stops_not _ is.effect_is refl stop)
  stops_when Q InputEnd item_is taken is stop = absurd (stops_not _ is.effect_is refl stop)
  stops_when Q ReadFailure item_is taken is stop = absurd (stops_not _ is.effect_is refl stop)
  stops_when Q MemoryFailure item_is taken is stop = absurd (stops_not _ is.effect_is refl stop)

-- ---- with one more step

-- orders without a run have no mark, and others lead to Running
goes_or_not : (os : List PlainOrder) → ((filter_map go os ≡ []) × (last_such order_mark os ≡ None))
    ⊎ (last_such order_mark os ≡ Some Running)
goes_or_not [] = inl (refl, refl)
goes_or_not (o ∷ os) = onward o (goes_or_not os)
  where
    onward : (o : PlainOrder) → ((filter_map go os ≡ []) × (last_such order_mark os ≡ None))
        ⊎ (last_such order_mark os ≡ Some Running)
        → ((filter_map go (o ∷ os) ≡ []) × (last_such order_mark (o ∷ os) ≡ None))
        ⊎ (last_such order_mark (o ∷ os) ≡ Some Running)
    onward (Go run) (inl none) = inr (ap (λ m. or_else m (Some Running)) none.1)
    onward (Hold n) (inl none) = inl (none.0, ap (λ m. or_else m None) none.1)
    onward Quit (inl none) = inl (none.0, ap (λ m. or_else m None) none.1)
    onward x (inr running) = inr (ap (λ m. or_else m (order_mark x)) running)

one_at_most : (past : History) (rs : List Heading) → NextRuns past rs → length rs ≤ 1
one_at_most past [] next = omega arith
one_at_most past (run ∷ []) next = omega arith
one_at_most past (run ∷ (other ∷ rest)) next = elim next [ ]

module _ (Q : Incoming → Type 0) (past : History) (step : Step) (taken : IsTaken Q past step.item)
    (causes : Causes past step.item step) (here : RunsEnd past) where
  abbrev longer : History
  longer = past ++ step ∷ []

  silent_or_running : OrdersNone step.effect ⊎ (situation longer ≡ Running)
  silent_or_running = by_orders (goes_or_not step.effect.orders)
    where
      by_orders : ((filter_map go step.effect.orders ≡ []) × (last_such order_mark step.effect.orders ≡ None))
          ⊎ (last_such order_mark step.effect.orders ≡ Some Running)
          → OrdersNone step.effect ⊎ (situation longer ≡ Running)
      by_orders (inl none) = inl none.0
      by_orders (inr running) =
          inr (situation-snoc past step ∙ ap (λ m. unwrap_or (or_else m (last_such message_mark (messages step)))
          (situation past)) running)

  same_runs : OrdersNone step.effect → runs longer ≡ runs past
  same_runs none = let count = runs-snoc past step ∙ ap (λ rs. runs past + length rs) none in omega (arith, count)

  young_more : IsYoung (situation longer) → runs longer ≡ 0
  young_more young = by_orders silent_or_running
    where
      by_orders : OrdersNone step.effect ⊎ (situation longer ≡ Running) → runs longer ≡ 0
      by_orders (inl none) = same_runs none ∙ here.young (was_young Q past step taken causes young)
      by_orders (inr running) = absurd (subst IsYoung running young)

  stands_more : IsStopped (situation longer) → NoneGoes (runs longer) longer
  stands_more standing = by_orders silent_or_running
    where
      by_mark : MarkIs IsStopped (step_mark step) ⊎ ((step_mark step ≡ None) × IsStopped (situation past))
          → NoneGoes (runs past) longer
      by_mark (inl mark) =
          stops_when past step here Q step.item refl taken causes
          (step_stops step (answers_only past step.item step causes) mark)
      by_mark (inr still) = goes_before (runs past) past (step ∷ []) (here.stands still.1)

      by_orders : OrdersNone step.effect ⊎ (situation longer ≡ Running) → NoneGoes (runs longer) longer
      by_orders (inl none) =
          subst (λ n. NoneGoes n longer) (sym (same_runs none))
          (by_mark (mark_unwrap IsStopped (step_mark step) (situation past)
          (subst IsStopped (situation-snoc past step) standing)))
      by_orders (inr running) = absurd (subst IsStopped running standing)

  each_more : (n : ℕ) → 1 ≤ n → n < runs longer → HasEnded n longer
  each_more n first below = by_orders (orders_when past step here Q step.item refl taken causes)
    where
      at_most : runs longer ≤ runs past + 1
      at_most =
          let one = one_at_most past (filter_map go step.effect.orders) (next_runs past step.item step causes) in
          let count = runs-snoc past step in omega (arith, one, count)

      at_last : n ≡ runs past → NoneGoes (runs past) longer → HasEnded n longer
      at_last same (inl none) = absurd (omega (arith, same, none, first))
      at_last same (inr ended) = subst (λ m. HasEnded m longer) (sym same) ended

      by_place : NoneGoes (runs past) longer → (n ≡ runs past) ⊎ (n ≢ runs past) → HasEnded n longer
      by_place before (inl same) = at_last same before
      by_place before (inr other) =
          ended_before n past (step ∷ []) (here.each n first (omega (arith, below, at_most, other)))

      by_orders : OrdersNone step.effect ⊎ NoneGoes (runs past) longer → HasEnded n longer
      by_orders (inl none) =
          ended_before n past (step ∷ []) (here.each n first (let same = same_runs none in omega (arith, below, same)))
      by_orders (inr before) = by_place before (cases_eq n (runs past))

  runs_end_more : RunsEnd longer
  runs_end_more =
      record {
        counted = counted_more Q past step taken causes here.counted;
        young = young_more;
        stands = stands_more;
        each = each_more;
      }

runs_end_kept : (Q : Incoming → Type 0) → IsKept Q RunsEnd
runs_end_kept Q = record {
  step = λ past item new taking taken after here.
      subst RunsEnd (sym after.new_is)
      (runs_end_more Q past after.step (subst (IsTaken Q past) (sym after.item_is) taken)
      (subst (λ i. Causes past i after.step) (sym after.item_is) after.causes) here);
}

runs_end_first : RunsEnd []
runs_end_first =
    record {
      counted = counted_first;
      young = λ young. refl;
      stands = λ standing. inl refl;
      each = λ n first below.
          absurd (omega (arith, first, below));
    }

-- ---- reports that came

-- the event is no report that run n doesn't go on
abbrev IsOther : ℕ → Incoming → Type 0
IsOther n (Report r) = r.run ≡ n → r.outcome ≡ slice.More
IsOther n _ = Unit {0}

ends_not : (n : ℕ) (past : History) (item : Item) → IsTaken (IsOther n) past item → ¬ Ends n item
ends_not n past (Accepted r) taken ends = ends.1 (taken.1 ends.0)
ends_not n past _ taken ends = absurd ends

not_ended_kept : (n : ℕ) → IsKept (IsOther n) (λ past. ¬ HasEnded n past)
not_ended_kept n = record {
  step = λ past item new taking taken after none ended.
      either past item after.step taken none (subst (Ends n) after.item_is)
      (ended_split n past after.step (subst (HasEnded n) after.new_is ended));
}
  where
    either : (past : History) (item : Item) (step : Step) → IsTaken (IsOther n) past item → ¬ HasEnded n past
        → (Ends n step.item → Ends n item) → HasEnded n past ⊎ Ends n step.item → ⊥
    either past item step taken none same (inl before) = none before
    either past item step taken none same (inr now) = ends_not n past item taken (same now)

others_given : (n : ℕ) (given : List Incoming) → NoEnd n (reports_among given) → AllEvents (IsOther n) given
others_given n [] none = tt
others_given n (Piece p ∷ given) none = (tt, others_given n given none)
others_given n (End ∷ given) none = (tt, others_given n given none)
others_given n (ReadFailed ∷ given) none = (tt, others_given n given none)
others_given n (NoMemoryCame ∷ given) none = (tt, others_given n given none)
others_given n (File file ∷ given) none = (tt, others_given n given none)
others_given n (Report r ∷ given) none = (none.0, others_given n given none.1)

load_other : (f : Dialect) (n : ℕ) (before : List Incoming) (e : Incoming) (load : Load) → IsLoad f before e load
    → IsOther n e
load_other f n before (File file) load is = tt
load_other f n before _ load is = absurd is

others_come : (f : Dialect) (n : ℕ) (before events given : List Incoming) (loads : List Load)
    → Interleaves f before events given loads
    → AllEvents (IsOther n) given → AllEvents (IsOther n) events
others_come f n before [] given loads from others = tt
others_come f n before (e ∷ events) given loads (inl from) others =
    (load_other f n before e from.0 from.3, others_come f n (before ++ e ∷ []) events given from.1 from.4 others)
others_come f n before (e ∷ events) given loads (inr from) others =
    let these : AllEvents (IsOther n) (e ∷ from.0) = subst (AllEvents (IsOther n)) from.1 others in
    (these.0, others_come f n (before ++ e ∷ []) events from.0 loads from.3 these.1)

-- ---- the runner beside the session

numbered_front : (n : ℕ) (xs ys : List Heading) → AreNumbered n (xs ++ ys) → AreNumbered n xs
numbered_front n [] ys are = tt
numbered_front n (run ∷ xs) ys are = (are.0, numbered_front (n + 1) xs ys are.1)

-- the runner took the first of the orders, or all
takes_first : (by : Closed) (acts : List Act) (pushed : List PlainOrder) → TakenOfPushed (Ok by) acts pushed
    → IsPrefixOf (flat_map order_in acts) pushed
takes_first by acts pushed (inl all) = ([], append-nil (flat_map order_in acts) ∙ all)
takes_first by acts pushed (inr some) = some.0

module _ (f : Dialect) (events given : List Incoming) (loads : List Load) (past : History) (rest : Rest)
    (acts : List Act)
    (from : Interleaves f [] events given loads) (history : IsHistoryOf f events past rest)
    (orders : IsPrefixOf (flat_map order_in acts) (orders_of past))
    (reports : IsPrefixOf (reports_among given) (flat_map sent_in acts)) where
  ended : RunsEnd past
  ended = along (λ e. Unit {0}) RunsEnd (runs_end_kept (λ e. Unit {0})) runs_end_first f events past rest
      (any_events events) history

  all_runs_are : filter_map go (flat_map order_in acts) ++ filter_map go orders.0 ≡ filter_map go (orders_of past)
  all_runs_are = sym (filter_map-append go (flat_map order_in acts) orders.0) ∙ ap (filter_map go) orders.1

  numbered : NumberedFrom 0 acts
  numbered =
      numbered_acts 0 acts (numbered_front 1 (filter_map go (flat_map order_in acts)) (filter_map go orders.0)
      (subst (AreNumbered 1) (sym all_runs_are) ended.counted.numbered))

  taken_runs : last_from 0 acts ≤ runs past
  taken_runs =
      let count = last_is 0 acts in
      let whole = ap length all_runs_are in
      let parts =
      length-append (filter_map go (flat_map order_in acts)) (filter_map go orders.0) in omega
      (arith, count, whole, parts)

  -- the next run was ordered only after a last report of this one had come
  not_endless : (n : ℕ) → ¬ IsEndless n acts
  not_endless n endless =
      along (IsOther n) (λ p. ¬ HasEnded n p) (not_ended_kept n) (λ none. none) f events past rest
      (others_come f n [] events given loads from (others_given n given
      (no_end_front n (reports_among given) reports.0 (subst (NoEnd n) (sym reports.1) endless.none))))
      history
      (ended.each n endless.first (let below = endless.not_last in omega (arith, below, taken_runs)))

pub runs_end_once : RunsHaveOneLast → RunsAreReported → RunsEndOnce
runs_end_once one_last reported f by wrote before after driven front act back h acts_are takes =
    ((reported front act back h Ended worked takes).2, by_end (one_last front act back h worked takes))
  where
    session : SessionSends f (Ok by) driven.given driven.sent before.loads after.loads
    session = driven.session

    acts : List Act
    acts = driven.runner.acts

    worked : DoesAll Idle (front ++ act ∷ back) Ended
    worked = subst (λ l. DoesAll Idle l Ended) acts_are driven.runner.worked

    by_drives : SessionOutcome f session.events driven.given session.loaded nothing_sent driven.sent (Ok by)
        → ¬ IsCutByGo back
    by_drives (closes from serves) cut =
        not_endless f session.events driven.given session.loaded serves.past serves.rest acts from serves.history
        orders driven.runner.reports_taken h.run
        (subst (IsEndless h.run) (sym acts_are)
        (cut_run front act h Ended back takes cut worked (subst (NumberedFrom 0) acts_are
        (numbered f session.events driven.given session.loaded serves.past serves.rest acts from serves.history
        orders driven.runner.reports_taken))))
      where
        orders : IsPrefixOf (flat_map order_in acts) (orders_of serves.past)
        orders = subst (IsPrefixOf (flat_map order_in acts)) serves.orders_are
            (takes_first by acts driven.sent.orders driven.runner.orders_taken)

    by_cut : IsCutShort back ⊎ IsCutByGo back → HasLast (reports_of_run back) ⊎ IsCutShort back
    by_cut (inl is) = inr is
    by_cut (inr is) = absurd (by_drives session.drives is)

    by_end : HasLast (reports_of_run back) ⊎ IsCut back → HasLast (reports_of_run back) ⊎ IsCutShort back
    by_end (inl last) = inl last
    by_end (inr cut) = by_cut (cut_how cut)
