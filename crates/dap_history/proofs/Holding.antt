-- A run is held once, where something waits.
use Rattle.dap_history.proofs.Common.{Accepted, Answers, Body, Breakpoint, Causes, Command, Content, Effect, Ending, Go, Heading, History, Hold, Incoming, InputEnd, IsTaking, Item, Launch, Launched, Launches, None, Ok, Option, Outgoing, PlainOrder, PlainReport, Quit, Reaction, ReadFailure, Reason, Refusal, Reply, Request, Running, Situation, SliceOutcome, Some, Step, [], ap, append-nil, arith, closing, due_first, effect_in, ending_of, enters, filter_map, go, goes_back, held_effect, hold_mark, hold_once, inl, inr, is_back, last_run, last_such, length, name_of, option_map_or, or_else, orders_of, refl, reply_of, report_effect, runs, situation, step_mark, subst, sym, unwrap_or, waiting_pause, ℕ, ◌++◌, ◌+◌, ◌∙◌, ◌∷◌, ◌≡◌, ◌⊎◌}
use Rattle.std.proofs.Common.{List, Bool, true, false}
use Rattle.std.specs.Prelude.{Result}
use Rattle.std.proofs.lemmas.List.{append_assoc}
use Rattle.dap_msg.specs.declared.outgoing.Outgoing.TheVariants.{Answer}
use Rattle.dbg_runner.specs.declared.outcome.SliceOutcome.TheVariants as slice
use Rattle.dap_history.specs.Readings.{is_held}
use Rattle.dap_history.specs.Runs.{IsToWait, GrantsWait, HoldOnce, WaitsAreHeld}
use Rattle.dap_history.proofs.Readings.{situation-snoc, orders_of-snoc, last_run-snoc, runs-snoc, is_held-snoc, ending_of-snoc}
use Rattle.dap_history.proofs.Along.{IsKept, any_events, along}
use Rattle.dap_history.proofs.Each.{WasTaken, EachTaken, each_kept, each_first}
use Rattle.dap_history.proofs.Paths.{at_path, at_path_so}
use Rattle.dap_history.proofs.Reacted.{IsCalm, Reacted, by_refusing, by_answering, by_setting, by_starting, by_resuming, by_retreating, by_interrupting, by_closing, reacted, by_reaction}
use Rattle.dap_history.proofs.Standing.{MarkIs, mark_unwrap, answers_only}
use Rattle.dap_history.proofs.Passing.{IsRunning, runs_not}
use Rattle.dap_history.proofs.Once.{none_within, rest_of}
use Rattle.std.proofs.lemmas.Grind.{common_steps}

-- ---- what a step orders

-- a step orders nothing, or the next run, or a Hold of the last where something waits in it, or Quit where it closes
-- the session
data OrdersBy (past : History) (step : Step) : Type 0 where
  orders_none : step.effect.orders ≡ [] → OrdersBy past step
  orders_go : (run : Heading) → run.run ≡ runs past + 1 → step.effect.orders ≡ Go run ∷ [] → OrdersBy past step
  orders_hold : GrantsWait past step → situation past ≡ Running → is_held past ≡ false → is_back past ≡ false
      → step.effect.orders ≡ Hold (runs past) ∷ [] → OrdersBy past step
  orders_quit : (by : Ending) → closing step.item ≡ Some by → step.effect.orders ≡ Quit ∷ [] → OrdersBy past step

-- the request that a step answers with this reply, and the orders of that reply
module _ (past : History) (request : Request) (reply : Reply) (step : Step)
    (item_is : step.item ≡ Content (Some request)) (answers : Answers request.seq (name_of request.body) reply step)
  where
    orders_are : step.effect.orders ≡ reply.effect.orders
    orders_are = ap (λ (e : Effect). e.orders) answers.effect_is

    grants : (b : Body) → reply.result ≡ Ok b → IsToWait past request.body → GrantsWait past step
    grants b is to_wait = grind (arith, common_steps) steps 200000

    -- a request that waits is granted
    holds_by : (b : Body) → reply.result ≡ Ok b → IsToWait past request.body → situation past ≡ Running
        → reply.effect.orders ≡ hold_once past → OrdersBy past step
    holds_by b is to_wait here holds =
        grind (arith, common_steps, is_held, true, orders_are, runs, false, grants) steps 200000

    sets_by : (s : Situation) (bs : List Breakpoint) (b : Body) → situation past ≡ s → reply.result ≡ Ok b
        → IsToWait past request.body → reply.effect.orders ≡ (effect_in s past bs).orders → OrdersBy past step
    sets_by s bs b here is to_wait orders = grind (arith, common_steps, holds_by, orders_are) steps 200000

    begins_by : (l : Launched) (why : Option Reason) → reply.effect.orders ≡ (enters past l why).orders
        → OrdersBy past step
    begins_by l None is = orders_go _ refl (orders_are ∙ is)
    begins_by l (Some r) is = orders_none (orders_are ∙ is)

    reply_orders : {s : Situation} {asked : Command} {reaction : Reaction} → Reacted past s asked reaction
        → s ≡ situation past → request.body ≡ asked → reply ≡ reply_of past reaction → OrdersBy past step
    reply_orders (by_setting s a l found bs there path_is resolved) here by is =
        sets_by (situation past) bs _ refl (ap (λ (r : Reply). r.result) is)
        (subst (IsToWait past) (sym by) (l, there, at_path a.path l.path path_is))
        (ap (λ (r : Reply). r.effect.orders) is)
    reply_orders (by_starting l there) here by is = begins_by l (due_first past l) (cc)
    reply_orders (by_resuming kind a l there) here by is =
        orders_go _ refl (orders_are ∙ ap (λ (r : Reply). r.effect.orders) is)
    reply_orders (by_retreating s kind a l stands there) here by is =
        orders_go _ refl (orders_are ∙ ap (λ (r : Reply). r.effect.orders) is)
    reply_orders (by_closing s) here by is =
        orders_quit _ (ap closing item_is ∙ ap (λ c. closing (Content (Some (record { seq = request.seq; body = c }))))
        by) (orders_are ∙ ap (λ (r : Reply). r.effect.orders) is)
    reply_orders it here by is = grind (arith, common_steps, holds_by, orders_are) steps 200000

loaded_orders_none : (launch : Launch) (file : Option (List ℕ)) (reply : Reply) → Launches launch.arguments file reply
    → reply.effect.orders ≡ []
loaded_orders_none launch file reply is = grind (arith, common_steps) steps 200000

report_orders : (past : History) (r : PlainReport) (e : SliceOutcome) (step : Step)
    → step.effect.orders ≡ (report_effect past r e).orders → OrdersBy past step
report_orders past r slice.Held step is = by_pause (waiting_pause past) is
  where
    by_pause : (pauses : Bool) → step.effect.orders ≡ (held_effect past r pauses).orders → OrdersBy past step
    by_pause true is = orders_none is
    by_pause false is = orders_go _ refl is
report_orders past r _ step is = orders_none is

item_orders : (past : History) (item : Item) (step : Step) → step.item ≡ item → Causes past item step
    → OrdersBy past step
item_orders past (Content (Some request)) step item_is is =
    reply_orders past request is.0 step item_is is.2
    (reacted past (situation past) request.body is.1.reaction is.1.reacts) refl refl is.1.reply_is
item_orders past (Accepted r) step item_is is = report_orders past r r.outcome step (cc is.effect_is)
item_orders past InputEnd step item_is is = orders_quit _ (ap closing item_is) (cc is.effect_is)
item_orders past ReadFailure step item_is is = orders_quit _ (ap closing item_is) (cc is.effect_is)
item_orders past item step item_is is = grind (arith, common_steps, loaded_orders_none) steps 200000

-- ---- how the orders end

-- with the Go of the last run, or with that and its Hold
record EndsAt (past : History) (run : Heading) : Type 0 where
  earlier : List PlainOrder
  number_is : run.run ≡ runs past
  ends : ((is_held past ≡ false) × (orders_of past ≡ earlier ++ Go run ∷ []))
      ⊎ ((is_held past ≡ true) × (orders_of past ≡ earlier ++ Go run ∷ Hold run.run ∷ []))

record Ends (past : History) : Type 0 where
  last : IsTaking past → (run : Heading) → last_run past ≡ Some run → EndsAt past run
  running : IsRunning (situation past) → (run : Heading) × (last_run past ≡ Some run)

module _ (past : History) (step : Step) (orders : List PlainOrder) (orders_are : step.effect.orders ≡ orders) where
  orders_then : orders_of (past ++ step ∷ []) ≡ orders_of past ++ orders
  orders_then = orders_of-snoc past step ∙ ap (λ os. orders_of past ++ os) orders_are

  last_then : last_run (past ++ step ∷ []) ≡ or_else (last_such go orders) (last_run past)
  last_then = last_run-snoc past step ∙ ap (λ os. or_else (last_such go os) (last_run past)) orders_are

  runs_then : runs (past ++ step ∷ []) ≡ runs past + length (filter_map go orders)
  runs_then = runs-snoc past step ∙ ap (λ os. runs past + length (filter_map go os)) orders_are

  held_then : is_held (past ++ step ∷ []) ≡ unwrap_or (last_such hold_mark orders) (is_held past)
  held_then = is_held-snoc past step ∙ ap (λ os. unwrap_or (last_such hold_mark os) (is_held past)) orders_are

last_more : (past : History) (step : Step) → IsTaking past → OrdersBy past step → Ends past
    → IsTaking (past ++ step ∷ []) → (run : Heading) → last_run (past ++ step ∷ []) ≡ Some run
    → EndsAt (past ++ step ∷ []) run
last_more past step taking (orders_none is) here still run run_is = record {
  earlier = was.earlier;
  number_is = was.number_is ∙ sym count;
  ends = by_end was.ends;
}
  where
    was : EndsAt past run
    was = here.last taking run (sym (last_then past step [] is) ∙ run_is)

    count : runs (past ++ step ∷ []) ≡ runs past
    count = runs_then past step [] is ∙ omega arith

    same : orders_of (past ++ step ∷ []) ≡ orders_of past
    same = orders_then past step [] is ∙ append-nil (orders_of past)

    by_end : ((is_held past ≡ false) × (orders_of past ≡ was.earlier ++ Go run ∷ []))
        ⊎ ((is_held past ≡ true) × (orders_of past ≡ was.earlier ++ Go run ∷ Hold run.run ∷ []))
        → ((is_held (past ++ step ∷ []) ≡ false) × (orders_of (past ++ step ∷ []) ≡ was.earlier ++ Go run ∷ []))
        ⊎ ((is_held (past ++ step ∷ []) ≡ true) × (orders_of (past ++ step ∷ []) ≡ was.earlier ++ Go run ∷ Hold run.run
        ∷ []))
    by_end (inl e) = inl (held_then past step [] is ∙ e.0, same ∙ e.1)
    by_end (inr e) = inr (held_then past step [] is ∙ e.0, same ∙ e.1)
last_more past step taking (orders_go new number is) here still run run_is =
    grind (arith, common_steps, last_then, runs_then, held_then, orders_then) steps 200000
last_more past step taking (orders_hold wait running not_held forward is) here still run run_is = record {
  earlier = was.earlier;
  number_is = was.number_is ∙ sym count;
  ends = inr (held_then past step (Hold (runs past) ∷ []) is, by_end was.ends);
}
  where
    was : EndsAt past run
    was = here.last taking run (sym (last_then past step (Hold (runs past) ∷ []) is) ∙ run_is)

    count : runs (past ++ step ∷ []) ≡ runs past
    count = runs_then past step (Hold (runs past) ∷ []) is ∙ omega arith

    by_end : ((is_held past ≡ false) × (orders_of past ≡ was.earlier ++ Go run ∷ []))
        ⊎ ((is_held past ≡ true) × (orders_of past ≡ was.earlier ++ Go run ∷ Hold run.run ∷ []))
        → orders_of (past ++ step ∷ []) ≡ was.earlier ++ Go run ∷ Hold run.run ∷ []
    by_end (inl e) = grind (arith, common_steps, orders_then, runs, append_assoc) steps 200000
    by_end (inr e) = let f = sym not_held ∙ e.0 in absurd cc
last_more past step taking (orders_quit by closes is) here still run run_is =
    let e = sym still ∙ ending_of-snoc past step ∙ ap (λ o. or_else o (ending_of past)) closes in absurd cc

running_more : (past : History) (item : Item) (step : Step) → Causes past item step → Ends past
    → IsRunning (situation (past ++ step ∷ [])) → (run : Heading) × (last_run (past ++ step ∷ []) ≡ Some run)
running_more past item step causes here running = by_run (last_such go step.effect.orders) refl
  where
    by_mark : last_such go step.effect.orders ≡ None → MarkIs IsRunning (step_mark step)
        ⊎ ((step_mark step ≡ None) × IsRunning (situation past)) → (run : Heading)
        × (last_run (past ++ step ∷ []) ≡ Some run)
    by_mark none (inl mark) = absurd (runs_not step (answers_only past item step causes) none mark)
    by_mark none (inr was) = grind (arith, common_steps, last_run-snoc) steps 200000

    by_run : (o : Option Heading) → last_such go step.effect.orders ≡ o → (run : Heading)
        × (last_run (past ++ step ∷ []) ≡ Some run)
    by_run (Some run) is = (run, last_run-snoc past step ∙ ap (λ o. or_else o (last_run past)) is)
    by_run None none = by_mark none (mark_unwrap IsRunning _ _ (subst IsRunning (situation-snoc past step) running))

ends_kept : (Q : Incoming → Type 0) → IsKept Q Ends
ends_kept Q = record {
  step = λ past item new taking taken after here.
      subst Ends (sym after.new_is)
      (record {
        last = last_more past after.step taking (item_orders past item after.step after.item_is after.causes) here;
        running = running_more past item after.step after.causes here;
      });
}

ends_first : Ends []
ends_first = record { last = λ taking run is. absurd cc; running = λ is. absurd is }

abbrev Any : Incoming → Type 0
Any e = Unit {0}

-- ---- the laws

alone : (x y : PlainOrder) (front back : List PlainOrder) → x ∷ [] ≡ front ++ y ∷ back → (x ≡ y) × (front ≡ [])
alone x y [] back is = (cc, refl)
alone x y (z ∷ front) back is = absurd (none_within front back y (ap rest_of is))

is_back_by_last_run : (past : History) (run : Heading) → last_run past ≡ Some run → goes_back run.mode ≡ is_back past
is_back_by_last_run past run is = ap (λ o. option_map_or (λ (h : Heading). goes_back h.mode) o false) (sym is)

module _ (past : History) (step : Step) (front back : List PlainOrder) (n : ℕ) where
  abbrev IsHeldOnce : Type 0
  IsHeldOnce =
      (situation past ≡ Running) × GrantsWait past step × ((earlier : List PlainOrder) × (run : Heading)
      × (orders_of past ++ front ≡ earlier ++ Go run ∷ []) × (n ≡ run.run) × (goes_back run.mode ≡ false))

  held_once : IsTaking past → OrdersBy past step → Ends past → step.effect.orders ≡ front ++ Hold n ∷ back → IsHeldOnce
  held_once taking (orders_none is) here holds = absurd (none_within front back (Hold n) (sym is ∙ holds))
  held_once taking (orders_go run number is) here holds = grind (arith, common_steps, alone) steps 200000
  held_once taking (orders_quit by closes is) here holds = grind (arith, common_steps, alone) steps 200000
  held_once taking (orders_hold wait running not_held forward is) here holds = (
    running,
    wait,
    (
      was.earlier,
      run.0,
      by_end was.ends,
      sym count ∙ sym was.number_is,
      is_back_by_last_run past run.0 run.1 ∙ forward,
    ),
  )
    where
      run : (run : Heading) × (last_run past ≡ Some run)
      run = here.running (subst IsRunning (sym running) tt)

      was : EndsAt past run.0
      was = here.last taking run.0 run.1

      parts : (Hold (runs past) ≡ Hold n) × (front ≡ [])
      parts = alone (Hold (runs past)) (Hold n) front back (sym is ∙ holds)

      count : runs past ≡ n
      count = let e = parts.0 in cc

      by_end : ((is_held past ≡ false) × (orders_of past ≡ was.earlier ++ Go run.0 ∷ []))
          ⊎ ((is_held past ≡ true) × (orders_of past ≡ was.earlier ++ Go run.0 ∷ Hold run.0.run ∷ []))
          → orders_of past ++ front ≡ was.earlier ++ Go run.0 ∷ []
      by_end (inl e) = ap (λ os. orders_of past ++ os) parts.1 ∙ append-nil (orders_of past) ∙ e.1
      by_end (inr e) = let f = sym not_held ∙ e.0 in absurd cc

pub hold_once_law : HoldOnce
hold_once_law f events past rest history before step after past_is front back n holds =
    held_once before step front back n was.taking (item_orders before step.item step refl was.causes) was.held holds
  where
    each : EachTaken Any Ends past
    each = along Any (EachTaken Any Ends) (each_kept Any Ends (ends_kept Any)) (each_first Any Ends ends_first) f events
        past rest (any_events events) history

    was : WasTaken Any Ends before step
    was = each.each before step after past_is

-- ---- what waits is held

-- while a program runs, what waits is not answered without an effect
not_calm : (past : History) (asked : Command) (b : Body) → IsCalm past Running asked b → ¬ IsToWait past asked
not_calm past asked b calm to_wait = grind (arith, common_steps, at_path_so) steps 200000

module _ (past : History) where
  sets_hold : (s : Situation) (bs : List Breakpoint) → s ≡ Running → (effect_in s past bs).orders ≡ hold_once past
  sets_hold s bs is = grind (arith, common_steps) steps 200000

  reaction_holds : {s : Situation} {asked : Command} {reaction : Reaction} → Reacted past s asked reaction
      → s ≡ Running → situation past ≡ Running → (b : Body) → (reply_of past reaction).result ≡ Ok b
      → IsToWait past asked → (reply_of past reaction).effect.orders ≡ hold_once past
  reaction_holds (by_refusing s asked why) running here b granted to_wait = absurd cc
  reaction_holds (by_answering s asked body calm) running here b granted to_wait =
      absurd (not_calm past asked body (subst (λ t. IsCalm past t asked body) running calm) to_wait)
  reaction_holds (by_setting s a l found bs there path_is resolved) running here b granted to_wait = sets_hold _ bs here
  reaction_holds (by_interrupting a) running here b granted to_wait = refl
  reaction_holds _ running here b granted to_wait = absurd to_wait

abbrev pub result_of : Option Outgoing → Option (Result Body Refusal)
result_of (Some (Answer seq c result)) = Some result
result_of _ = None

granted_orders : (past : History) (step : Step) → Causes past step.item step → situation past ≡ Running
    → (wait : GrantsWait past step) → step.effect.orders ≡ hold_once past
granted_orders past step causes here wait =
    ap (λ (e : Effect). e.orders) is.2.effect_is
    ∙ by_reaction (λ (r : Reply). r.result ≡ Ok wait.granted.body → r.effect.orders ≡ hold_once past)
    (λ reaction reacted granted. reaction_holds past reacted here here wait.granted.body granted wait.to_wait) is.1
    granted
  where
    is : Causes past (Content (Some wait.request)) step
    is = subst (λ i. Causes past i step) wait.granted.item_is causes

    granted : is.0.result ≡ Ok wait.granted.body
    granted = ap (λ a. unwrap_or (result_of a) (Ok wait.granted.body)) (sym is.2.answer_is ∙ wait.granted.answer_is)

module _ (past : History) (step : Step) (run : Heading) (run_is : last_run past ≡ Some run)
    (holds : step.effect.orders ≡ hold_once past) (forward : goes_back run.mode ≡ false) where
  abbrev EndsHeld : Type 0
  EndsHeld = (earlier : List PlainOrder) × (orders_of (past ++ step ∷ []) ≡ earlier ++ Hold run.run ∷ [])

  ends_held : EndsAt past run → EndsHeld
  ends_held was = by_end was.ends
    where
      by_end : ((is_held past ≡ false) × (orders_of past ≡ was.earlier ++ Go run ∷ []))
          ⊎ ((is_held past ≡ true) × (orders_of past ≡ was.earlier ++ Go run ∷ Hold run.run ∷ [])) → EndsHeld
      by_end (inl e) =
          let one : step.effect.orders ≡ Hold (runs past) ∷ [] = cc e.0 in
          (orders_of past, cc (orders_then past step (Hold (runs past) ∷ []) one, was.number_is))
      by_end (inr e) =
          let none : step.effect.orders ≡ [] = cc e.0 in (
            was.earlier ++ Go run ∷ [],
            cc (orders_then past step [] none, append-nil _, e.1, append_assoc was.earlier _ _),
          )

pub waits_are_held : WaitsAreHeld
waits_are_held f events past rest history before step after past_is running run run_is forward wait =
    ends_held before step run run_is (granted_orders before step was.causes running wait) forward
    (was.held.last was.taking run run_is)
  where
    each : EachTaken Any Ends past
    each = along Any (EachTaken Any Ends) (each_kept Any Ends (ends_kept Any)) (each_first Any Ends ends_first) f events
        past rest (any_events events) history

    was : WasTaken Any Ends before step
    was = each.each before step after past_is
