-- A run goes back as asked and is not held, and counts begin anew after it.
use Rattle.dap_history.proofs.Common.{Accepted, Block, Body, Causes, CommandName, Configuring, Content, Effect, Fault, Faulted, GoesBackBy, Heading, History, Incoming, InputEnd, IsSome, IsStopped, Item, Loaded, MemoryFailure, Mode, None, Ok, Option, PlainOrder, PlainReport, Plan, ReadFailure, Running, Situation, SliceOutcome, Some, Step, StopReason, Stopped, WrittenJoins, [], ap, back_in, end_of, go, goes_back, inl, inr, is_back, last_run, last_such, nothing, option_map_or, or_else, order_mark, plan, refl, report_effect, run_in, situation, step_mark, stop_of_event, subst, sym, unwrap_or, ℕ, ◌++◌, ◌+◌, ◌∙◌, ◌∷◌, ◌≡◌, ◌⊎◌}
use Rattle.std.proofs.Common.{List, true, false, arith}
use Rattle.std.specs.Prelude.{option_map}
use Rattle.dap_msg.specs.declared.outgoing.Outgoing.TheVariants.{Answer}
use Rattle.dbg_runner.specs.declared.outcome.SliceOutcome.TheVariants as slice
use Rattle.dap_history.specs.Readings.{position}
use Rattle.dap_history.specs.GoingBack.{EachGoesBackAsAsked, CountsBeginAnew, RetreatsAreNotHeld}
use Rattle.dap_history.proofs.Readings.{situation-snoc, position-snoc, plan-snoc, last_run-snoc}
use Rattle.dap_history.proofs.Texts.{OneProgram}
use Rattle.dap_history.proofs.Along.{IsTaken, IsKept, IsLawfulEvent, any_events, lawful_events, along}
use Rattle.dap_history.proofs.Each.{WasTaken, EachTaken, each_kept, each_first}
use Rattle.dap_history.proofs.Silent.{StopsBy, no_stop, at_first, all_silent}
use Rattle.dap_history.proofs.Outputs.{outputs_unmarked}
use Rattle.dap_history.proofs.Standing.{MarkIs, mark_unwrap, answers_only, ReportsStop, step_stops}
use Rattle.dap_history.proofs.Passing.{IsConfiguring, mark_of_effect, mark_of, Ran}
use Rattle.dap_history.proofs.Stopping.{ran_first, ran_more}
use Rattle.dap_history.proofs.Once.{ordered_last}
use Rattle.dap_history.proofs.Ordered.{CanRun, PutsIn, all_orders, granted_back}
use Rattle.dap_history.proofs.Ordering.{IsResumed, is_back_is, item_ordered, ordered_back, ordered_from, item_holds}
use Rattle.std.proofs.lemmas.Grind.{common_steps}

-- ---- as asked, and not held

module _ (Q : Incoming → Type 0) where
  abbrev pub Anything : History → Type 0
  Anything past = Unit {0}

  pub anything_kept : IsKept Q Anything
  anything_kept = record { step = λ past item new taking taken after here. tt }

granted_by : (past : History) (item : Item) (step : Step) (m : Mode) (seq : ℕ) (name : CommandName) (b : Body)
    → Causes past item step → back_in item ≡ Some m → step.answer ≡ Some (Answer seq name (Ok b)) → IsSome (run_in step)
granted_by past (Content (Some request)) step m seq name b is asks answers =
    subst (λ (e : Effect). IsSome (last_such go e.orders)) (sym is.2.effect_is)
    (granted_back (situation past) past request.body is.0 m b is.1 asks (let e = sym is.2.answer_is ∙ answers in cc))
granted_by past _ step m seq name b is asks answers = absurd cc

pub each_goes_back : EachGoesBackAsAsked
each_goes_back f events past rest lawful history before step after past_is = (
  λ run orders. ordered_back before (back_in step.item) step.effect.put_in (run_in step)
      (item_ordered before step.item step was.taken was.causes) run (ordered_last before step run was.causes orders),
  λ m seq name b asks answers. granted_by before step.item step m seq name b was.causes asks answers,
)
  where
    each : EachTaken IsLawfulEvent (Anything IsLawfulEvent) past
    each = along IsLawfulEvent (EachTaken IsLawfulEvent (Anything IsLawfulEvent))
        (each_kept IsLawfulEvent (Anything IsLawfulEvent) (anything_kept IsLawfulEvent))
        (each_first IsLawfulEvent (Anything IsLawfulEvent) tt) f events past rest (lawful_events events lawful) history

    was : WasTaken IsLawfulEvent (Anything IsLawfulEvent) before step
    was = each.each before step after past_is

abbrev AnyEvent : Incoming → Type 0
AnyEvent e = Unit {0}

pub retreats_not_held : RetreatsAreNotHeld
retreats_not_held f events past rest history before step after past_is back =
    item_holds before step.item step was.causes back
  where
    each : EachTaken AnyEvent (Anything AnyEvent) past
    each = along AnyEvent (EachTaken AnyEvent (Anything AnyEvent))
        (each_kept AnyEvent (Anything AnyEvent) (anything_kept AnyEvent)) (each_first AnyEvent (Anything AnyEvent) tt)
        f events past rest (any_events events) history

    was : WasTaken AnyEvent (Anything AnyEvent) before step
    was = each.each before step after past_is

-- ---- a step that orders a run leads to Running

pub marks_are : (os : List PlainOrder)
    → last_such order_mark os ≡ option_map (λ (run : Heading). Running) (last_such go os)
marks_are [] = refl
marks_are (o ∷ os) = grind (arith, common_steps, marks_are os, go) steps 200000

leads_to_running : (past : History) (step : Step) (run : Heading) → last_such go step.effect.orders ≡ Some run
    → situation (past ++ step ∷ []) ≡ Running
leads_to_running past step run is = cc (situation-snoc past step, marks_are step.effect.orders)

-- ---- counts begin anew

-- where a run that went back stands, the plan counts from the next position
abbrev BackStood : History → Type 0
BackStood past = is_back past ≡ true → IsStopped (situation past) → (plan past).counted_from ≡ position past + 1

abbrev Counted : History → Item → Effect → Type 0
Counted past item effect =
    (unwrap_or effect.put_in (plan past)).counted_from ≡ unwrap_or (end_of item) (position past) + 1

no_run_back : (past : History) → last_run past ≡ None → is_back past ≡ false
no_run_back past none = ap (λ o. option_map_or (λ (run : Heading). goes_back run.mode) o false) none

counted_put : (past : History) (put : Option Plan) → PutsIn (situation past) past put → IsStopped (situation past)
    → (plan past).counted_from ≡ position past + 1 → (unwrap_or put (plan past)).counted_from ≡ position past + 1
counted_put past put puts stands was = grind (arith, common_steps) steps 200000

stops_configuring : (s : Situation) (past : History) (o : Option StopReason) (r : StopReason) → StopsBy s past o
    → o ≡ Some r → s ≡ Configuring
stops_configuring s past None r no_stop is = absurd cc
stops_configuring s past (Some other) r (at_first l why here launch due) is = here

module _ (one : OneProgram) (joins : WrittenJoins) where
  -- a step that only has an effect like this reports no stop
  no_stop_by : (step : Step) (effect : Effect) → step.effect ≡ effect → last_such stop_of_event effect.events ≡ None
      → ReportsStop step.effect.events → ⊥
  no_stop_by step effect is none stops = grind (arith, common_steps) steps 200000

  -- where a run that goes back has come to its stop
  come : (past : History) (r : PlainReport) (main : Block) (e : SliceOutcome) → goes_back r.mode ≡ true
      → GoesBackBy main r e → MarkIs IsStopped (mark_of_effect (report_effect past r e))
      → Counted past (Accepted r) (report_effect past r e)
  come past r main slice.More back by mark =
      absurd (subst (MarkIs IsStopped) (outputs_unmarked past r) mark)
  come past r main (slice.Due reason) back by mark = cc
  come past r main slice.NoMemory back by mark = absurd mark
  come past r main _ back by mark = elim by [ ]

  module _ (past : History) (step : Step) (ran : Ran one joins past) (stood : BackStood past)
      (back : is_back past ≡ true) where
    not_begun : last_run past ≡ None → ⊥
    not_begun none = let e = sym (no_run_back past none) ∙ back in cc

    -- nothing is put in, and no stop is reported
    still : (item : Item) (effect : Effect) → step.effect ≡ effect → effect.put_in ≡ None
        → last_such stop_of_event effect.events ≡ None → end_of item ≡ None
        → (ReportsStop step.effect.events ⊎ IsStopped (situation past)) → Counted past item step.effect
    still item effect is none no_stops stays here = grind (arith, common_steps, no_stop_by) steps 200000

    -- the step leads to where the program stands, or changes no situation
    abbrev IsStoppedAfter : Type 0
    IsStoppedAfter = MarkIs IsStopped (step_mark step) ⊎ ((step_mark step ≡ None) × IsStopped (situation past))

    by_stop : (item : Item) → Causes past item step → IsStoppedAfter → ReportsStop step.effect.events
        ⊎ IsStopped (situation past)
    by_stop item causes (inl mark) = inl (step_stops step (answers_only past item step causes) mark)
    by_stop item causes (inr is) = inr is.1

    counted_by : (item : Item) → IsTaken IsLawfulEvent past item → Causes past item step → IsStoppedAfter
        → Counted past item step.effect
    counted_by (Content None) taken is leads = grind (arith, common_steps, still, nothing, by_stop) steps 200000
    counted_by (Content (Some request)) taken is leads = by_request (by_stop (Content (Some request)) is leads)
      where
        by_request : ReportsStop step.effect.events ⊎ IsStopped (situation past)
            → Counted past (Content (Some request)) step.effect
        by_request (inl stops) =
            let configuring = stops_configuring _ past _ stops.0 (all_silent _ past request.body is.0 is.1).stops (ap (λ
            (e : Effect). last_such stop_of_event e.events) (sym is.2.effect_is) ∙ stops.1) in
            absurd (not_begun (ran.configuring (subst IsConfiguring (sym configuring) tt)).0)
        by_request (inr stands) =
            ap (λ (e : Effect). (unwrap_or e.put_in (plan past)).counted_from) is.2.effect_is ∙ counted_put past _
            (all_orders _ past _ _ refl is.1).put stands (stood back stands)
    counted_by (Loaded launch file) taken is leads = grind (arith, common_steps, not_begun) steps 200000
    counted_by (Accepted r) taken is leads = by_mark leads
      where
        goes : goes_back r.mode ≡ true
        goes = sym (is_back_is past r taken.0) ∙ back

        by_mark : IsStoppedAfter → Counted past (Accepted r) step.effect
        by_mark (inl mark) = grind (arith, common_steps, come, mark_of) steps 200000
        by_mark (inr stands) = absurd (subst IsStopped taken.0.running stands.1)
    counted_by (Fault k) taken is leads = still (Fault k) _ is.effect_is refl refl refl (by_stop (Fault k) is leads)
    counted_by InputEnd taken is leads = still InputEnd _ is.effect_is refl refl refl (by_stop InputEnd is leads)
    counted_by ReadFailure taken is leads =
        still ReadFailure _ is.effect_is refl refl refl (by_stop ReadFailure is leads)
    counted_by MemoryFailure taken is leads = grind (arith, common_steps, still, by_stop) steps 200000

  -- both are kept
  record Back (past : History) : Type 0 where
    ran : Ran one joins past
    stood : BackStood past

  stood_more : (past : History) (step : Step) → IsTaken IsLawfulEvent past step.item → Causes past step.item step
      → Back past → BackStood (past ++ step ∷ [])
  stood_more past step taken causes here back standing = by_run (last_such go step.effect.orders) refl
    where
      by_run : (o : Option Heading) → last_such go step.effect.orders ≡ o
          → (plan (past ++ step ∷ [])).counted_from ≡ position (past ++ step ∷ []) + 1
      by_run (Some run) is = absurd (subst IsStopped (leads_to_running past step run is) standing)
      by_run None none =
          let same : last_run (past ++ step ∷ []) ≡ last_run past = last_run-snoc past step ∙ ap (λ o. or_else o
          (last_run past)) none in
          let was : is_back past ≡ true = ap (λ o. option_map_or (λ (run : Heading). goes_back run.mode) o false) (sym
          same) ∙ back in
          ap (λ (p : Plan). p.counted_from) (plan-snoc past step) ∙ counted_by past step here.ran here.stood was
          step.item taken causes (mark_unwrap IsStopped _ _ (subst IsStopped (situation-snoc past step) standing)) ∙ ap
          (λ n. n + 1) (sym (position-snoc past step))

  back_kept : IsKept IsLawfulEvent Back
  back_kept = record {
    step = λ past item new taking taken after here.
        let of_item = subst (IsTaken IsLawfulEvent past) (sym after.item_is) taken in
        let causes = subst (λ i. Causes past i after.step) (sym after.item_is) after.causes in
        subst Back (sym after.new_is) (record {
          ran = ran_more one joins past after.step of_item causes here.ran;
          stood = stood_more past after.step
              of_item causes here;
        });
  }

  back_first : Back []
  back_first = record { ran = ran_first one joins; stood = λ back standing. absurd standing }

  pub counts_begin_anew : CountsBeginAnew
  counts_begin_anew f events past rest lawful history before step after past_is run orders back =
      by_place (ordered_from before _ step.effect.put_in _ (item_ordered before step.item step was.taken was.causes) run
      (ordered_last before step run was.causes orders))
    where
      each : EachTaken IsLawfulEvent Back past
      each = along IsLawfulEvent (EachTaken IsLawfulEvent Back) (each_kept IsLawfulEvent Back back_kept)
          (each_first IsLawfulEvent Back back_first) f events past rest (lawful_events events lawful) history

      was : WasTaken IsLawfulEvent Back before step
      was = each.each before step after past_is

      by_situation : (s : Situation) → situation before ≡ s → CanRun s → run.counted_from ≡ (plan before).counted_from
          → run.start ≡ position before → run.counted_from ≡ run.start + 1
      by_situation Configuring is can counted starts =
          absurd (not_begun before step was.held.ran was.held.stood back (was.held.ran.configuring (rw is tt)).0)
      by_situation Stopped is can counted starts = cc (was.held.stood back (subst IsStopped (sym is) tt))
      by_situation Faulted is can counted starts = cc (was.held.stood back (subst IsStopped (sym is) tt))
      by_situation _ is can counted starts = absurd can

      by_place : IsResumed before run ⊎ (is_back before ≡ false) → run.counted_from ≡ run.start + 1
      by_place (inl resumed) = by_situation (situation before) refl resumed.0 resumed.1 resumed.2
      by_place (inr not) = absurd (let e = sym back ∙ not in cc)
