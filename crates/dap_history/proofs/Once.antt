-- A step orders at most one run and reports at most one stop, so what is so of the last is so of each.
use Rattle.dap_history.proofs.Common.{Breakpoint, Causes, Command, Content, Effect, EventBody, Heading, History, Item, Launch, Launched, Launches, Log, None, Option, Orders, PlainReport, Reaction, Reason, Reply, Situation, SliceOutcome, Some, Step, StopReason, [], ap, append-nil, cons_option, effect_in, enters, filter_map, filter_map-append, first_logs, go, held_effect, last_such, log_events, or_else, outputs, plan, refl, reply_of, report_effect, run_in, stop_in, stop_of_event, stopped_events, subst, sym, waiting_pause, ℕ, ◌++◌, ◌∙◌, ◌∷◌, ◌≡◌}
use Rattle.std.proofs.Common.{List, true, false, Bool, arith}
use Rattle.std.specs.Prelude.{map, ℤ}
use Rattle.dap_msg.specs.declared.outgoing.EventBody.TheVariants as event
use Rattle.dap_msg.specs.declared.outgoing.StopReason.TheVariants as stop
use Rattle.dbg_runner.specs.declared.outcome.SliceOutcome.TheVariants as slice
use Rattle.dap_history.proofs.Readings.{or_else-none}
use Rattle.dap_history.proofs.Silent.{NextRuns, no_runs, next_run, first_at}
use Rattle.dap_history.proofs.Reacted.{Reacted, by_reaction}
use Rattle.dap_history.proofs.Outputs.{outputs_apart}
use Rattle.dap_history.proofs.Counted.{next_runs}
use Rattle.std.proofs.lemmas.Grind.{common_steps}

-- ---- one of a kind

abbrev pub AtMostOne : {A : Type 0} → List A → Type 0
AtMostOne [] = Unit {0}
AtMostOne (x ∷ []) = Unit {0}
AtMostOne (x ∷ y ∷ ys) = ⊥

abbrev pub rest_of : {A : Type 0} → List A → List A
rest_of [] = []
rest_of (x ∷ xs) = xs

pub none_within : {A : Type 0} (front back : List A) (x : A) → ¬ ([] ≡ front ++ x ∷ back)
none_within [] back x is = absurd cc
none_within (y ∷ front) back x is = absurd cc

pub only : {A : Type 0} (xs front back : List A) (x : A) → AtMostOne xs → xs ≡ front ++ x ∷ back → xs ≡ x ∷ []
only [] front back x one is = absurd (none_within front back x is)
only (y ∷ []) [] back x one is = cc
only (y ∷ []) (z ∷ front) back x one is = absurd (none_within front back x (ap rest_of is))
only (y ∷ z ∷ ys) front back x one is = absurd one

module _ (A B : Type 0) (f : A → Option B) where
  last_kept-cons : (o : Option B) (ys : List B) → last_such (λ (y : B). Some y) (cons_option o ys) ≡ or_else
      (last_such (λ (y : B). Some y) ys) o
  last_kept-cons o ys = grind (arith, common_steps, or_else-none) steps 200000

  last_kept : (xs : List A) → last_such f xs ≡ last_such (λ (y : B). Some y) (filter_map f xs)
  last_kept [] = refl
  last_kept (x ∷ xs) = ap (λ o. or_else o (f x)) (last_kept xs) ∙ sym (last_kept-cons (f x) (filter_map f xs))

  -- where there is at most one such, one that stands among them is the last
  pub each_is_last : (xs front back : List A) (x : A) (y : B) → AtMostOne (filter_map f xs) → xs ≡ front ++ x ∷ back
      → f x ≡ Some y → last_such f xs ≡ Some y
  each_is_last xs front back x y one is gives =
      grind (arith, common_steps, filter_map, filter_map-append, cons_option, last_kept, only) steps 200000

-- ---- runs

at_most_one_run : (past : History) (runs : List Heading) → NextRuns past runs → AtMostOne runs
at_most_one_run past [] no_runs = tt
at_most_one_run past (run ∷ rest) (next_run run' is) = tt

-- each run that a step orders is the last
pub ordered_last : (past : History) (step : Step) (run : Heading) → Causes past step.item step → Orders step run
    → run_in step ≡ Some run
ordered_last past step run causes orders =
    each_is_last _ _ go _ _ orders.back _ run (at_most_one_run past _ (next_runs past _ step causes)) orders.orders_are
    refl

-- ---- stops

-- the stops that events report
abbrev pub stops_in : List EventBody → List StopReason
stops_in es = filter_map stop_of_event es

stops_of_numbers : (vs : List ℤ) (es : List EventBody) → stops_in (map event.Output vs ++ es) ≡ stops_in es
stops_of_numbers [] es = refl
stops_of_numbers (v ∷ vs) es = stops_of_numbers vs es

stops_of_logs : (bs : List Breakpoint) (ls : List Log) (es : List EventBody)
    → stops_in (log_events bs ls ++ es) ≡ stops_in es
stops_of_logs bs [] es = refl
stops_of_logs bs (l ∷ ls) es = stops_of_logs bs ls es

outputs_stops : (past : History) (r : PlainReport) (es : List EventBody) → stops_in (outputs past r ++ es) ≡ stops_in es
outputs_stops past r es = grind (arith, common_steps, outputs_apart, stops_of_numbers, stops_of_logs) steps 200000

abbrev StopsOnce : Effect → Type 0
StopsOnce effect = AtMostOne (stops_in effect.events)

report_stops_once : (past : History) (r : PlainReport) (e : SliceOutcome) → StopsOnce (report_effect past r e)
report_stops_once past r slice.More = rw (ap stops_in (sym (append-nil (outputs past r))) ∙ outputs_stops past r []) tt
report_stops_once past r slice.Held = by_pause (waiting_pause past)
  where
    by_pause : (pauses : Bool) → StopsOnce (held_effect past r pauses)
    by_pause true = subst AtMostOne (sym (outputs_stops past r (stopped_events stop.Pause))) tt
    by_pause false = rw (ap stops_in (sym (append-nil (outputs past r))) ∙ outputs_stops past r []) tt
report_stops_once past r e = grind (arith, common_steps, outputs_stops) steps 200000

enters_stop_once : (past : History) (l : Launched) (why : Option Reason) → StopsOnce (enters past l why)
enters_stop_once past l None =
    rw (ap stops_in (sym (append-nil (first_logs past l))) ∙ stops_of_logs _ (first_at past l) []) tt
enters_stop_once past l (Some r) = subst AtMostOne (sym (stops_of_logs (plan past).breakpoints (first_at past l) _)) tt

pub quiet_in : (s : Situation) (past : History) (bs : List Breakpoint) → (effect_in s past bs).events ≡ []
quiet_in s past bs = grind (arith, common_steps) steps 200000

if_events : (effect : Effect) (es : List EventBody) → effect.events ≡ es → AtMostOne (stops_in es) → StopsOnce effect
if_events effect es is once = subst (λ l. AtMostOne (stops_in l)) (sym is) once

reaction_stops_once : (past : History) {s : Situation} {asked : Command} {reaction : Reaction}
    → Reacted past s asked reaction → StopsOnce (reply_of past reaction).effect
reaction_stops_once past is = grind (arith, common_steps, if_events, quiet_in, enters_stop_once) steps 200000

launch_stops_once : (launch : Launch) (file : Option (List ℕ)) (reply : Reply) → Launches launch.arguments file reply
    → StopsOnce reply.effect
launch_stops_once launch file reply is = grind (arith, common_steps, if_events) steps 200000

step_stops_once : (past : History) (item : Item) (step : Step) → Causes past item step → StopsOnce step.effect
step_stops_once past (Content (Some request)) step is =
    rw is.2.effect_is (by_reaction (λ (r : Reply). StopsOnce r.effect) (λ reaction. reaction_stops_once past) is.1)
step_stops_once past item step is = grind (arith, common_steps, launch_stops_once, report_stops_once) steps 200000

-- each stop that a step reports is the last
pub stopped_last : (past : History) (step : Step) (reason : StopReason) (front back : List EventBody)
    → Causes past step.item step → step.effect.events ≡ front ++ event.Stopped reason ∷ back
    → stop_in step ≡ Some reason
stopped_last past step reason front back causes is =
    each_is_last _ _ _ _ front back _ reason (step_stops_once past _ step causes) is refl
