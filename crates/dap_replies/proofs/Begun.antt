-- A step that orders a run of the debuggee leads to Running.
use Rattle.std.proofs.Common.{◌≡◌, ℕ, ◌+◌, [], ◌∷◌, ◌++◌, None, Some, sym, ◌∙◌, ap}
use Rattle.std.specs.Prelude.{false, unwrap_or, option_map, length}
use Rattle.std.specs.List.{filter_map}
use Rattle.dbg_plan.specs.Debugged.{Debugged}
use Rattle.dbg_plan.specs.declared.mode.Mode.{Mode}
use Rattle.dbg_runner.specs.Plain.{Go}
use Rattle.dbg_runner.specs.Reported.{heading}
use Rattle.dap_history.specs.Last.{or_else, last_such}
use Rattle.dap_history.specs.declared.situation.Situation.TheVariants.{Running}
use Rattle.dap_history.specs.History.{Step, History, messages}
use Rattle.dap_history.specs.Readings.{step_mark, order_mark, message_mark, situation, settings_by, settings, launched, go, last_run, runs, numbers_told, waiting_plan, is_pause, waiting_pause, hold_mark, is_held}
use Rattle.dap_history.specs.ReadingLaws.{ReadingsGoOn}
use Rattle.dap_replies.specs.declared.phase.Phase.TheVariants as phase
use Rattle.dap_replies.specs.declared.phase.Target.{Target}
use Rattle.dap_replies.specs.Runs.{begun_run}
use Rattle.dap_replies.specs.Phases.{IsTarget, IsDebuggee, IsPhase}

-- The step orders the next run, which is one of this debuggee in this mode. It launches nothing, and takes no settings.
pub record OrdersRun (t : Target) (d : Debugged) (m : Mode) (step : Step) : Type 0 where
  pub orders_are : step.effect.orders ≡ Go (heading (t.runs + 1) d m) ∷ []
  pub launches_nothing : step.effect.launched ≡ None
  pub sets_nothing : settings_by step.item step.answer ≡ None

-- the target when one more run is ordered, and this many numbers are reported
abbrev pub with_next_run : Target → ℕ → Target
with_next_run t told = record t { runs = t.runs + 1; told = told }

-- The debuggee stands where the step leaves it, under the plan that is in force then.
pub run_begins : ReadingsGoOn → (t : Target) (d : Debugged) (m : Mode) (past : History) (step : Step)
    → IsTarget t d.unit past → IsDebuggee d (past ++ step ∷ []) → OrdersRun t d m step
    → (told : ℕ) → told ≡ numbers_told (past ++ step ∷ []) → IsPhase
    (phase.Running (with_next_run t told) (begun_run d m))
    (past ++ step ∷ [])
run_begins laws t d m past step is_t is_d orders told told_is = record {
  situation_is = laws.situation_is past step ∙ ap (λ o. unwrap_or o (situation past)) mark;
  keeps = (
    record {
      launched_is =
          laws.launched_is past step ∙ ap (λ o. or_else o (launched past)) orders.launches_nothing ∙ is_t.launched_is;
      settings_are =
          is_t.settings_are ∙ sym (laws.settings_are past step
          ∙ ap (λ o. unwrap_or o (settings past)) orders.sets_nothing);
      runs_are = sym count;
      told_is = told_is;
    },
    record {
      first = heading (t.runs + 1) d m;
      ordered = laws.last_run_is past step ∙ ap (λ os. or_else (last_such go os) (last_run past)) orders.orders_are;
      goes_on =
          ap (λ n. record (heading (t.runs + 1) d m) { start = n }) (sym is_d.position_is)
          ∙ ap (λ n. heading n d m) (sym count);
      breakpoints_are = is_d.breakpoints_are;
      counted_from_is = is_d.counted_from_is;
      waiting_plan_is = sym (laws.waiting_plan_is past step
          ∙ ap (λ os. unwrap_or (or_else (option_map (λ run. None) (last_such go os))
          (option_map Some step.effect.waits)) (waiting_plan past)) orders.orders_are);
      waiting_pause_is = sym (laws.waiting_pause_is past step
          ∙ ap (λ os. unwrap_or (or_else (option_map (λ run. false) (last_such go os)) (is_pause step.answer))
          (waiting_pause past)) orders.orders_are);
      held_is =
          sym (laws.held_is past step ∙ ap (λ os. unwrap_or (last_such hold_mark os) (is_held past)) orders.orders_are);
    },
  );
}
  where
    mark : step_mark step ≡ Some Running
    mark = ap (λ os. or_else (last_such order_mark os) (last_such message_mark (messages step))) orders.orders_are

    count : runs (past ++ step ∷ []) ≡ t.runs + 1
    count =
        laws.runs_are past step ∙ ap (λ os. runs past + length (filter_map go os)) orders.orders_are
        ∙ ap (λ n. n + 1) (sym is_t.runs_are)
