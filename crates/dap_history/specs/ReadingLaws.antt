-- States how each reading changes with one more step.
use Rattle.std.specs.Prelude.{◌≡◌, ◌++◌, ◌∷◌, [], ◌+◌, length, unwrap_or}
use Rattle.std.specs.List.{filter_map}
use Rattle.dap_history.specs.Last.{or_else, last_such}
use Rattle.dap_history.specs.History.{Step, History, messages, messages_of, orders_of, next_seq}
use Rattle.dap_history.specs.Readings.{step_mark, situation, settings_by, settings, launched, go, last_run, runs, end_of, position, numbers, numbers_told, plan, waits_by, waiting_plan, pauses_by, waiting_pause, hold_mark, is_held, closing, ending_of}

-- one equation for each reading
pub record ReadingsGoOn : Type 0 where
  pub messages_are : (past : History) (step : Step) → messages_of (past ++ step ∷ []) ≡ messages_of past
      ++ messages step
  pub orders_are : (past : History) (step : Step) → orders_of (past ++ step ∷ []) ≡ orders_of past ++ step.effect.orders
  pub next_seq_is : (past : History) (step : Step) → next_seq (past ++ step ∷ []) ≡ next_seq past + length
      (messages step)
  pub situation_is : (past : History) (step : Step) → situation (past ++ step ∷ []) ≡ unwrap_or (step_mark step)
      (situation past)
  pub settings_are : (past : History) (step : Step) → settings (past ++ step ∷ []) ≡ unwrap_or
      (settings_by step.item step.answer) (settings past)
  pub launched_is : (past : History) (step : Step) → launched (past ++ step ∷ []) ≡ or_else step.effect.launched
      (launched past)
  pub last_run_is : (past : History) (step : Step) → last_run (past ++ step ∷ []) ≡ or_else
      (last_such go step.effect.orders) (last_run past)
  pub runs_are : (past : History) (step : Step) → runs (past ++ step ∷ []) ≡ runs past + length
      (filter_map go step.effect.orders)
  pub position_is : (past : History) (step : Step) → position (past ++ step ∷ []) ≡ unwrap_or (end_of step.item)
      (position past)
  pub numbers_told_is : (past : History) (step : Step) → numbers_told (past ++ step ∷ []) ≡ numbers_told past + length
      (numbers (messages step))
  pub plan_is : (past : History) (step : Step) → plan (past ++ step ∷ []) ≡ unwrap_or step.effect.put_in (plan past)
  pub waiting_plan_is : (past : History) (step : Step) → waiting_plan (past ++ step ∷ []) ≡ unwrap_or (waits_by step)
      (waiting_plan past)
  pub waiting_pause_is : (past : History) (step : Step) → waiting_pause (past ++ step ∷ []) ≡ unwrap_or (pauses_by step)
      (waiting_pause past)
  pub held_is : (past : History) (step : Step) → is_held (past ++ step ∷ []) ≡ unwrap_or
      (last_such hold_mark step.effect.orders) (is_held past)
  pub ending_is : (past : History) (step : Step) → ending_of (past ++ step ∷ []) ≡ or_else (closing step.item)
      (ending_of past)
