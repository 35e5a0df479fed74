-- A step that changes nothing that a phase keeps leaves it a phase of the longer history.
use Rattle.std.proofs.Common.{◌≡◌, ℕ, ◌+◌, ℤ, List, [], ◌∷◌, ◌++◌, length, Option, None, Some, Err, refl, sym, ◌∙◌, ap, arith}
use Rattle.std.specs.Prelude.{false, unwrap_or, option_map}
use Rattle.std.specs.List.{filter_map, cons_option}
use Rattle.pl0_unit.specs.declared.unit.Unit.{Unit as Compiled}
use Rattle.dap_msg.specs.declared.outgoing.Refusal.{Refusal}
use Rattle.dap_msg.specs.declared.request.Request.{Request}
use Rattle.dap_msg.specs.Commands.{name_of}
use Rattle.dap_msg.specs.declared.command.CommandName.{CommandName}
use Rattle.dap_msg.specs.declared.command.CommandName.TheVariants as name
use Rattle.dap_msg.specs.declared.command.Supported.TheVariants as supported
use Rattle.dap_msg.specs.declared.outgoing.Outgoing.TheVariants.{Answer}
use Rattle.dbg_plan.specs.Debugged.{Debugged}
use Rattle.dbg_runner.specs.Plain.{Heading}
use Rattle.dap_history.specs.Last.{or_else, last_such}
use Rattle.dap_history.specs.Plans.{Plan}
use Rattle.dap_history.specs.History.{Effect, Step, History, messages}
use Rattle.dap_history.specs.ReadingLaws.{ReadingsGoOn}
use Rattle.dap_history.specs.Readings.{step_mark, situation, settings_by, settings, launched, go, last_run, runs, end_of, position, numbers, numbers_told, plan, waiting_plan, is_pause, waiting_pause, hold_mark, is_held}
use Rattle.dap_history.specs.Replies.{nothing, refused}
use Rattle.dap_replies.specs.declared.phase.Phase.{Phase}
use Rattle.dap_replies.specs.declared.phase.Phase.TheVariants as phase
use Rattle.dap_replies.specs.declared.phase.Target.{Target}
use Rattle.dap_replies.specs.Runs.{OrderedRun, heading_in}
use Rattle.dap_replies.specs.Phases.{IsUnlaunched, IsTarget, IsDebuggee, IsRun, IsPhase, Keeps}
use Rattle.dap_replies.specs.Replied.{request_step}

-- ---- readings that stay

no_last_of : {B : Type 0} (o last : Option B) (rest : List B) → (rest ≡ [] → last ≡ None) → cons_option o rest ≡ []
    → or_else last o ≡ None
no_last_of None last rest none_in_rest none = ap (λ l. or_else l None) (none_in_rest none)
no_last_of (Some b) last rest none_in_rest none = absurd cc

-- where there is no such element, there is no last one
pub no_last : {A B : Type 0} (f : A → Option B) (xs : List A) → filter_map f xs ≡ [] → last_such f xs ≡ None
no_last f [] none = refl
no_last f (x ∷ xs) none = no_last_of (f x) (last_such f xs) (filter_map f xs) (no_last f xs) none

pub situation_stays : ReadingsGoOn → (past : History) (step : Step) → step_mark step ≡ None
    → situation (past ++ step ∷ []) ≡ situation past
situation_stays laws past step no_mark =
    laws.situation_is past step ∙ ap (λ mark. unwrap_or mark (situation past)) no_mark

pub settings_stay : ReadingsGoOn → (past : History) (step : Step) → settings_by step.item step.answer ≡ None
    → settings (past ++ step ∷ []) ≡ settings past
settings_stay laws past step sets_none = laws.settings_are past step ∙ ap (λ o. unwrap_or o (settings past)) sets_none

pub launched_stays : ReadingsGoOn → (past : History) (step : Step) → step.effect.launched ≡ None
    → launched (past ++ step ∷ []) ≡ launched past
launched_stays laws past step launches_none =
    laws.launched_is past step ∙ ap (λ o. or_else o (launched past)) launches_none

pub last_run_stays : ReadingsGoOn → (past : History) (step : Step) → filter_map go step.effect.orders ≡ []
    → last_run (past ++ step ∷ []) ≡ last_run past
last_run_stays laws past step no_go =
    laws.last_run_is past step ∙ ap (λ o. or_else o (last_run past)) (no_last go step.effect.orders no_go)

pub runs_stay : ReadingsGoOn → (past : History) (step : Step) → filter_map go step.effect.orders ≡ []
    → runs (past ++ step ∷ []) ≡ runs past
runs_stay laws past step no_go =
    laws.runs_are past step ∙ ap (λ (l : List Heading). runs past + length l) no_go ∙ omega arith

pub position_stays : ReadingsGoOn → (past : History) (step : Step) → end_of step.item ≡ None
    → position (past ++ step ∷ []) ≡ position past
position_stays laws past step no_end = laws.position_is past step ∙ ap (λ o. unwrap_or o (position past)) no_end

pub plan_stays : ReadingsGoOn → (past : History) (step : Step) → step.effect.put_in ≡ None
    → plan (past ++ step ∷ []) ≡ plan past
plan_stays laws past step puts_none = laws.plan_is past step ∙ ap (λ o. unwrap_or o (plan past)) puts_none

pub waiting_plan_stays : ReadingsGoOn → (past : History) (step : Step) → filter_map go step.effect.orders ≡ []
    → step.effect.waits ≡ None → waiting_plan (past ++ step ∷ []) ≡ waiting_plan past
waiting_plan_stays laws past step no_go waits_none =
    laws.waiting_plan_is past step
    ∙ ap (λ o. unwrap_or (or_else (option_map (λ run. None) o) (option_map Some step.effect.waits)) (waiting_plan past))
    (no_last go step.effect.orders no_go)
    ∙ ap (λ o. unwrap_or (option_map Some o) (waiting_plan past)) waits_none

pub waiting_pause_stays : ReadingsGoOn → (past : History) (step : Step) → filter_map go step.effect.orders ≡ []
    → is_pause step.answer ≡ None → waiting_pause (past ++ step ∷ []) ≡ waiting_pause past
waiting_pause_stays laws past step no_go no_pause =
    laws.waiting_pause_is past step
    ∙ ap (λ o. unwrap_or (or_else (option_map (λ run. false) o) (is_pause step.answer)) (waiting_pause past))
    (no_last go step.effect.orders no_go)
    ∙ ap (λ o. unwrap_or o (waiting_pause past)) no_pause

pub held_stays : ReadingsGoOn → (past : History) (step : Step) → last_such hold_mark step.effect.orders ≡ None
    → is_held (past ++ step ∷ []) ≡ is_held past
held_stays laws past step no_hold = laws.held_is past step ∙ ap (λ o. unwrap_or o (is_held past)) no_hold

pub told_stays : ReadingsGoOn → (past : History) (step : Step) → numbers (messages step) ≡ []
    → numbers_told (past ++ step ∷ []) ≡ numbers_told past
told_stays laws past step tells_none =
    laws.numbers_told_is past step ∙ ap (λ (ns : List ℤ). numbers_told past + length ns) tells_none ∙ omega arith

-- ---- what a phase keeps

pub unlaunched_stays : ReadingsGoOn → (past : History) (step : Step) → step.effect.launched ≡ None
    → filter_map go step.effect.orders ≡ [] → step.effect.put_in ≡ None → end_of step.item ≡ None
    → numbers (messages step) ≡ []
    → IsUnlaunched past → IsUnlaunched (past ++ step ∷ [])
unlaunched_stays laws past step launches_none no_go puts_none no_end tells_none is = record {
  launched_is = launched_stays laws past step launches_none ∙ is.launched_is;
  runs_are = runs_stay laws past step no_go ∙ is.runs_are;
  position_is = position_stays laws past step no_end ∙ is.position_is;
  told_is = told_stays laws past step tells_none ∙ is.told_is;
  plan_is = plan_stays laws past step puts_none ∙ is.plan_is;
}

pub target_stays : ReadingsGoOn → (past : History) (step : Step) → step.effect.launched ≡ None
    → filter_map go step.effect.orders ≡ [] → settings_by step.item step.answer ≡ None → numbers (messages step) ≡ []
    → (t : Target) (u : Compiled) → IsTarget t u past → IsTarget t u (past ++ step ∷ [])
target_stays laws past step launches_none no_go sets_none tells_none t u is = record {
  launched_is = launched_stays laws past step launches_none ∙ is.launched_is;
  settings_are = is.settings_are ∙ sym (settings_stay laws past step sets_none);
  runs_are = is.runs_are ∙ sym (runs_stay laws past step no_go);
  told_is = is.told_is ∙ sym (told_stays laws past step tells_none);
}

pub debuggee_stays : ReadingsGoOn → (past : History) (step : Step) → step.effect.put_in ≡ None → end_of step.item ≡ None
    → (d : Debugged) → IsDebuggee d past → IsDebuggee d (past ++ step ∷ [])
debuggee_stays laws past step puts_none no_end d is = record {
  position_is = is.position_is ∙ sym (position_stays laws past step no_end);
  breakpoints_are = is.breakpoints_are ∙ ap (λ (p : Plan). p.breakpoints) (sym (plan_stays laws past step puts_none));
  counted_from_is = is.counted_from_is ∙ ap (λ (p : Plan). p.counted_from) (sym (plan_stays laws past step puts_none));
}

pub run_stays : ReadingsGoOn → (past : History) (step : Step) → filter_map go step.effect.orders ≡ []
    → step.effect.put_in ≡ None → step.effect.waits ≡ None → is_pause step.answer ≡ None
    → last_such hold_mark step.effect.orders ≡ None → end_of step.item ≡ None → (run : OrderedRun) → IsRun run past
    → IsRun run (past ++ step ∷ [])
run_stays laws past step no_go puts_none waits_none no_pause no_hold no_end run is = record {
  first = is.first;
  ordered = last_run_stays laws past step no_go ∙ is.ordered;
  goes_on =
      ap (λ n. record is.first { start = n }) (position_stays laws past step no_end)
      ∙ is.goes_on
      ∙ ap (λ n. heading_in n run) (sym (runs_stay laws past step no_go));
  breakpoints_are = is.breakpoints_are ∙ ap (λ (p : Plan). p.breakpoints) (sym (plan_stays laws past step puts_none));
  counted_from_is = is.counted_from_is ∙ ap (λ (p : Plan). p.counted_from) (sym (plan_stays laws past step puts_none));
  waiting_plan_is = is.waiting_plan_is ∙ sym (waiting_plan_stays laws past step no_go waits_none);
  waiting_pause_is = is.waiting_pause_is ∙ sym (waiting_pause_stays laws past step no_go no_pause);
  held_is = is.held_is ∙ sym (held_stays laws past step no_hold);
}

-- ---- still and quiet steps

-- no reading changes but the next seq
pub record IsStill (step : Step) : Type 0 where
  pub launches_none : step.effect.launched ≡ None
  pub no_go : filter_map go step.effect.orders ≡ []
  pub no_hold : last_such hold_mark step.effect.orders ≡ None
  pub puts_none : step.effect.put_in ≡ None
  pub waits_none : step.effect.waits ≡ None
  pub no_mark : step_mark step ≡ None
  pub sets_none : settings_by step.item step.answer ≡ None
  pub no_pause : is_pause step.answer ≡ None
  pub no_end : end_of step.item ≡ None
  pub tells_none : numbers (messages step) ≡ []

still_unlaunched : ReadingsGoOn → (past : History) (step : Step) → IsStill step → IsUnlaunched past
    → IsUnlaunched (past ++ step ∷ [])
still_unlaunched laws past step still =
    unlaunched_stays laws past step still.launches_none still.no_go still.puts_none still.no_end still.tells_none

still_target : ReadingsGoOn → (past : History) (step : Step) → IsStill step → (t : Target) (u : Compiled)
    → IsTarget t u past → IsTarget t u (past ++ step ∷ [])
still_target laws past step still =
    target_stays laws past step still.launches_none still.no_go still.sets_none still.tells_none

still_debuggee : ReadingsGoOn → (past : History) (step : Step) → IsStill step → (d : Debugged) → IsDebuggee d past
    → IsDebuggee d (past ++ step ∷ [])
still_debuggee laws past step still = debuggee_stays laws past step still.puts_none still.no_end

still_run : ReadingsGoOn → (past : History) (step : Step) → IsStill step → (run : OrderedRun) → IsRun run past
    → IsRun run (past ++ step ∷ [])
still_run laws past step still =
    run_stays laws past step still.no_go still.puts_none still.waits_none still.no_pause still.no_hold still.no_end

keeps_stay : ReadingsGoOn → (p : Phase) (past : History) (step : Step) → IsStill step → Keeps p past
    → Keeps p (past ++ step ∷ [])
keeps_stay laws phase.Fresh past step still is = still_unlaunched laws past step still is
keeps_stay laws (phase.Ready s) past step still is =
    (is.0 ∙ sym (settings_stay laws past step still.sets_none), still_unlaunched laws past step still is.1)
keeps_stay laws (phase.Launching s launch) past step still is =
    (is.0 ∙ sym (settings_stay laws past step still.sets_none), still_unlaunched laws past step still is.1)
keeps_stay laws (phase.Configuring t d) past step still is =
    (still_target laws past step still t d.unit is.0, still_debuggee laws past step still d is.1, is.2)
keeps_stay laws (phase.Running t run) past step still is =
    (still_target laws past step still t run.unit is.0, still_run laws past step still run is.1)
keeps_stay laws (phase.Stopped t d) past step still is =
    (still_target laws past step still t d.unit is.0, still_debuggee laws past step still d is.1)
keeps_stay laws (phase.Faulted t d) past step still is =
    (still_target laws past step still t d.unit is.0, still_debuggee laws past step still d is.1)
keeps_stay laws (phase.Ended t u) past step still is = still_target laws past step still t u.value is

pub still_stays : ReadingsGoOn → (p : Phase) (past : History) (step : Step) → IsStill step → IsPhase p past
    → IsPhase p (past ++ step ∷ [])
still_stays laws p past step still is = record {
  situation_is = situation_stays laws past step still.no_mark ∙ is.situation_is;
  keeps = keeps_stay laws p past step still is.keeps;
}

-- the step causes nothing, and its item and answer change no reading but the next seq
pub record ChangesNoReading (step : Step) : Type 0 where
  pub effect_is : step.effect ≡ nothing
  pub no_mark : step_mark step ≡ None
  pub sets_none : settings_by step.item step.answer ≡ None
  pub no_pause : is_pause step.answer ≡ None
  pub no_end : end_of step.item ≡ None
  pub tells_none : numbers (messages step) ≡ []

pub quiet_is_still : (step : Step) → ChangesNoReading step → IsStill step
quiet_is_still step quiet = record {
  launches_none = ap (λ (e : Effect). e.launched) quiet.effect_is;
  no_go = ap (λ (e : Effect). filter_map go e.orders) quiet.effect_is;
  no_hold = ap (λ (e : Effect). last_such hold_mark e.orders) quiet.effect_is;
  puts_none = ap (λ (e : Effect). e.put_in) quiet.effect_is;
  waits_none = ap (λ (e : Effect). e.waits) quiet.effect_is;
  no_mark = quiet.no_mark;
  sets_none = quiet.sets_none;
  no_pause = quiet.no_pause;
  no_end = quiet.no_end;
  tells_none = quiet.tells_none;
}

pub phase_stays : ReadingsGoOn → (p : Phase) (past : History) (step : Step) → ChangesNoReading step → IsPhase p past
    → IsPhase p (past ++ step ∷ [])
phase_stays laws p past step quiet is = still_stays laws p past step (quiet_is_still step quiet) is

refused_pause : (seq : ℕ) (command : CommandName) (why : Refusal)
    → is_pause (Some (Answer seq command (Err why))) ≡ None
refused_pause seq (name.Supported supported.Pause) why = refl
refused_pause seq _ why = refl

-- a refused request leads nowhere, whatever was asked
pub refusal_is_quiet : (request : Request) (why : Refusal) → ChangesNoReading (request_step request (refused why))
refusal_is_quiet request why = record {
  effect_is = refl;
  no_mark = refl;
  sets_none = refl;
  no_pause = refused_pause request.seq (name_of request.body) why;
  no_end = refl;
  tells_none = refl;
}
