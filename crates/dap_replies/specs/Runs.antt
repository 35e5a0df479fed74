-- Defines what contracts see of the run that the runner has.
use Rattle.std.specs.Prelude.{ℕ, Bool, false, ◌||◌, not, List, Option, None, Some}
use Rattle.pl0_unit.specs.declared.unit.Unit.{Unit as Compiled}
use Rattle.dbg_plan.specs.Breakpoints.{Breakpoint}
use Rattle.dbg_plan.specs.Debugged.{Debugged}
use Rattle.dbg_plan.specs.declared.mode.Mode.{Mode}
use Rattle.dbg_runner.specs.Plain.{Heading, goes_back}
use Rattle.dbg_runner.specs.Reported.{text_of}

-- A run of a program in a mode, under breakpoints that count from position `counted_from`. Its next report starts at
-- `position`. Breakpoints or a pause may wait until the runner returns the debuggee, and `held` says that this was
-- ordered.
pub record OrderedRun : Type 0 where
  pub unit : Compiled
  pub mode : Mode
  pub position : ℕ
  pub breakpoints : List Breakpoint
  pub counted_from : ℕ
  pub waiting_plan : Option (List Breakpoint)
  pub waiting_pause : Bool
  pub held : Bool

-- a run of this debuggee at its beginning
abbrev pub begun_run : Debugged → Mode → OrderedRun
begun_run d mode =
    record {
      unit = d.unit;
      mode = mode;
      position = d.position;
      breakpoints = d.breakpoints;
      counted_from = d.counted_from;
      waiting_plan = None;
      waiting_pause = false;
      held = false;
    }

-- the heading that the next report must have, where the run has this number
abbrev pub heading_in : ℕ → OrderedRun → Heading
heading_in number run =
    record {
      run = number;
      text = text_of run.unit;
      plan = run.breakpoints;
      counted_from = run.counted_from;
      mode = run.mode;
      start = run.position;
    }

-- the run after the order to hold it; a run that goes back isn't held
abbrev pub ordered_to_hold : OrderedRun → OrderedRun
ordered_to_hold run = record run { held = run.held || not (goes_back run.mode) }

-- the debuggee with the breakpoints that waited, which count from the next position to be considered
abbrev pub with_waiting : Option (List Breakpoint) → Debugged → Debugged
with_waiting None d = d
with_waiting (Some breakpoints) d = record d { breakpoints = breakpoints; counted_from = d.next }
