-- Reports and orders as data, without addresses. All that is said of runs is said of these.
use Rattle.std.specs.Prelude.{ℕ, Bool, true, false, List, ℤ}
use Rattle.dbg_plan.specs.Breakpoints.{Breakpoint}
use Rattle.dbg_plan.specs.Logs.{Log}
use Rattle.dbg_plan.specs.declared.mode.Mode.{Mode}
use Rattle.dbg_plan.specs.declared.mode.Mode.TheVariants.{StepBack, Reverse}
use Rattle.dbg_runner.specs.declared.outcome.SliceOutcome.{SliceOutcome}

-- a run in this mode goes back
abbrev pub goes_back : Mode → Bool
goes_back StepBack = true
goes_back Reverse = true
goes_back _ = false

-- which way a run goes
pub data Direction : Type 0 where
  Onward : Direction
  Back : Direction

-- back if the test holds
abbrev pub back_if : Bool → Direction
back_if true = Back
back_if false = Onward

-- which way a mode goes
abbrev pub direction : Mode → Direction
direction mode = back_if (goes_back mode)

-- What fixes the next report of a run: the run's number, its program's text, its plan with the first position that it
-- counts, its mode, and the position from which it goes on.
pub record Heading : Type 0 where
  pub run : ℕ
  pub text : List ℕ
  pub plan : List Breakpoint
  pub counted_from : ℕ
  pub mode : Mode
  pub start : ℕ

-- A report under this heading: it goes from position `start`, up to which the program wrote `numbers_before` numbers,
-- to position `end`. In a run that goes back, `steps_rerun` steps were run again so far. It wrote these numbers, logged
-- this where it ends, and ended so.
pub record PlainReport : Type 0 where
  pub heading : Heading
  pub open heading use *
  pub end : ℕ
  pub numbers_before : ℕ
  pub steps_rerun : ℕ
  pub numbers : List ℤ
  pub logs : List Log
  pub outcome : SliceOutcome

-- what fixes the report after this one
abbrev pub heading_after : Heading → PlainReport → Heading
heading_after h r = record h { start = r.end }

-- An order: to begin a run, to hold one, or to quit.
pub data PlainOrder : Type 0 where
  Go : Heading → PlainOrder
  Hold : ℕ → PlainOrder
  Quit : PlainOrder
