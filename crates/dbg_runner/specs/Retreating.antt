-- What contracts see of a run that goes back.
use Rattle.std.specs.Prelude.{◌≡◌, ℕ, ◌+◌, ◌-◌, ◌≤◌, List, [], length, Option, Some, None}
use Rattle.pl0_unit.specs.declared.unit.Unit.{Unit as Compiled}
use Rattle.pl0_meaning.specs.Runs.{written}
use Rattle.pl0_machine.specs.Machine.{program_of}
use Rattle.dbg_plan.specs.Breakpoints.{Breakpoint}
use Rattle.dbg_plan.specs.declared.mode.Reason.{Reason}
use Rattle.dbg_plan.specs.Retreat.{goal_of}
use Rattle.dbg_plan.specs.Trail.{Trail, floor_of}
use Rattle.dbg_plan.specs.Debugged.{Debugged}
use Rattle.dbg_plan.specs.declared.mode.Mode.{Mode}
use Rattle.dbg_plan.specs.declared.mode.Mode.TheVariants.{StepBack, Reverse}
use Rattle.dbg_runner.specs.declared.outcome.SliceOutcome.{SliceOutcome}
use Rattle.dbg_runner.specs.declared.outcome.SliceOutcome.TheVariants as out
use Rattle.dbg_runner.specs.declared.report.Summary.{Summary}
use Rattle.dbg_runner.specs.Rooms.{Room, slice_limit}
use Rattle.dbg_runner.specs.Plain.{Heading}
use Rattle.dbg_runner.specs.Reported.{text_of}

-- A run that goes back in this mode, from position `start`, under a plan that counted from position `counted_from`
-- there. It has run `steps_rerun` steps again so far, and its debuggee stands at `position`.
pub record Retreating : Type 0 where
  pub unit : Compiled
  pub breakpoints : List Breakpoint
  pub counted_from : ℕ
  pub mode : Mode
  pub start : ℕ
  pub steps_rerun : ℕ
  pub position : ℕ
  pub trail : Trail

-- ---- how many steps are run again

-- how many steps lead to a position from the last checkpoint at or before it, or from position 0
abbrev pub steps_to : List ℕ → ℕ → ℕ
steps_to kept to = to - floor_of kept to

-- How many steps a run in this mode from position n, which stops at position `to`, runs again in all, with checkpoints
-- at these positions. Going back to where it was last due, it first runs through all positions below n, to find that
-- stop.
abbrev pub steps_again : List ℕ → Mode → ℕ → ℕ → ℕ
steps_again kept StepBack n to = steps_to kept to
steps_again kept Reverse n to = (n - 1) + steps_to kept to
steps_again kept _ n to = 0

-- ---- a run between two slices

-- the run of this debuggee that begins
abbrev pub turned : Debugged → Mode → Retreating
turned d mode =
    record {
      unit = d.unit;
      breakpoints = d.breakpoints;
      counted_from = d.counted_from;
      mode = mode;
      start = d.position;
      steps_rerun = 0;
      position = d.position;
      trail = d.trail;
    }

-- what fixes each report of the run
abbrev pub heading_back : ℕ → Retreating → Heading
heading_back run b =
    record {
      run = run;
      text = text_of b.unit;
      plan = b.breakpoints;
      counted_from = b.counted_from;
      mode = b.mode;
      start = b.start;
    }

-- the summary of its report where it ends so
abbrev pub summary_back : ℕ → Retreating → ℕ → SliceOutcome → Summary
summary_back run b end outcome =
    record {
      run = run;
      counted_from = b.counted_from;
      mode = b.mode;
      start = b.start;
      end = end;
      numbers_before = length
          (written (program_of b.unit) 0 b.start);
      steps_rerun = b.steps_rerun;
      outcome = outcome;
    }

-- the run's debuggee, wherever its plan counts from
pub record IsDebuggeeOf (b : Retreating) (d : Debugged) : Type 0 where
  pub unit : d.unit ≡ b.unit
  pub breakpoints : d.breakpoints ≡ b.breakpoints
  pub position : d.position ≡ b.position
  pub before : d.position ≤ b.start
  pub trail : d.trail ≡ b.trail

-- the room is empty, and made of this run's debuggee
pub record IsRoomFor (room : Room) (b : Retreating) : Type 0 where
  pub unit : room.unit ≡ b.unit
  pub breakpoints : room.breakpoints ≡ b.breakpoints
  pub numbers : room.numbers ≡ []
  pub logs : room.logs ≡ []

-- the run after it ran more steps again, this many in all
abbrev pub having_run : Retreating → ℕ → ℕ → Retreating
having_run b steps position = record b { steps_rerun = steps; position = position }

-- At most a slice's steps were run again, and all of them where the run doesn't stop. Where it stops, for this reason,
-- the trail says how many were in all.
abbrev pub RanBack : Retreating → Option Reason → Retreating → Type 0
RanBack old None new = new ≡ having_run old (old.steps_rerun + slice_limit) new.position
RanBack old (Some reason) new =
    (new ≡ having_run old new.steps_rerun new.position)
    × (old.steps_rerun ≤ new.steps_rerun)
    × (new.steps_rerun ≡ steps_again old.trail.kept old.mode old.start new.position)
    × (new.steps_rerun ≤ old.steps_rerun + slice_limit)
    × (goal_of (program_of old.unit) old.breakpoints old.mode old.start ≡ Some
    (record { position = new.position; reason = reason }))

-- The run after a slice, if it goes on. Then the slice ran all its steps again, wherever they led. Such a run isn't
-- held, comes to no end of the program, and meets no fault.
abbrev pub GoesOnBack : Retreating → SliceOutcome → Option Retreating → Type 0
GoesOnBack b out.More (Some on) = on ≡ having_run b (b.steps_rerun + slice_limit) on.position
GoesOnBack b (out.Due reason) on = on ≡ None
GoesOnBack b out.NoMemory on = on ≡ None
GoesOnBack b _ on = ⊥
