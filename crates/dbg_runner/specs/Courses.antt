-- How far a run that goes back has come, by the fields that it keeps.
use Rattle.std.specs.Prelude.{◌≡◌, ℕ, ◌+◌, ◌-◌, ◌*◌, ◌<◌, ◌≤◌, true, nat_eq, if◌then◌else◌, Option, Some, None, length}
use Rattle.pl0_meaning.specs.Runs.{written, last_position}
use Rattle.dbg_plan.specs.declared.mode.Mode.{Mode}
use Rattle.dbg_plan.specs.declared.mode.Mode.TheVariants.{Reverse}
use Rattle.dbg_plan.specs.declared.mode.Reason.{Reason}
use Rattle.dbg_plan.specs.Debugged.{Debugged, debugged_program, IsConsidered}
use Rattle.dbg_plan.specs.Retreat.{Stop, reversed, goal_of}
use Rattle.dbg_runner.specs.declared.retreat.Way.{Way}
use Rattle.dbg_runner.specs.declared.retreat.Way.TheVariants.{Searches, Returns}
use Rattle.dbg_runner.specs.declared.retreat.Retreat.TheInside.{Inside}
use Rattle.dbg_runner.specs.Rooms.{slice_limit}
use Rattle.dbg_runner.specs.Plain.{goes_back}
use Rattle.dbg_runner.specs.Lawful.{RunsAt}
use Rattle.dbg_runner.specs.Hops.{moved, last_due_up_to}
use Rattle.dbg_runner.specs.Retreating.{Retreating, steps_again}

-- What the run of d does that goes back from position n, and has run `again` steps again.
abbrev pub IsOn : ℕ → Debugged → ℕ → Way → Type 0
-- all positions up to d's were considered, with counts from 0
IsOn n d again (Searches found) =
    (d.counted_from ≡ 0) × (d.position < n) × (again ≡ d.position)
    × (found ≡ last_due_up_to d d.position)
-- this is where it stops
IsOn n d again (Returns to reason) = (d.position ≤ to) × (to ≤ n) × (again + to ≤ 2 * n + d.position)

-- where that leads
abbrev pub leads_to : ℕ → Debugged → Way → Stop
leads_to n d (Searches found) = reversed (debugged_program d) d.breakpoints n
leads_to n d (Returns to reason) = record { position = to; reason = reason }

-- how many steps it will have run again there
abbrev pub in_all : ℕ → Debugged → ℕ → Way → ℕ
in_all n d again (Searches found) =
    steps_again d.trail.kept Reverse n (reversed (debugged_program d) d.breakpoints n).position
in_all n d again (Returns to reason) = again + (to - d.position)

-- these are as many as the trail says of a run in this mode
abbrev pub IsCounted : Mode → ℕ → Debugged → ℕ → Way → Type 0
IsCounted mode n d again way = in_all n d again way ≡ steps_again d.trail.kept mode n (leads_to n d way).position

-- why the run stops at a position, if it does
abbrev pub arrival : Way → ℕ → Option Reason
arrival (Searches found) position = None
arrival (Returns to reason) position = if nat_eq to position then Some reason else None

-- At most a slice's steps were run again, and all of them if the run hasn't come to where it stops.
pub record RanAgain (n again : ℕ) (old : Debugged) (way : Way) (more : ℕ) (new : Debugged) (now : Way) : Type 0 where
  pub on : IsOn n new more now
  pub leads : leads_to n new now ≡ leads_to n old way
  pub as_many : in_all n new more now ≡ in_all n old again way
  pub kept : new ≡ moved old new.position new.counted_from
  pub considered : IsConsidered new
  pub further : again ≤ more
  pub within : more ≤ again + slice_limit
  pub all : arrival now new.position ≡ None → more ≡ again + slice_limit

-- What the run does leads where going back in this mode leads, by as many steps as the trail says. Before the first
-- slice it stands where it begins.
abbrev pub IsAt : Mode → ℕ → Debugged → ℕ → Option Way → Type 0
IsAt mode n d again None = (d.position ≡ n) × (again ≡ 0)
IsAt mode n d again (Some way) =
    IsOn n d again way × (goal_of (debugged_program d) d.breakpoints mode n ≡ Some (leads_to n d way))
    × IsCounted mode n d again way

abbrev pub retreating_of : Inside → Retreating
retreating_of r =
    record {
      unit = r.debuggee.value.unit;
      breakpoints = r.debuggee.value.breakpoints;
      counted_from = r.counted_from;
      mode = r.mode;
      start = r.start;
      steps_rerun = r.steps_rerun;
      position = r.debuggee.value.position;
      trail = r.debuggee.value.trail;
    }

pub record IsRetreat (r : Inside) : Type 0 where
  pub goes_back : goes_back r.mode ≡ true
  pub begun : RunsAt (debugged_program r.debuggee.value) r.start
  pub bounded : r.start ≤ last_position
  pub before : r.numbers_before ≡ length (written (debugged_program r.debuggee.value) 0 r.start)
  pub considered : IsConsidered r.debuggee.value
  pub at : IsAt r.mode r.start r.debuggee.value r.steps_rerun r.way
