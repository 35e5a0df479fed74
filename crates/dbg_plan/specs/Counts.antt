-- How a debuggee's fields stand for what contracts see of it.
use Rattle.std.specs.Prelude.{◌≡◌, ℕ, ◌+◌, ◌≤◌, Bool, true, false, length, Option, option_map}
use Rattle.std.specs.Arc.{arc_value}
use Rattle.pl0_machine.specs.Machine.{Standing, program}
use Rattle.dbg_plan.specs.declared.debuggee.Debuggee.TheInside.{Inside}
use Rattle.dbg_plan.specs.Plans.{breakpoint_limit, Listed, IsNumbered, breakpoints_of, listed_of}
use Rattle.dbg_plan.specs.Counting.{AreCounts, MayBePlanOf}
use Rattle.dbg_plan.specs.Debugged.{Debugged, IsRunning}
use Rattle.dbg_plan.specs.Kept.{AreOf, trail_of}

abbrev pub plan_of : Inside → Option Listed
plan_of d = option_map arc_value d.plan

-- the next position to be considered, where it is known whether this one was
abbrev pub next_at : ℕ → Bool → ℕ
next_at position true = position + 1
next_at position false = position

abbrev pub next_of : Inside → ℕ
next_of d = next_at d.machine.position d.considered

abbrev pub debugged_of : Inside → Debugged
debugged_of d =
    record {
      unit = d.machine.unit;
      position = d.machine.position;
      breakpoints = breakpoints_of (plan_of d);
      counted_from = d.counted_from;
      next = next_of d;
      trail = trail_of d.trail;
    }

-- where a position was considered, the program runs
abbrev pub StandsBy : Standing → Bool → Type 0
StandsBy m true = IsRunning m
StandsBy m false = Unit {0}

pub record IsCounting (d : Inside) : Type 0 where
  pub numbered : IsNumbered (listed_of (plan_of d))
  pub fits : MayBePlanOf d.machine.unit (plan_of d)
  pub room : length d.counts ≡ breakpoint_limit
  pub counts : AreCounts (program d.machine) (listed_of (plan_of d)) d.counted_from (next_of d) d.counts
  pub begun : d.counted_from ≤ next_of d
  pub stands : StandsBy d.machine d.considered
  -- it can go back to its checkpoints
  pub trail : AreOf d.machine.unit d.trail.checkpoints
