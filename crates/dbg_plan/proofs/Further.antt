-- A debuggee that was considered, one position further.
use Rattle.std.proofs.Common.{◌≡◌, ℕ, ◌+◌, ◌≤◌, Bool, true, false, if◌then◌else◌, List, length, Option, Some, refl, arith}
use Rattle.pl0_machine.specs.Machine.{Standing, program}
use Rattle.dbg_plan.specs.Plans.{listed_of}
use Rattle.dbg_plan.specs.declared.debuggee.Debuggee.TheInside.{Inside}
use Rattle.dbg_plan.specs.declared.mode.Mode.{Mode}
use Rattle.dbg_plan.specs.declared.mode.Reason.{Reason}
use Rattle.dbg_plan.specs.declared.mode.Reason.TheVariants as reason
use Rattle.dbg_plan.specs.Due.{reason_of, depth_at}
use Rattle.dbg_plan.specs.Debugged.{IsRunning, IsConsidered, due_now, logs_now}
use Rattle.dbg_plan.specs.Logs.{Log}
use Rattle.dbg_plan.specs.Advances.{considered_at}
use Rattle.dbg_plan.specs.Counting.{AreCounts, CountsOn}
use Rattle.dbg_plan.specs.Counts.{IsCounting, debugged_of, plan_of, next_at, next_of}
use Rattle.std.proofs.lemmas.Grind.{common_steps}

-- the next position to be considered says whether this one was
pub was_considered : (position : ℕ) (considered : Bool) → next_at position considered ≡ position + 1 → considered ≡ true
was_considered position true h = refl
was_considered position false h = absurd (omega (arith, h))

-- the machine took a step, and the position that it led to is counted
module _ (d : Inside) (was : IsCounting d) (behind : next_of d ≡ d.machine.position + 1) (machine : Standing)
    (on : machine ≡ record d.machine { position = d.machine.position + 1 }) (running : IsRunning machine)
    (counts : List ℕ) (hit : Bool) (logs : List Log)
    (counting : (first : ℕ) → first ≤ machine.position → AreCounts (program machine) (listed_of (plan_of d)) first
    machine.position d.counts → CountsOn (program machine) (listed_of (plan_of d)) machine.position first hit logs
    counts) where
  abbrev pub now : Inside
  now = record d { machine = machine; counts = counts }

  considered : d.considered ≡ true
  considered = was_considered d.machine.position d.considered behind

  pub stays_counting : length counts ≡ 256 → IsCounting now
  stays_counting room = grind (arith, common_steps, next_of, considered)

  pub led : (mode : Mode) (due : Option Reason) → due ≡ (if hit then Some reason.Breakpoint else reason_of mode
      (depth_at (program machine) machine.position))
      → (debugged_of now ≡ considered_at (debugged_of d) ((debugged_of d).position + 1))
      × IsConsidered (debugged_of now) × (due ≡ due_now (debugged_of now) mode) × (logs ≡ logs_now (debugged_of now))
  led mode due told = grind (arith, common_steps, considered)
