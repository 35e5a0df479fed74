-- Many steps at once: quiet ones, and perhaps one more.
use Rattle.std.specs.Prelude.{◌≡◌, ℕ, ◌+◌, ◌<◌, ◌≤◌, ◌++◌, ℤ, Bool, false, List, [], Option, Some, None}
use Rattle.std.specs.List.{list_any}
use Rattle.pl0_meaning.specs.Runs.{written, written_by}
use Rattle.pl0_machine.specs.Machine.{Standing, program, outcome_of, depth_of}
use Rattle.pl0_machine.specs.Stretches.{ahead}
use Rattle.dbg_plan.specs.Breakpoints.{Breakpoint}
use Rattle.dbg_plan.specs.Due.{is_hit, reason_of}
use Rattle.dbg_plan.specs.declared.mode.Mode.{Mode}
use Rattle.dbg_plan.specs.declared.debuggee.Advance.{Advance}
use Rattle.dbg_plan.specs.Logs.{Log}
use Rattle.dbg_plan.specs.Debugged.{Debugged, machine_of, debugged_program}
use Rattle.dbg_plan.specs.Advances.{considered_at, Advanced}

-- ---- quiet steps

-- one of these breakpoints, counted from position t, is met at the machine's position
abbrev pub has_hit : List Breakpoint → ℕ → Standing → Bool
has_hit breakpoints t m = list_any (is_hit (program m) t m.position) breakpoints

-- the mode alone makes no position due where more than `outer` frames are alive
abbrev pub IsUndueAbove : Mode → ℕ → Type 0
IsUndueAbove mode outer = (depth : ℕ) → outer < depth → reason_of mode depth ≡ None

-- More than `outer` frames are alive where the step leads, and no breakpoint is met there, counted from position t.
pub record IsQuiet (outer : ℕ) (breakpoints : List Breakpoint) (t : ℕ) (m : Standing) : Type 0 where
  pub running : outer < depth_of (ahead m 1)
  pub unmet : has_hit breakpoints t (ahead m 1) ≡ false

-- Quiet steps were taken, up to the position `limit` at most. `Ends` says of their number how the run ended there.
pub record RanQuietly (limit outer : ℕ) (breakpoints : List Breakpoint) (t : ℕ) (old : Standing) (Ends : ℕ → Type 0)
    : Type 0 where
  pub steps : ℕ
  pub quiet : (k : ℕ) → k < steps → IsQuiet outer breakpoints t (ahead old k)
  pub running : outer < depth_of (ahead old steps)
  pub within : old.position + steps ≤ limit
  pub ends : Ends steps

-- ---- of a debuggee

-- numbers, and after them those that so many steps from where a debuggee stands write
abbrev pub with_written : Debugged → ℕ → List ℤ → List ℤ
with_written d steps before = before ++ written (debugged_program d) d.position (d.position + steps)

-- At the limit nothing is returned, the numbers are those that the quiet steps left, and nothing is logged. Before it
-- one more step was taken, which isn't quiet, and what it wrote comes after them.
abbrev pub Closes : ℕ → ℕ → Mode → Debugged → List ℤ → Option Advance → Debugged → List ℤ → List Log → Type 0
Closes limit outer mode d before None new after logged =
    (new ≡ d) × (after ≡ before) × (limit ≤ d.position) × (logged ≡ [])
Closes limit outer mode d before (Some advance) new after logged =
    (d.position < limit) × (¬ IsQuiet outer d.breakpoints d.counted_from (machine_of d))
    × Advanced mode d advance new logged × (after ≡ before ++ written_by (outcome_of (machine_of d)))

-- Quiet steps were taken, and before the limit one more, as `advance` takes it. What they wrote comes after the numbers
-- of before.
abbrev pub RanFrom : ℕ → ℕ → Mode → Debugged → List ℤ → Option Advance → Debugged → List ℤ → List Log → Type 0
RanFrom limit outer mode old before advance new after logged =
    RanQuietly limit outer old.breakpoints old.counted_from (machine_of old)
    (λ steps. Closes limit outer mode (considered_at old (old.position + steps)) (with_written old steps before) advance
    new after logged)
