-- How a debuggee runs over quiet steps.
use Rattle.std.specs.Prelude.{◌≡◌, ℕ, ◌+◌, ◌<◌, ◌≤◌, Bool, true, false, List, [], ℤ, Option, Some, None}
use Rattle.pl0_machine.specs.declared.outcome.StepOutcome.{StepOutcome}
use Rattle.pl0_machine.specs.declared.outcome.StepOutcome.TheVariants.{Went, Done, Fault}
use Rattle.pl0_machine.specs.declared.mark.Marks.{Marks}
use Rattle.pl0_machine.specs.Machine.{outcome_of, Stepped}
use Rattle.dbg_plan.specs.Plans.{Listed, listed_of}
use Rattle.dbg_plan.specs.Table.{AreMarksOf}
use Rattle.dbg_plan.specs.Debugged.{Debugged, machine_of}
use Rattle.dbg_plan.specs.Advances.{considered_at}
use Rattle.dbg_plan.specs.Running.{IsQuiet, RanQuietly, with_written}

-- the marks of a plan; none, where there is no plan
abbrev pub AreMarksIn : Option Listed → Option Marks → Type 0
AreMarksIn plan None = listed_of plan ≡ []
AreMarksIn plan (Some marks) = (asked : Listed) × (plan ≡ Some asked) × AreMarksOf asked marks

-- whether the position is considered where a run stands
abbrev pub considered_after : Option StepOutcome → Bool
considered_after None = true
considered_after (Some (Went written)) = false
considered_after (Some Done) = false
considered_after (Some (Fault fault)) = true

-- Nothing more at the limit, or the first step that isn't quiet. The position that the last step led to is still to be
-- considered, and what that step wrote isn't among the numbers.
abbrev pub EndsAt : ℕ → ℕ → Debugged → List ℤ → Option StepOutcome → Debugged → List ℤ → Type 0
EndsAt limit outer d before None new after = (new ≡ d) × (limit ≤ d.position) × (after ≡ before)
EndsAt limit outer d before (Some outcome) new after =
    (d.position < limit) × (¬ IsQuiet outer d.breakpoints d.counted_from (machine_of d))
    × Stepped (outcome_of (machine_of d)) (machine_of d) outcome (machine_of new)
    × (new ≡ record d { position = new.position }) × (after ≡ before)

abbrev pub RanTo : ℕ → ℕ → Debugged → List ℤ → Option StepOutcome → Debugged → List ℤ → Type 0
RanTo limit outer old before outcome new after =
    RanQuietly limit outer old.breakpoints old.counted_from (machine_of old)
    (λ steps. EndsAt limit outer (considered_at old (old.position + steps)) (with_written old steps before) outcome new
    after)
