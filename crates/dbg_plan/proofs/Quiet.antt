-- Quiet steps of a machine.
use Rattle.std.proofs.Common.{◌≡◌, ℕ, ◌<◌, false, List, [], ◌∷◌, length, Option, Some, None, ℤ, refl, ap, arith}
use Rattle.pl0_meaning.specs.Values.{Configuration}
use Rattle.pl0_meaning.specs.Runs.{Outcome, Goes, Faults, Stuck, at, led_to}
use Rattle.pl0_meaning.proofs.Linking.{at_next}
use Rattle.pl0_machine.specs.declared.outcome.StepOutcome.{StepOutcome}
use Rattle.pl0_machine.specs.declared.outcome.StepOutcome.TheVariants.{Went}
use Rattle.pl0_machine.specs.Machine.{Standing, frames_of, depth_of, outcome_of, Stepped}
use Rattle.dbg_plan.specs.Breakpoints.{Breakpoint}
use Rattle.dbg_plan.specs.Running.{has_hit, IsQuiet}
use Rattle.std.proofs.lemmas.Grind.{common_steps}

-- a step that led to a position where no breakpoint is met
pub record IsQuietly (outer : ℕ) (breakpoints : List Breakpoint) (t : ℕ) (result : StepOutcome) (new : Standing)
    : Type 0 where
  pub written : Option ℤ
  pub went : result ≡ Went written
  pub running : outer < depth_of new
  pub unmet : has_hit breakpoints t new ≡ false

module _ (outer : ℕ) (breakpoints : List Breakpoint) (t : ℕ) (old new : Standing) (result : StepOutcome)
    (stepped : Stepped (outcome_of old) old result new) where
  -- where nothing is alive after it, a step isn't quiet
  ends_run : (o : Option Configuration) → led_to (outcome_of old) ≡ o → length (frames_of o) ≡ 0
      → IsQuiet outer breakpoints t old → ⊥
  ends_run o led none quiet = grind (arith, common_steps, at, at_next, length)

  pub is_told : IsQuiet outer breakpoints t old → IsQuietly outer breakpoints t result new
  is_told quiet = by_outcome (outcome_of old) refl stepped
    where
      by_outcome : (o : Outcome) → outcome_of old ≡ o → Stepped o old result new
          → IsQuietly outer breakpoints t result new
      by_outcome (Goes written []) e s = absurd (ends_run (Some []) (ap led_to e) refl quiet)
      by_outcome (Goes written (f ∷ below)) e s =
          record { written = written; went = s.0; running = rw s.1 quiet.running; unmet = rw s.1 quiet.unmet }
      by_outcome (Faults fault) e s = absurd (ends_run None (ap led_to e) refl quiet)
      by_outcome Stuck e s = absurd s
