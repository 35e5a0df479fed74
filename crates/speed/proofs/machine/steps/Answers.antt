use Rattle.std.proofs.Common.{◌≡◌, ◌+◌, ◌<◌, ◌∷◌, ◌∙◌, [], length, Option, Some, ℤ, ap, sym, subst, refl, arith}
use Rattle.pl0_meaning.proofs.Linking.{at_next}
use Rattle.pl0_meaning.specs.Runs.{Outcome, Goes, Faults, Stuck, at, led_to}
use Rattle.pl0_machine.specs.declared.outcome.StepOutcome.TheVariants.{Went, Done, Fault}
use Rattle.pl0_machine.specs.Machine.{Standing, Stepped, outcome_of, program, depth_of, frames_of}
use Rattle.speed.proofs.machine.steps.Goals as goal

-- after a step that goes on the program runs
runs_on : (last new : Standing) (number : Option ℤ) → Stepped (outcome_of last) last (Went number) new
    → 0 < depth_of new
runs_on last new number stepped = by_outcome (outcome_of last) refl stepped
  where
    by_outcome : (o : Outcome) → outcome_of last ≡ o → Stepped o last (Went number) new → 0 < depth_of new
    by_outcome (Goes number' []) is s = let other : Went number ≡ Done = s.0 in cc
    by_outcome (Goes number' (f ∷ below)) is s =
        let there : at (program last) (last.position + 1) ≡ Some (f ∷ below) =
        at_next (program last) last.position ∙ ap led_to is in
        let some : 0 < length (f ∷ below) = omega arith in
        subst (λ (m : Standing). 0 < depth_of m) (sym s.1) (subst (λ o. 0 < length (frames_of o)) (sym there) some)
    by_outcome (Faults fault) is s = let other : Went number ≡ Fault fault = s.0 in cc
    by_outcome Stuck is s = absurd s

pub steps-preserved : goal.steps-preserved
steps-preserved c =
    let ran = c.in-Some-Went.ensures.ran in
    let new = c.run.new.self in
    runs_on ran.0 new c.in-Some-Went.field-0-0
    (subst (λ o. Stepped (outcome_of ran.0) ran.0 o new) c.in-Some-Went.field-0-is ran.3)
