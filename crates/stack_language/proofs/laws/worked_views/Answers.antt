use Rattle.std.specs.Fmt.{digits}
use Rattle.std.proofs.Common.{◌≡◌, ◌≤◌, ◌<◌, ℕ, Option, Some, None, ◌∙◌, ap, arith, false, length, refl}
use Rattle.stack_language.proofs.Lines.{none_at_all}
use Rattle.stack_language.specs.Shown.{has_instruction}
use Rattle.stack_language.proofs.laws.worked_views.Goals as goal

pub returns-clause-names : goal.returns-clause-names
returns-clause-names c = refl

pub returns-clause-values : goal.returns-clause-values
unfolding digits
returns-clause-values c = refl

pub returns-clause-expressions : goal.returns-clause-expressions
unfolding digits
returns-clause-expressions c m variables = rw variables (refl, refl)

pub returns-clause-variables : goal.returns-clause-variables
unfolding digits
returns-clause-variables c = refl

pub returns-clause-scopes : goal.returns-clause-scopes
returns-clause-scopes c m names all named are = (named, ap length are)

pub returns-clause-stacks : goal.returns-clause-stacks
unfolding digits
returns-clause-stacks c m all numbers =
    (rw numbers refl, λ shown. shown.1 ∙ rw numbers refl, λ shown. absurd (one_is_zero shown.0))
  where
    one_is_zero : ◌≡◌ {A = ℕ} 1 0 → ⊥
    one_is_zero is = absurd cc

pub returns-clause-mistakes : goal.returns-clause-mistakes
returns-clause-mistakes c m = ((refl, refl), λ mistake is. absurd (some_is_none is.0))
  where
    some_is_none : ◌≡◌ {A = Option ℕ} (Some 1) None → ⊥
    some_is_none is = absurd cc

pub returns-clause-lines : goal.returns-clause-lines
returns-clause-lines c m program = rw program refl

pub returns-clause-seen : goal.returns-clause-seen
returns-clause-seen c m program =
    (λ at. rw (program, at) refl, λ at. rw (program, at) refl, λ at. rw (program, at) refl)

pub returns-clause-places : goal.returns-clause-places
returns-clause-places c m program = (
  ((omega arith, rw program refl, λ line after before. absurd (omega (arith, after, before))), refl),
  ((omega arith, rw program refl, at_empty), refl),
  none_at_all m 6 6 (λ line after before. absurd (omega (arith, after, before))) (omega (arith, long)),
)
  where
    at_empty : (line : ℕ) → 3 ≤ line → line < 4 → has_instruction m line ≡ false
    at_empty line after before =
        let same : line ≡ 3 = omega (arith, after, before) in
        let empty : has_instruction m 3 ≡ false = rw program refl in ap (has_instruction m) same ∙ empty

    long : length m.program.items ≡ 6
    long = rw program refl

pub returns-clause-frames : goal.returns-clause-frames
unfolding digits
returns-clause-frames c m program line returns = rw (program, line, returns) (refl, refl, refl, refl)
