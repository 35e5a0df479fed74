use Rattle.std.proofs.Common.{◌≡◌, ◌∙◌, sym, ap, ℕ, Bool, true, false, Option, Some, None}
use Rattle.std.specs.Prelude.{if◌then◌else◌}
use Rattle.stack_language.specs.Shown.{has_instruction, shown_line}
use Rattle.stack_language.proofs.laws.language_laws.Goals as goal

pub returns-clause-one : goal.returns-clause-one
returns-clause-one c m n o s t a b = (a.0 ∙ sym b.0, a.1 ∙ sym b.1, a.2 ∙ sym b.2)

-- where a place is seen, it is the line that comes next
place_is : (here : Bool) (line place : ℕ) → ◌≡◌ {A = Option ℕ} (if here then Some line else None) (Some place)
    → line ≡ place
place_is true line place e = cc
place_is false line place e = absurd cc

pub returns-clause-shown : goal.returns-clause-shown
returns-clause-shown c set stopped line place frame first seen shown =
    ap (λ f. f.line) shown
    ∙ (ap shown_line (place_is (has_instruction stopped stopped.state.line) stopped.state.line place.place seen)
    ∙ sym first.1)
