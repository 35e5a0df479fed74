-- Texts that are there.
use Rattle.std.proofs.Common.{◌≡◌, ◌≢◌, ◌==◌, ℕ, Bool, true, false, List, [], length, ap, sym, ◌∙◌}

-- by what `is_empty` answers
pub not_empty : (text : List ℕ) (r : Bool) → r ≡ (length text == 0) → r ≡ false → text ≢ []
not_empty text r is some empty = let e : true ≡ false = ap (λ t. length t == 0) (sym empty) ∙ sym is ∙ some in cc
