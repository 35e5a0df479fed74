-- Which length the judged lines give, with one line more.
use Rattle.dap_frame.proofs.Common.{[], append-nil, Bool, codes, false, Field, is_length, length_values, List, Names, not, Option, refl, subst, true, ℕ, ◌++◌, ◌∷◌, ◌≡◌}
use Rattle.std.specs.Str.{bytes_eq}
use Rattle.dap_frame.proofs.Faults.{length_values-append}
use Rattle.std.proofs.Common.{arith}
use Rattle.std.proofs.lemmas.Grind.{common_steps}

false_from_not : (b : Bool) → true ≡ not b → b ≡ false
false_from_not true h = absurd cc
false_from_not false h = refl

pub other_name : (f : Field) (name : List ℕ) → name ≡ codes "Content-Length" → true ≡ not (bytes_eq f.name name)
    → is_length f ≡ false
other_name f name e h = false_from_not (is_length f) (subst (λ n. true ≡ not (bytes_eq f.name n)) e h)

pub length_values-none : (f : Field) → is_length f ≡ false → length_values (f ∷ []) ≡ []
length_values-none f e = rw e refl

-- a field of another name names nothing
pub names_as_before : (fields : List Field) (f : Field) (named : Option ℕ) → is_length f ≡ false → Names fields named
    → Names (fields ++ f ∷ []) named
names_as_before fields f named e h = grind (arith, common_steps, length_values-append, length_values-none, append-nil)
