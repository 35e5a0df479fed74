-- A source is at a path just where its path is that one.
use Rattle.dap_history.proofs.Common.{Option, Some, ap, is_same_path, refl, ℕ, ◌∙◌, ◌≡◌}
use Rattle.std.proofs.Common.{List, true, arith}
use Rattle.std.proofs.lemmas.Slice.Eq.{bytes_eq-Decides}
use Rattle.std.proofs.lemmas.Grind.{common_steps}

pub at_path : (path : Option (List ℕ)) (other : List ℕ) → is_same_path path other ≡ true → path ≡ Some other
at_path path other is = grind (arith, common_steps, bytes_eq-Decides) steps 200000

pub at_path_so : (path : Option (List ℕ)) (other : List ℕ) → path ≡ Some other → is_same_path path other ≡ true
at_path_so path other is = ap (λ o. is_same_path o other) is ∙ (bytes_eq-Decides other other).1 refl
