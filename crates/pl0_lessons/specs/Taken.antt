-- What an instruction made of the operands of a step.
use Rattle.std.specs.Prelude.{◌≡◌, Bool, true, false, List, Option, Some, None, ℤ}

-- they are these afterwards, or nothing was done
abbrev pub IsTaken : Option (List ℤ) → List ℤ → List ℤ → Bool → Type 0
IsTaken (Some next) old new done = (done ≡ true) × (new ≡ next)
IsTaken None old new done = (done ≡ false) × (new ≡ old)
