-- Lines that have no instruction.
use Rattle.std.proofs.Common.{◌≡◌, ◌⊎◌, ◌≤◌, ◌<◌, ◌+◌, ℕ, false, length, inl, inr, ◌∙◌, ap, arith}
use Rattle.std.specs.Option.{option_map_or}
use Rattle.std.proofs.lemmas.Bool.{cases_lt}
use Rattle.std.proofs.lemmas.Option.{slice_get_past}
use Rattle.stack_language.specs.declared.machine.Machine.{Machine}
use Rattle.stack_language.specs.Shown.{does_something, has_instruction}

-- no line from one on and below another has an instruction
abbrev pub NoneBetween : Machine → ℕ → ℕ → Type 0
NoneBetween m from to = (line : ℕ) → from ≤ line → line < to → has_instruction m line ≡ false

-- nor has the next line one
pub none_more : (m : Machine) (from to : ℕ) → NoneBetween m from to → has_instruction m to ≡ false
    → NoneBetween m from (to + 1)
none_more m from to none at line after before = by_order (cases_lt line to)
  where
    by_order : (line < to) ⊎ (to ≤ line) → has_instruction m line ≡ false
    by_order (inl below) = none line after below
    by_order (inr above) =
        let same : line ≡ to = omega (arith, above, before) in ap (has_instruction m) same ∙ at

-- no line has one after the program's end
pub none_at_all : (m : Machine) (from to : ℕ) → NoneBetween m from to → length m.program.items ≤ to → (line : ℕ)
    → from ≤ line → has_instruction m line ≡ false
none_at_all m from to none ends line after = by_order (cases_lt line to)
  where
    by_order : (line < to) ⊎ (to ≤ line) → has_instruction m line ≡ false
    by_order (inl below) = none line after below
    by_order (inr above) =
        ap (λ i. option_map_or does_something i false)
        (slice_get_past m.program.items line (omega (arith, above, ends)))
