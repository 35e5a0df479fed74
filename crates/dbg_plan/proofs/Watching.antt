-- The addresses at which steps with breakpoints begin.
use Rattle.std.proofs.Common.{◌≡◌, ℕ, ◌+◌, ◌<◌, ◌≤◌, Bool, true, false, inl, inr, List, [], ◌∷◌, length, map, take, drop, slice_index, slice_get, get_or, nat_lt, Option, Some, None, refl, ap, sym, ◌∙◌, arith, All}
use Rattle.std.specs.List.{list_any}
use Rattle.std.specs.List.Sorted.{IsPermutation}
use Rattle.std.proofs.lemmas.Bool.{cases_lt}
use Rattle.std.proofs.lemmas.Bool.Decides.{nat_tests}
use Rattle.std.proofs.lemmas.List.{get_or_past, length-drop, length-take-le}
use Rattle.std.proofs.lemmas.List.Elements.{All-cons}
use Rattle.std.proofs.lemmas.List.Folds.{list_any_none}
use Rattle.std.proofs.lemmas.List.Sorted.{list_any-IsPermutation}
use Rattle.std.proofs.lemmas.Option.{slice_get-map}
use Rattle.pl0_tree.specs.Tree.{Block}
use Rattle.pl0_tree.specs.Steps.{steps}
use Rattle.dbg_plan.specs.declared.breakpoint.Breakpoint.{Breakpoint}
use Rattle.dbg_plan.specs.Plans.{AreAtSteps, has_breakpoint, marked_addresses, is_of, those_of}
use Rattle.dbg_plan.specs.Table.{IsPart, has_part}
use Rattle.std.proofs.lemmas.Grind.{common_steps}

-- ---- a step has a breakpoint where its part of the table is not empty

any_those : (s : ℕ) (bs : List Breakpoint) → list_any (is_of s) bs ≡ nat_lt 0 (length (those_of s bs))
any_those s [] = refl
any_those s (b ∷ bs) = grind (arith, common_steps, is_of, any_those s bs, true, length, list_any, false)

empty : (bs : List Breakpoint) → nat_lt 0 (length bs) ≡ false → bs ≡ []
empty [] e = refl
empty (b ∷ bs) e = let some : 0 < length (b ∷ bs) = omega arith in grind (arith, nat_tests)

pub none_of : (s : ℕ) (bs : List Breakpoint) → list_any (is_of s) bs ≡ false → those_of s bs ≡ []
none_of s bs e = empty (those_of s bs) (sym (any_those s bs) ∙ e)

not_of : (s : ℕ) (b : Breakpoint) → b.step < s → is_of s b ≡ false
not_of s b lt = grind (arith, nat_tests)

none_there : (n s : ℕ) (bs : List Breakpoint) → n ≤ s → All (λ b. b.step < n) bs → list_any (is_of s) bs ≡ false
none_there n s bs le below = grind (arith, common_steps, list_any_none, is_of, not_of, get_or)

none_below : (k : ℕ) → nat_lt k 0 ≡ false
none_below k = grind (arith, nat_tests)

part_has : (ordered : List Breakpoint) (starts : List ℕ) (s : ℕ) (part : List Breakpoint) → IsPart ordered starts s part
    → nat_lt (slice_index starts s) (slice_index starts (s + 1)) ≡ nat_lt 0 (length part)
part_has ordered starts s part is = grind (arith, common_steps, length, take, drop, length-take-le, length-drop)

-- ordered are the breakpoints bs, all of the first n steps
module _ (ordered bs : List Breakpoint) (starts : List ℕ) (n : ℕ) (long : length starts ≡ n + 1)
    (moved : IsPermutation bs ordered) (below : All (λ b. b.step < n) bs)
    (parts : (s : ℕ) → s < n → IsPart ordered starts s (those_of s ordered)) where
  starts_tell : (step : Option ℕ) → has_part starts step ≡ has_breakpoint bs step
  starts_tell None = refl
  starts_tell (Some s) = elim (cases_lt s n) [
    | inl lt ↦ part_has ordered starts s (those_of s ordered) (parts s lt) ∙ sym (any_those s ordered)
        ∙ sym (list_any-IsPermutation (is_of s) bs ordered moved)
    | inr le ↦ ap (λ k. nat_lt (slice_index starts s) k) (get_or_past starts (s + 1) 0 (omega arith))
        ∙ none_below (slice_index starts s) ∙ sym (none_there n s bs le below)
  ]

  steps_tell : (begun_steps : List (Option ℕ)) → map (has_part starts) begun_steps ≡ map (has_breakpoint bs) begun_steps
  steps_tell [] = refl
  steps_tell (step ∷ begun_steps) = cc (starts_tell step, steps_tell begun_steps)

  pub marked_is : (begun_steps : List (Option ℕ)) → map (has_part starts) begun_steps ≡ marked_addresses bs begun_steps
  unfolding marked_addresses
  marked_is begun_steps = steps_tell begun_steps

-- each breakpoint of a program stands at one of its steps
pub are_within : (main : Block) (n : ℕ) (bs : List Breakpoint) → n ≡ length (steps main) → AreAtSteps main bs
    → All (λ b. b.step < n) bs
are_within main n [] e at = λ k d lt. absurd (omega arith)
are_within main n (b ∷ bs) e at = grind (arith, common_steps, All-cons, are_within main n bs e at.3)

-- ---- what is known where the machine stands

-- the table has an entry at an address that begins a step
pub there : (bs : List Breakpoint) (begun_steps : List (Option ℕ)) (marked : List Bool) (a s : ℕ)
    → marked ≡ marked_addresses bs begun_steps → slice_get begun_steps a ≡ Some (Some s)
    → slice_get marked a ≡ Some (list_any (is_of s) bs)
unfolding marked_addresses
there bs begun_steps marked a s is at = cc (slice_get-map (has_breakpoint bs) begun_steps a)
