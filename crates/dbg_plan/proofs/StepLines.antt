-- The steps of a unit, by their lines.
use Rattle.std.proofs.Common.{◌≡◌, ℕ, zero, suc, ◌<◌, ◌≤◌, Bool, true, false, inl, inr, List, [], ◌∷◌, length, map, cond, get_or, slice_get, Some, None, nat_le, nat_lt, refl, ap, sym, ◌∙◌, arith}
use Rattle.std.specs.Bool.{then_some}
use Rattle.std.specs.List.{position_or_len}
use Rattle.std.specs.List.Sorted.{IsNonDecreasingBy, IsPartitionPoint}
use Rattle.std.specs.Coded.{le_prop}
use Rattle.std.proofs.Math.Logic.{∥∥₁_elim}
use Rattle.std.proofs.Math.Nat.{ℕ_set}
use Rattle.std.proofs.lemmas.Bool.{cases_eq}
use Rattle.std.proofs.lemmas.Bool.Decides.{nat_tests}
use Rattle.std.proofs.lemmas.List.Sums.{position_or_len_is}
use Rattle.std.proofs.lemmas.Option.{slice_get-map}
use Rattle.pl0_tree.specs.declared.tree.Place.{Place}
use Rattle.pl0_tree.specs.Tree.{Block}
use Rattle.pl0_tree.specs.declared.step.Step.{Step}
use Rattle.pl0_tree.specs.declared.step.StepKind.TheVariants.{Return}
use Rattle.pl0_tree.specs.Scope.{IsBefore}
use Rattle.pl0_tree.specs.Ascending.{Ascend}
use Rattle.pl0_tree.specs.Steps.{StepAt, IsStep, AreSteps, steps}
use Rattle.pl0_unit.specs.declared.unit.Unit.{Unit as Compiled}
use Rattle.pl0_machine.specs.Machine.{program_of}
use Rattle.dbg_plan.specs.Resolutions.{step_from}

-- the table says of each step what the program has there
pub record Tells (main : Block) (ts : List StepAt) (i : ℕ) (s : Step) : Type 0 where
  pub told : StepAt
  pub there : slice_get ts i ≡ Some told
  pub is : IsStep main s told

pub tells : (main : Block) (ss : List Step) (ts : List StepAt) → AreSteps main ss ts → (i : ℕ) (d : Step)
    → i < length ss → Tells main ts i (get_or ss i d)
tells main [] ts are i d lt = absurd (omega arith)
tells main (s ∷ ss) [] are i d lt = absurd are
tells main (s ∷ ss) (t ∷ ts) are zero d lt = record { told = t; there = refl; is = are.0 }
tells main (s ∷ ss) (t ∷ ts) are (suc i) d lt =
    let more = tells main ss ts are.1 i d (omega arith) in record { told = more.told; there = more.there; is = more.is }

pub same_length : (main : Block) (ss : List Step) (ts : List StepAt) → AreSteps main ss ts → length ss ≡ length ts
same_length main [] [] are = refl
same_length main [] (t ∷ ts) are = absurd are
same_length main (s ∷ ss) [] are = absurd are
same_length main (s ∷ ss) (t ∷ ts) are = ap suc (same_length main ss ts are.1)

not_later : (p q : Place) → IsBefore p q → p.line ≤ q.line
not_later p q (inl a) = omega arith
not_later p q (inr a) = omega (arith, a.0)

place_at : (main : Block) (ts : List StepAt) (i : ℕ) (s : Step) → Tells main ts i s
    → slice_get (map (λ (t : StepAt). t.place) ts) i ≡ Some s.place
place_at main ts i s t = cc (slice_get-map (λ (x : StepAt). x.place) ts i, t.there, t.is.place)

-- the lines rise along the table
lines_rise : (main : Block) (ss : List Step) (ts : List StepAt) → AreSteps main ss ts
    → Ascend (map (λ (t : StepAt). t.place) ts) → IsNonDecreasingBy (λ (s : Step). s.place.line) ss
lines_rise main ss ts are ascend i j d le lt = elim (cases_eq i j) [
  | inl e ↦ let same : (get_or ss i d).place.line ≡ (get_or ss j d).place.line =
      ap (λ k. (get_or ss k d).place.line) e in omega arith
  | inr other ↦ not_later _ _ (ascend i j _ _ (omega arith)
      (place_at main ts i (get_or ss i d) (tells main ss ts are i d (omega arith)))
      (place_at main ts j (get_or ss j d) (tells main ss ts are j d lt)))
]

-- the first step from a line on has the same number in the table and in the program
abbrev from_line : ℕ → Step → Bool
from_line line s = nat_le line s.place.line

abbrev from_line_at : ℕ → StepAt → Bool
from_line_at line t = nat_le line t.place.line

same_position : (main : Block) (line : ℕ) (ss : List Step) (ts : List StepAt) → AreSteps main ss ts
    → position_or_len (from_line line) ss ≡ position_or_len (from_line_at line) ts
same_position main line [] [] are = refl
same_position main line [] (t ∷ ts) are = absurd are
same_position main line (s ∷ ss) [] are = absurd are
same_position main line (s ∷ ss) (t ∷ ts) are = cc (are.0.place, same_position main line ss ts are.1)

-- ---- the table of a unit

pub unit_rises : (u : Compiled) → IsNonDecreasingBy (λ (s : Step). s.place.line) u.steps.items
unit_rises u i j d le lt =
    ∥∥₁_elim u.compiled le_prop (λ h. ∥∥₁_elim u.tree.in_order le_prop
    (λ ascend. lines_rise (program_of u) u.steps.items (steps (program_of u)) h.steps ascend i j d le lt))

pub unit_length : (u : Compiled) → length u.steps.items ≡ length (steps (program_of u))
unit_length u =
    ∥∥₁_elim u.compiled (ℕ_set _ _) (λ h. same_length (program_of u) u.steps.items (steps (program_of u)) h.steps)

unit_position : (u : Compiled) (line : ℕ) → position_or_len (from_line line) u.steps.items ≡ position_or_len
    (from_line_at line) (steps (program_of u))
unit_position u line =
    ∥∥₁_elim u.compiled (ℕ_set _ _) (λ h. same_position (program_of u) line u.steps.items (steps (program_of u))
    h.steps)

some_step : Step
some_step = record { kind = Return; place = record { line = 1; column = 1 }; block = 0 }

-- what a search in the table finds
found : (u : Compiled) (line i : ℕ) (d : Step) → i ≤ length u.steps.items
    → IsPartitionPoint (λ (s : Step). nat_lt s.place.line line ≡ true) (λ (s : Step). nat_lt s.place.line line ≡ false)
    u.steps.items i → position_or_len (from_line_at line) (steps (program_of u)) ≡ i
found u line i d le point =
    sym (unit_position u line)
    ∙ position_or_len_is (from_line line) u.steps.items i d le
    (λ k lt. let below = point.0 k d (omega arith) lt in grind (arith, nat_tests))
    (λ lt. let at = point.1 i d (omega arith) lt in grind (arith, nat_tests))

some_if : (b : Bool) (n : ℕ) → then_some b n ≡ cond b (Some n) None
some_if true n = refl
some_if false n = refl

-- the step of a line, by a search in the table
pub step_is : (u : Compiled) (line i : ℕ) → i ≤ length u.steps.items
    → IsPartitionPoint (λ (s : Step). nat_lt s.place.line line ≡ true) (λ (s : Step). nat_lt s.place.line line ≡ false)
    u.steps.items i →
    then_some (nat_lt i (length u.steps.items)) i ≡ step_from (program_of u) line
step_is u line i le point =
    cc (some_if (nat_lt i (length u.steps.items)) i, unit_length u, found u line i some_step le point)
