-- Which step the program stands at, by its place.
use Rattle.std.proofs.Common.{◌≡◌, ◌≢◌, ℕ, ◌<◌, ◌≤◌, true, false, nat_eq, List, [], ◌∷◌, length, get_or, map, Option, Some, None, ap, ◌∙◌, refl, arith, inl, inr, ◌⊎◌}
use Rattle.std.specs.Prelude.{slice_get, option_map, ◌&&◌}
use Rattle.std.proofs.Math.Logic.{∥∥₁_elim}
use Rattle.std.specs.Coded.{Coded-set, coded_bool}
use Rattle.std.proofs.lemmas.Bool.Decides.{nat_tests, eqb_tells, leb_tells}
use Rattle.std.proofs.lemmas.Option.{slice_get-map, slice_get_cases}
use Rattle.pl0_tree.specs.declared.tree.Place.{Place}
use Rattle.pl0_tree.specs.Tree.{Block}
use Rattle.pl0_tree.specs.Scope.{IsBefore}
use Rattle.pl0_tree.specs.Steps.{StepAt, steps}
use Rattle.pl0_tree.specs.Ascending.{Ascend}
use Rattle.pl0_meaning.specs.Values.{Frame, Configuration, StandsBefore}
use Rattle.pl0_machine.specs.Machine.{frames_of, top_of, IsNext}
use Rattle.dbg_plan.specs.declared.breakpoint.Breakpoint.{Breakpoint}
use Rattle.dbg_plan.specs.Breakpoints.{plain_breakpoint}
use Rattle.dbg_plan.specs.Due.{same_place, same_step, is_at, arrives_in}
use Rattle.dbg_plan.specs.Plans.{is_of}
use Rattle.dbg_plan.specs.Counting.{holds_in}
use Rattle.std.proofs.lemmas.Grind.{common_steps}

place_same : (p : Place) → same_place p p ≡ true
place_same p = grind (arith, nat_tests)

place_before : (p q : Place) → IsBefore p q → same_place p q ≡ false
place_before p q (inl lt) = grind (arith, nat_tests)
place_before p q (inr both) = let lt = both.1 in grind (arith, nat_tests)

place_behind : (p q : Place) → IsBefore q p → same_place p q ≡ false
place_behind p q (inl lt) = grind (arith, nat_tests)
place_behind p q (inr both) = let lt = both.1 in grind (arith, nat_tests)

module _ (all : List StepAt) (ascend : Ascend (map (λ step. step.place) all)) where
  placed : (n : ℕ) (s : StepAt) → slice_get all n ≡ Some s → slice_get (map (λ step. step.place) all) n ≡ Some s.place
  placed n s e = slice_get-map (λ step. step.place) all n ∙ ap (λ o. option_map (λ step. step.place) o) e

  module _ (p : ℕ) (t : StepAt) (here : slice_get all p ≡ Some t) where
    other_step : (n : ℕ) → p ≢ n → (o : Option StepAt) → slice_get all n ≡ o → same_step o (Some t) ≡ false
    other_step n ne None e = refl
    other_step n ne (Some s) e =
        grind (arith, common_steps, leb_tells, true, false, same_place, place_before, placed, place_behind)

    -- of steps in the order of their places only one stands at a place
    pub same_as : (n : ℕ) → same_step (slice_get all n) (Some t) ≡ nat_eq p n
    same_as n = grind (arith, common_steps, eqb_tells, true, false, same_step, slice_get, place_same, other_step)

-- where the program stands at step p, those of its breakpoints arrive whose condition holds
module _ (main : Block) (ordered : ∥ Ascend (map (λ step. step.place) (steps main)) ∥₁) where
  pub stands_at : (f : Frame) (below : Configuration) (p : ℕ) → StandsBefore main f p → (n : ℕ)
      → nat_eq p n ≡ is_at main n (f ∷ below)
  stands_at f below p before n =
      ∥∥₁_elim ordered (Coded-set coded_bool (nat_eq p n) (is_at main n (f ∷ below)))
      (λ ascend. by_next ascend (slice_get_cases (steps main) p).1)
    where
      by_next : Ascend (map (λ step. step.place) (steps main))
          → ((t : StepAt) × (p < length (steps main)) × (slice_get (steps main) p ≡ Some t)
          × (get_or (steps main) p t ≡ t)) ⊎ ((length (steps main) ≤ p) × (slice_get (steps main) p ≡ None))
          → nat_eq p n ≡ is_at main n (f ∷ below)
      by_next ascend (inl there) = cc (before.next, there.2, same_as (steps main) ascend p there.0 there.2 n)
      by_next ascend (inr past) = let within = before.within in let le = past.0 in absurd (omega arith)

  pub arrives_here : (o : Option Configuration) (p : ℕ) → IsNext main (top_of (frames_of o)) p → (b : Breakpoint)
      → (is_of p b && holds_in main o (plain_breakpoint b).condition) ≡ arrives_in main (plain_breakpoint b) o
  arrives_here None p next b = absurd next
  arrives_here (Some []) p next b = absurd next
  arrives_here (Some (f ∷ below)) p next b = cc (stands_at f below p next b.step)
