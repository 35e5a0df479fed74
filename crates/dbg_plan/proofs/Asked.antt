-- What the machine asks at a mark is the condition of the breakpoint there.
use Rattle.std.proofs.Common.{◌≡◌, ℕ, zero, suc, ◌-◌, ◌<◌, true, List, [], ◌∷◌, length, slice_get, Option, Some, None, Ok, ℤ, refl, sym, ap, ◌∙◌, subst, arith}
use Rattle.std.specs.Prelude.{IsSome}
use Rattle.std.specs.Result.{result_unwrap_or}
use Rattle.pl0_tree.specs.Tree.{Block}
use Rattle.pl0_tree.specs.Steps.{step_path}
use Rattle.pl0_meaning.specs.Values.{Frame, Configuration, frame_at, number_of, or_zero, comparison}
use Rattle.pl0_meaning.specs.Frames.{AreLinked}
use Rattle.pl0_meaning.specs.Laws.{FramesAreLinked}
use Rattle.pl0_meaning.proofs.Linking.{frame_at-top}
use Rattle.pl0_machine.specs.declared.mark.Operand.{Operand}
use Rattle.pl0_machine.specs.declared.mark.Operand.TheVariants.{Number, Variable, Main}
use Rattle.pl0_machine.specs.declared.mark.Comparison.{Comparison}
use Rattle.pl0_machine.specs.declared.mark.Proviso.{Proviso}
use Rattle.pl0_machine.specs.declared.mark.Proviso.TheVariants.{Nothing, Comparison as AComparison, Condition as ACondition}
use Rattle.pl0_machine.specs.Machine.{Standing, program, configuration, frames, depth_of, top_of, variables_of, IsNext, number_up}
use Rattle.pl0_machine.specs.Stretches.{operand_in, answer_in, HasOperand, CanAsk}
use Rattle.dbg_plan.specs.declared.breakpoint.BoundCondition.{BoundCondition}
use Rattle.dbg_plan.specs.declared.breakpoint.Breakpoint.{Breakpoint}
use Rattle.dbg_plan.specs.Comparisons.{expression_of, condition_of, Asks}
use Rattle.dbg_plan.specs.Counting.{holds_now, IsMetHere}
use Rattle.pl0_machine.specs.LocatedValues.{located_value, located_truth, CanRead, CanTest}
use Rattle.dbg_plan.specs.Table.{AsksFor}
use Rattle.dbg_plan.proofs.ValuesLinks.{leads_to_main}
use Rattle.dbg_plan.proofs.ValuesMet.{IsTested, stands_in, tested_here, holds_bound}
use Rattle.std.proofs.lemmas.Grind.{common_steps}

-- ---- operands

number_within : (ns : List ℤ) (k : ℕ) → IsSome (slice_get ns k) → k < length ns
number_within [] k is = cc
number_within (n ∷ ns) zero is = omega arith
number_within (n ∷ ns) (suc k) is = let within = number_within ns k is in omega (arith, within)

variable_within : (frame : Option Frame) (k : ℕ) → IsSome (number_of frame k) → k < variables_of frame
variable_within None k is = cc
variable_within (Some f) k is = number_within f.numbers k is

-- in frame i, the newest, from which as many links as there are blocks around its own lead to the main block's
module _ (c : Configuration) (i depth : ℕ) (is : frame_at c i ≡ top_of c)
    (up : (k : ℕ) → number_up c depth k i ≡ number_of (frame_at c 0) k) where
  has_operand : (o : Operand) → CanRead c i (expression_of depth o) → HasOperand c o
  has_operand (Number n) can = tt
  has_operand (Variable k) can = variable_within (top_of c) k (subst (λ f. IsSome (number_of f k)) is can)
  has_operand (Main k) can = variable_within (frame_at c 0) k (subst (λ v. IsSome v) (up k) can)

  operand_value : (o : Operand) → located_value c i (expression_of depth o) ≡ Ok (or_zero (operand_in c o))
  operand_value (Number n) = refl
  operand_value (Variable k) = ap (λ f. Ok (or_zero (number_of f k))) is
  operand_value (Main k) = ap (λ number. Ok (or_zero number)) (up k)

  comparison_truth : (q : Comparison) → located_truth c i (condition_of depth q)
      ≡ Ok (comparison q.relation (or_zero (operand_in c q.left)) (or_zero (operand_in c q.right)))
  comparison_truth q = cc (operand_value q.left, operand_value q.right)

-- ---- the newest frame

newest_at : (main : Block) (c : Configuration) (n : ℕ) → IsNext main (top_of c) n
    → frame_at c (length c - 1) ≡ top_of c
newest_at main [] n next = absurd next
newest_at main (f ∷ below) n next = frame_at-top f below (length (f ∷ below) - 1) (omega arith)

main_up : (main : Block) (c : Configuration) (n : ℕ) → AreLinked main c → IsNext main (top_of c) n → (k : ℕ)
    → number_up c (length (step_path main n)) k (length c - 1) ≡ number_of (frame_at c 0) k
main_up main [] n linked next k = absurd next
main_up main (f ∷ below) n linked next k =
    let here : length below ≡ length (f ∷ below) - 1 = omega arith in
    ap (λ q. number_up (f ∷ below) (length q) k (length (f ∷ below) - 1)) (sym (stands_in main f n next))
    ∙ leads_to_main main (f ∷ below) (length (f ∷ below) - 1) f linked
    (frame_at-top f below (length (f ∷ below) - 1) here) k

linked_at : FramesAreLinked → (m : Standing) → AreLinked (program m) (frames m)
linked_at laws m = grind (arith, common_steps)

pub there_at : (m : Standing) (n : ℕ) → IsNext (program m) (top_of (frames m)) n → configuration m ≡ Some (frames m)
there_at m n next = grind (arith, common_steps)

-- ---- the condition of a breakpoint of the machine's step

module _ (laws : FramesAreLinked) (m : Standing) (b : Breakpoint) (here : IsMetHere m b) where
  abbrev deep : ℕ
  deep = length (step_path (program m) b.step)

  newest : frame_at (frames m) (depth_of m - 1) ≡ top_of (frames m)
  newest = newest_at (program m) (frames m) b.step here.next

  up : (k : ℕ) → number_up (frames m) deep k (depth_of m - 1) ≡ number_of (frame_at (frames m) 0) k
  up = main_up (program m) (frames m) b.step (linked_at laws m) here.next

  module _ (guard : BoundCondition) (guarded : b.condition ≡ Some guard) where
    tests : IsTested (program m) (frames m) (depth_of m - 1) guard
    tests = tested_here m b guard (depth_of m) here guarded ∣ linked_at laws m ∣₁ refl

    compared : (c : Comparison) → guard.asked ≡ Some c → guard.located.value ≡ condition_of deep c
    compared c is = grind (arith, common_steps, condition_of)

    can_test : (q : Proviso) → Asks guard q → CanAsk (frames m) q
    can_test Nothing asks = absurd asks
    can_test (AComparison c) asks =
        let can = subst (λ k. CanTest (frames m) (depth_of m - 1) k) (compared c asks) tests.0 in
        (has_operand (frames m) _ deep newest up c.left can.0, has_operand (frames m) _ deep newest up c.right can.1)
    can_test (ACondition p) asks = subst (λ k. CanTest (frames m) (depth_of m - 1) k) (sym asks) tests.0

    truth_asked : (q : Proviso) → Asks guard q
        → answer_in (frames m) q ≡ result_unwrap_or (located_truth (frames m) (depth_of m - 1) guard.located.value) true
    truth_asked Nothing asks = absurd asks
    truth_asked (AComparison c) asks = cc (compared c asks, comparison_truth (frames m) _ deep newest up c)
    truth_asked (ACondition p) asks = cc

  -- what the machine is asked for the breakpoint can be asked, and is answered by whether its condition holds
  pub can_ask : (q : Proviso) → AsksFor b.condition q → CanAsk (frames m) q
  can_ask q asks = grind (arith, common_steps, frames, can_test)

  pub answer_is : (q : Proviso) → AsksFor b.condition q → answer_in (frames m) q ≡ holds_now m b
  answer_is q asks = grind (arith, common_steps, frames, there_at, truth_asked, holds_bound, tests)
