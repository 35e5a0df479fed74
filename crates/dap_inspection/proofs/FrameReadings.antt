-- Expressions that are read in a frame's scope, at the frame's next step, which stands in the frame's block.
use Rattle.dap_inspection.proofs.Common.{Block, Configuration, Frame, FrameView, IsAlive, List, None, Option, Place, Shows, Some, ap, arith, frame_at, frame_by_id, inl, length, steps, subst, sym, ℕ, ℤ, ◌-◌, ◌<◌, ◌∙◌, ◌≡◌}
use Rattle.std.proofs.Common.{Result, Err}
use Rattle.pl0_tree.specs.Plain.{plain_expression}
use Rattle.pl0_tree.specs.declared.tree.Expression.{Expression as DeclaredExpression}
use Rattle.pl0_tree.specs.declared.fault.FaultKind.{FaultKind}
use Rattle.pl0_tree.specs.Steps.{step_path}
use Rattle.pl0_tree.specs.Faults.{IsExpressionOf, IsFirstExpressionFault}
use Rattle.pl0_syntax.specs.Laws.{FaultExcludesExpressions}
use Rattle.pl0_meaning.specs.Laws.{NextStepsStandInTheirBlocks}
use Rattle.pl0_meaning.specs.Values.{value}
use Rattle.dbg_plan.specs.Values.{answered as evaluated}
use Rattle.dbg_plan.specs.declared.evaluation.EvalFault.{EvalFault}
use Rattle.dap_msg.specs.declared.question.Shown.{Shown}
use Rattle.dap_msg.specs.declared.outgoing.Refusal.{Refusal}
use Rattle.dap_msg.specs.declared.outgoing.Refusal.TheVariants as refusal
use Rattle.dap_history.specs.Inspection.{EvaluatesIn, result_answer}
use Rattle.dap_inspection.specs.Evaluate.{IsReadIn}
use Rattle.dap_inspection.proofs.AliveFrames.{by_id}
use Rattle.std.proofs.lemmas.Grind.{common_steps}

-- the next step of a frame that was shown is a step of the program
pub next_within : (main : Block) (o : Option Frame) (view : FrameView) → Shows main o view
    → view.next_step < length (steps main)
next_within main o view shows = grind (arith, common_steps) steps 200000

pub read_there : NextStepsStandInTheirBlocks → (main : Block) (o : Option Frame) (view : FrameView) (text : List ℕ)
    (e : DeclaredExpression) → Shows main o view → IsExpressionOf main (step_path main view.next_step) text
    (plain_expression e) → IsReadIn main o text (Some e)
read_there stand main o view text e shows is = grind (arith, common_steps) steps 200000

pub not_read_there : NextStepsStandInTheirBlocks → FaultExcludesExpressions
    → (main : Block) (o : Option Frame) (view : FrameView) (text : List ℕ) (kind : FaultKind) (place : Place)
    → Shows main o view → IsFirstExpressionFault main (step_path main view.next_step) text kind place
    → IsReadIn main o text None
not_read_there stand excludes main None view text kind place shows is = absurd shows
not_read_there stand excludes main (Some f) view text kind place shows is =
    λ e. excludes main f.block text kind place e (rw (← (stand main f view.next_step shows.1)) is)

-- ---- what is answered

module _ (main : Block) (c : Configuration) (id i : ℕ) (text : List ℕ) (alive : IsAlive c id i) where
  in_frame : (answer : Result Shown Refusal) → EvaluatesIn main c id (frame_at c i) text answer
      → EvaluatesIn main c id (frame_by_id c id) text answer
  in_frame answer is = subst (λ o. EvaluatesIn main c id o text answer) (sym (by_id c id i alive)) is

  pub refuses : IsReadIn main (frame_at c i) text None → EvaluatesIn main c id (frame_by_id c id) text
      (Err refusal.BadExpression)
  refuses read = grind (arith, common_steps, in_frame)

  pub answers : (e : DeclaredExpression) (result : Result ℤ EvalFault) (answer : Result Shown Refusal)
      → IsReadIn main (frame_at c i) text (Some e) → value main c i (plain_expression e) ≡ evaluated result
      → answer ≡ result_answer result →
      EvaluatesIn main c id (frame_by_id c id) text answer
  answers e result answer read is same = in_frame answer (at (frame_at c i) read)
    where
      number : id - 1 ≡ i
      number = omega (arith, alive.is)

      at : (o : Option Frame) → IsReadIn main o text (Some e) → EvaluatesIn main c id o text answer
      at None read = absurd read
      at (Some f) read =
          inl (record {
            expression = plain_expression e;
            reads = read;
            result = result;
            result_is = ap (λ k. value main c k (plain_expression e)) number ∙ is;
            answer_is = same;
          })
