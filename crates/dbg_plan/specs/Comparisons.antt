-- What the machine is asked in its loop for a condition.
use Rattle.std.specs.Prelude.{◌≡◌, ℕ, Some}
use Rattle.dbg_plan.specs.declared.breakpoint.BoundCondition.{BoundCondition}
use Rattle.pl0_machine.specs.declared.mark.Comparison.{Comparison}
use Rattle.pl0_machine.specs.declared.mark.Proviso.{Proviso}
use Rattle.pl0_machine.specs.declared.mark.Proviso.TheVariants.{Nothing, Comparison as AComparison, Condition as ACondition}
use Rattle.pl0_machine.specs.declared.mark.Operand.{Operand}
use Rattle.pl0_machine.specs.declared.mark.Operand.TheVariants as operand
use Rattle.pl0_machine.specs.declared.located.LocatedExpression.{LocatedExpression}
use Rattle.pl0_machine.specs.declared.located.LocatedExpression.TheVariants.{Number, Variable}
use Rattle.pl0_machine.specs.declared.located.LocatedCondition.{LocatedCondition}
use Rattle.pl0_machine.specs.declared.located.LocatedCondition.TheVariants.{Compare}

-- In a block around which this many blocks are, a variable of the frame itself is no static link away, and one of the
-- main block's frame as many as there are blocks around.
abbrev pub expression_of : ℕ → Operand → LocatedExpression
expression_of depth (operand.Number n) = Number n
expression_of depth (operand.Variable k) = Variable 0 k
expression_of depth (operand.Main k) = Variable depth k

abbrev pub condition_of : ℕ → Comparison → LocatedCondition
condition_of depth c = Compare c.relation (expression_of depth c.left) (expression_of depth c.right)

-- this is what is asked of the machine for a condition: the comparison that it is, or the condition itself
abbrev pub Asks : BoundCondition → Proviso → Type 0
Asks condition Nothing = ⊥
Asks condition (AComparison c) = condition.asked ≡ Some c
Asks condition (ACondition p) = p.value ≡ condition.located.value
