-- Expressions and conditions whose names were looked up once.
use Rattle.std.specs.Prelude.{◌≡◌, List, [], ◌∷◌, Option, Some, None, ℤ, pos}
use Rattle.pl0_tree.specs.Tree.{Block, Expression, Variable, Number, Negate, Binary, Condition, Odd, Compare}
use Rattle.pl0_tree.specs.Scope.{Path, block_at, Meaning, AConstant, AVariable, AProcedure, Home, home}
use Rattle.pl0_meaning.specs.Values.{constant_of}
use Rattle.pl0_tree.specs.Plain.{plain_expression}
use Rattle.pl0_unit.specs.Code.{level}
use Rattle.dbg_plan.specs.declared.message.Part.{Part}
use Rattle.dbg_plan.specs.declared.message.Part.TheVariants as part
use Rattle.pl0_machine.specs.declared.located.LocatedExpression.{LocatedExpression}
use Rattle.pl0_machine.specs.declared.located.LocatedExpression.TheVariants as bound
use Rattle.pl0_machine.specs.declared.located.LocatedCondition.{LocatedCondition}
use Rattle.pl0_machine.specs.declared.located.LocatedCondition.TheVariants as bound_condition

-- what the block h declares, read in the block q: a constant by its value, a variable by how many static links lead to
-- its frame and by its index there
abbrev pub IsDeclaredBound : Block → Path → Path → Meaning → LocatedExpression → Type 0
IsDeclaredBound main q h (AConstant k) b = (v : ℤ) × (constant_of (block_at main h) k ≡ Some v) × (b ≡ bound.Number v)
IsDeclaredBound main q h (AVariable k) b = b ≡ bound.Variable (level q h) k
IsDeclaredBound main q h (AProcedure k) b = b ≡ bound.Number (pos 0)

-- a name that can't be read counts as 0, as in the meaning
abbrev pub IsNameBound : Block → Path → Option Home → LocatedExpression → Type 0
IsNameBound main q None b = b ≡ bound.Number (pos 0)
IsNameBound main q (Some h) b = IsDeclaredBound main q h.path h.declaration.meaning b

-- The bound expression is the expression, read in the block q.
abbrev pub IsExpressionBound : Block → Path → Expression → LocatedExpression → Type 0
IsExpressionBound main q (Number n) b = b ≡ bound.Number n
IsExpressionBound main q (Variable x) b = IsNameBound main q (home main q x.word) b
IsExpressionBound main q (Negate e) (bound.Negate' p b) = IsExpressionBound main q e b
IsExpressionBound main q (Negate e) b = ⊥
IsExpressionBound main q (Binary op left right) (bound.Binary' op' p first r second) =
    (op' ≡ op) × IsExpressionBound main q left first × IsExpressionBound main q right second
IsExpressionBound main q (Binary op left right) b = ⊥

abbrev pub IsConditionBound : Block → Path → Condition → LocatedCondition → Type 0
IsConditionBound main q (Odd e) (bound_condition.Odd b) = IsExpressionBound main q e b
IsConditionBound main q (Compare relation left right) (bound_condition.Compare relation' first second) =
    (relation' ≡ relation) × IsExpressionBound main q left first × IsExpressionBound main q right second
IsConditionBound main q condition b = ⊥

-- each expression of a message is bound
abbrev pub ArePartsBound : Block → Path → List Part → Type 0
ArePartsBound main q [] = Unit {0}
ArePartsBound main q (part.Text text ∷ parts) = ArePartsBound main q parts
ArePartsBound main q (part.Value e ∷ parts) =
    IsExpressionBound main q (plain_expression e.expression) e.located × ArePartsBound main q parts
