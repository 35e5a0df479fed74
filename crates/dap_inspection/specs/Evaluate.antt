-- Defines what a text is read as in the scope of a frame.
use Rattle.std.specs.Prelude.{ℕ, List, Option, None, Some}
use Rattle.pl0_tree.specs.Tree.{Block, Expression}
use Rattle.pl0_tree.specs.Plain.{plain_expression}
use Rattle.pl0_tree.specs.declared.tree.Expression.{Expression as DeclaredExpression}
use Rattle.pl0_tree.specs.Faults.{IsExpressionOf}
use Rattle.pl0_meaning.specs.Values.{Frame}

-- the expression that a text is in the scope of a frame, or none where it isn't one there
abbrev pub IsReadIn : Block → Option Frame → List ℕ → Option DeclaredExpression → Type 0
IsReadIn main None text read = ⊥
IsReadIn main (Some f) text None = (e : Expression) → ¬ IsExpressionOf main f.block text e
IsReadIn main (Some f) text (Some e) = IsExpressionOf main f.block text (plain_expression e)
