-- What the functions that evaluate and that look names up promise. No public contract cites this file.
use Rattle.std.specs.Prelude.{◌≡◌, ℕ}
use Rattle.pl0_tree.specs.Plain.{plain_expression}
use Rattle.pl0_tree.specs.Tree.{Block}
use Rattle.pl0_meaning.specs.Values.{Configuration, value}
use Rattle.pl0_machine.specs.LocatedValues.{located_value, CanRead}
use Rattle.dbg_plan.specs.declared.message.Part.{Part}
use Rattle.dbg_plan.specs.declared.message.Part.TheVariants as part
use Rattle.dbg_plan.specs.declared.binding.Located.{Located}
use Rattle.dbg_plan.specs.declared.binding.Located.TheVariants as at
use Rattle.pl0_machine.specs.declared.located.LocatedExpression.{LocatedExpression}
use Rattle.pl0_machine.specs.declared.located.LocatedExpression.TheVariants.{Number, Variable}

-- the expression of a part can be read, and has its value
abbrev pub ReadsPart : Block → Configuration → ℕ → Part → Type 0
ReadsPart main c i (part.Text text) = Unit {0}
ReadsPart main c i (part.Value e) =
    CanRead c i e.located × (located_value c i e.located ≡ value main c i (plain_expression e.expression))

-- ---- names by their text

abbrev pub bound_of : Located → LocatedExpression
bound_of (at.Number n) = Number n
bound_of (at.Variable level k) = Variable level k
