-- What an emitter has made of a tree, before and after one more statement.
use Rattle.std.specs.Prelude.{◌≡◌, ◌++◌, length}
use Rattle.pl0_tree.specs.Tree.{Statement}
use Rattle.pl0_code.specs.declared.emit.Emitter.{Emitter}
use Rattle.pl0_code.specs.Rows.{Resolver, statement_rows}
use Rattle.pl0_names.specs.Numbering.{numbered_statement}

-- The code and the steps of a statement, where words mean this, stand after those that were there.
pub record Emits (words : Resolver) (s : Statement) (old new : Emitter) : Type 0 where
  pub listing : new.listing ≡ old.listing ++ statement_rows words s (length old.listing) (length old.steps.items)
  pub table : new.steps.items ≡ old.steps.items ++ numbered_statement s old.ended
  pub ended : new.ended ≡ old.ended
