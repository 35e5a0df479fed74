-- What a condition's text reads as, whatever its names mean.
use Rattle.std.specs.Prelude.{ℕ, List}
use Rattle.pl0_tree.specs.Tree.{Condition}
use Rattle.pl0_tree.specs.Tokens.{tokens_of}
use Rattle.pl0_tree.specs.Reading.{ReadsConditionText}
use Rattle.pl0_tree.specs.Faults.{level_limit}

abbrev pub ReadsAs : List ℕ → Condition → Type 0
ReadsAs text condition = ReadsConditionText level_limit (tokens_of text) condition
