-- What a word means in a block, as the code returns it.
use Rattle.std.specs.Prelude.{◌≡◌, ◌+◌, length, Option, Some, None}
use Rattle.pl0_tree.specs.Plain.{plain_block}
use Rattle.pl0_tree.specs.Scope.{Path, block_at, Meaning, AConstant, AVariable, AProcedure, Home}
use Rattle.pl0_tree.specs.Tree.{Block}
use Rattle.pl0_names.specs.declared.names.Home.{Home as Answer}
use Rattle.pl0_names.specs.declared.scope.Meaning.{Meaning as Kept}
use Rattle.pl0_names.specs.declared.scope.Meaning.TheVariants as kept

-- what a word is declared as
abbrev pub meaning_of : Kept → Meaning
meaning_of (kept.Constant i) = AConstant i
meaning_of (kept.Variable i) = AVariable i
meaning_of (kept.Procedure i) = AProcedure i

-- What a word means in the block q: the block of its home, how many levels further out that is, and the declaration
-- there.
abbrev pub IsHomeAnswer : Block → Path → Option Home → Option Answer → Type 0
IsHomeAnswer main q None None = Unit {0}
IsHomeAnswer main q (Some h) (Some a) =
    (block_at main h.path ≡ Some (plain_block a.block.now)) × (a.level + length h.path ≡ length q)
    × (meaning_of a.meaning ≡ h.declaration.meaning)
IsHomeAnswer main q _ _ = ⊥
