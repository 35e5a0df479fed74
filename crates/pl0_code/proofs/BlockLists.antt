-- The code, the count and the steps of the blocks of procedures in a list.
use Rattle.std.specs.Prelude.{ℕ, ◌+◌, List, [], ◌∷◌, ◌++◌, length}
use Rattle.pl0_tree.specs.Tree.{Block, Procedure}
use Rattle.pl0_tree.specs.Scope.{Path}
use Rattle.pl0_tree.specs.Steps.{block_steps}
use Rattle.pl0_tree.specs.declared.step.Step.{Step}
use Rattle.pl0_names.specs.Numbering.{block_count, numbered_block}
use Rattle.pl0_code.specs.Lines.{Row}
use Rattle.pl0_code.specs.Sizes.{block_length}
use Rattle.pl0_code.specs.Blocks.{block_rows}

-- the code of procedures, those of the block q from an index on
abbrev pub list_blocks_rows : Block → Path → ℕ → List Procedure → ℕ → ℕ → List Row
list_blocks_rows main q i [] from n = []
list_blocks_rows main q i (p ∷ all) from n =
    block_rows main (i ∷ q) p.block from n ++
    list_blocks_rows main q (i + 1) all (from + block_length p.block) (n + length (block_steps p.block (i ∷ q)))

-- how many blocks some procedures are, and their steps in the table, the blocks in them numbered from k
abbrev pub blocks_count : List Procedure → ℕ
blocks_count [] = 0
blocks_count (p ∷ all) = block_count p.block + blocks_count all

abbrev pub blocks_table : List Procedure → ℕ → List Step
blocks_table [] k = []
blocks_table (p ∷ all) k = numbered_block p.block k ++ blocks_table all (k + block_count p.block)
