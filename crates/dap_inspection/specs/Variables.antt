-- Defines the names of a frame's variables, and their values.
use Rattle.std.specs.Prelude.{ℤ, List, [], Option, None, Some}
use Rattle.pl0_tree.specs.Tree.{Block, Name}
use Rattle.pl0_tree.specs.Scope.{block_at}
use Rattle.pl0_meaning.specs.Values.{Frame}
use Rattle.dap_history.specs.Frames.{names_of}

-- the names of the variables of a frame's block, in the order of declaration
abbrev pub names_in : Block → Option Frame → List Name
names_in main None = []
names_in main (Some f) = names_of (block_at main f.block)

-- the values of a frame's variables, in the order of declaration
abbrev pub numbers_of : Option Frame → List ℤ
numbers_of None = []
numbers_of (Some f) = f.numbers
