use Rattle.pl0_tool.proofs.Common.{length, ◌≡◌}
use Rattle.pl0_tool.proofs.DrawnCells.{TellHeads}
use Rattle.pl0_tool.proofs.drawing.heads_of.Given as goal

abbrev pub invariant-loop-index : goal.invariant-loop-index
invariant-loop-index l = (length l.heads.items ≡ l.index) × TellHeads l.machine l.hidden l.heads.items
