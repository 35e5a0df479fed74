use Rattle.std.proofs.Common.{length}
use Rattle.pl0_mistakes.proofs.cases.behind_common.Given as goal

abbrev pub decreases-loop-left : goal.decreases-loop-left
decreases-loop-left l = length l.left
