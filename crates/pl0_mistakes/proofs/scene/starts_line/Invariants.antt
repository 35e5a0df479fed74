use Rattle.std.proofs.Common.{length}
use Rattle.pl0_mistakes.proofs.scene.starts_line.Given as goal

abbrev pub decreases-loop-after : goal.decreases-loop-after
decreases-loop-after l = length l.rest
