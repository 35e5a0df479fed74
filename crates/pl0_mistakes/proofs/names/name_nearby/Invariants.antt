use Rattle.std.proofs.Common.{length}
use Rattle.pl0_mistakes.proofs.names.name_nearby.Given as goal

abbrev pub decreases-loop-token : goal.decreases-loop-token
decreases-loop-token l = length l.rest
