use Rattle.std.proofs.Common.{◌≡◌, [], length}
use Rattle.pl0_mistakes.specs.Found.{cut, last_or}
use Rattle.pl0_mistakes.proofs.scene.past_of.Given as goal

abbrev pub invariant-loop-token : goal.invariant-loop-token
invariant-loop-token l = last_or l.past.last.bytes.now (cut l.rest) ≡ last_or [] (cut l.fn.bytes)

abbrev pub decreases-loop-token : goal.decreases-loop-token
decreases-loop-token l = length l.rest
