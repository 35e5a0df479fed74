use Rattle.std.proofs.Common.{◌≤◌, length}
use Rattle.speed.proofs.session.piece_length.Given as goal

abbrev pub invariant-loop-content : goal.invariant-loop-content
invariant-loop-content l = length l.content ≤ length l.rest

abbrev pub decreases-loop-content : goal.decreases-loop-content
decreases-loop-content l = length l.content
