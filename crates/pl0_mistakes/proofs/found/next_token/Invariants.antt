use Rattle.std.proofs.Common.{◌≡◌, ◌≤◌, length}
use Rattle.pl0_mistakes.specs.Found.{cut}
use Rattle.pl0_mistakes.proofs.found.next_token.Given as goal

abbrev pub invariant-loop-rest : goal.invariant-loop-rest
invariant-loop-rest l = record {
  same : cut l.rest ≡ cut l.fn.bytes;
  shorter : length l.rest ≤ length l.fn.bytes;
}

abbrev pub decreases-loop-rest : goal.decreases-loop-rest
decreases-loop-rest l = length l.rest
