use Rattle.std.proofs.Common.{◌≡◌, length}
use Rattle.pl0_mistakes.specs.Found.{from_line}
use Rattle.pl0_mistakes.proofs.found.from_line.Given as goal

abbrev pub invariant-loop-rest : goal.invariant-loop-rest
invariant-loop-rest l = from_line l.left l.rest ≡ from_line l.fn.line l.fn.text

abbrev pub decreases-loop-rest : goal.decreases-loop-rest
decreases-loop-rest l = length l.rest
