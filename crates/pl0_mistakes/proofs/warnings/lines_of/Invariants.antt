use Rattle.std.proofs.Common.{◌≡◌, ◌++◌, length, map}
use Rattle.pl0_tree.specs.Words.{token_of}
use Rattle.pl0_mistakes.specs.Warnings.{empty_lines}
use Rattle.pl0_mistakes.proofs.warnings.lines_of.Given as goal

abbrev pub invariant-loop-rest : goal.invariant-loop-rest
invariant-loop-rest l =
    l.lines.items ++ empty_lines l.fn.file (map token_of l.rest) ≡ empty_lines l.fn.file (map token_of l.fn.tokens)

abbrev pub decreases-loop-rest : goal.decreases-loop-rest
decreases-loop-rest l = length l.rest
