use Rattle.pl0_tree.specs.Faults.{limit}
use Rattle.pl0_parser.proofs.Common.{length, map, token_of, tokens_from, tokens_of, ◌++◌, ◌+◌, ◌≡◌, ◌≤◌}
use Rattle.pl0_parser.proofs.lexer.tokenize.Given as goal

abbrev pub invariant-loop-rest : goal.invariant-loop-rest
invariant-loop-rest l = record {
  told : map token_of l.found.items ++ tokens_from l.place 0 l.rest ≡ tokens_of l.text;
  line : l.place.line + length l.rest ≤ limit + 1;
  column : l.place.column + length l.rest ≤ limit + 1;
}

abbrev pub decreases-loop-rest : goal.decreases-loop-rest
decreases-loop-rest l = length l.rest
