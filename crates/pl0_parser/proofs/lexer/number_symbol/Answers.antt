use Rattle.pl0_parser.proofs.Common.{arith}
use Rattle.pl0_parser.proofs.LexerLemmas.{too_large}
use Rattle.pl0_parser.proofs.lexer.number_symbol.Goals as goal
use Rattle.std.proofs.lemmas.Grind.{common_steps}

pub returns-then-next : goal.returns-then-next
returns-then-next c = grind (arith, common_steps, too_large)
