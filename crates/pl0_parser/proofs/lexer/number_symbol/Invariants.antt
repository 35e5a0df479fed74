use Rattle.pl0_parser.proofs.Common.{decimal_value, take, ◌<◌, ◌^◌, ◌≡◌}
use Rattle.pl0_parser.proofs.lexer.number_symbol.Given as goal

abbrev pub invariant-loop-digit : goal.invariant-loop-digit
invariant-loop-digit l = record {
  told : l.value ≡ decimal_value (take l.digit-index l.digits);
  small : l.value < 2 ^ 63;
}
