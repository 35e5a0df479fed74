use Rattle.std.proofs.lemmas.Str.{IsUtf8-from_ascii}
use Rattle.pl0_parser.proofs.lexer.word_symbol.Goals as goal

pub from_utf8_unchecked-requires : goal.from_utf8_unchecked-requires
from_utf8_unchecked-requires c = IsUtf8-from_ascii c.args.word.now c.requires
