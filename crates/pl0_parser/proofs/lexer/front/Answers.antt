use Rattle.pl0_parser.proofs.Common.{arith, sym}
use Rattle.pl0_parser.proofs.LexerLemmas.{word_ascii, word_front, number_front, sign_front, digits_bounded}
use Rattle.pl0_parser.proofs.lexer.front.Goals as goal

pub word_symbol-requires : goal.word_symbol-requires
word_symbol-requires c = word_ascii c.args.bytes.now c.word_len-size.result c.word_len-size.ensures

pub number_symbol-requires : goal.number_symbol-requires
number_symbol-requires c = digits_bounded c.args.bytes.now c.digits_len-size.result c.digits_len-size.ensures

pub returns-then-is_ascii_alphabetic : goal.returns-then-is_ascii_alphabetic
returns-then-is_ascii_alphabetic c =
    word_front c.args.bytes.now c.word_symbol.result c.word_len-size.result c.requires.some c.requires.visible
    (omega arith) (sym c.if-is_ascii_alphabetic.ensures.value) c.word_len-size.ensures c.word_symbol.ensures

pub returns-then-is_ascii_digit : goal.returns-then-is_ascii_digit
returns-then-is_ascii_digit c =
    number_front _ _ _ c.requires.some c.requires.visible (omega arith) (sym c.if-is_ascii_alphabetic.ensures.value)
    (sym c.if-is_ascii_digit.ensures.value) c.digits_len-size.ensures c.number_symbol.ensures

pub returns-else-is_ascii_digit : goal.returns-else-is_ascii_digit
returns-else-is_ascii_digit c =
    sign_front c.args.bytes.now c.sign.result.0 c.sign.result.1 c.requires.some c.requires.visible (omega arith)
    (sym c.if-is_ascii_alphabetic.ensures.value) (sym c.if-is_ascii_digit.ensures.value) c.sign.ensures
