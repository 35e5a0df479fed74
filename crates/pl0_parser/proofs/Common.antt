-- What several lemma files import, from the libraries and from the definitions.
pub use Rattle.pl0_parser.specs.Parsing.{block_front, constant_front, ending, guard_sign, guard_word, IsNextAt, IsSigned, Lacks, left_of, one, Outcome, Parses, ParsesAll, ParsesProcedure, ProcedureOutcome, ReadsConstant, ReadsName, ReadsNumber, ReadsProcedure, RefusedAll, RefusedAt, symbol_of_start}
pub use Rattle.pl0_parser.specs.Prediction.{AComparison, ACondition, advance, AFactor, AName, AnEnd, AnExpression, ANumber, AStatement, ATerm, block_goals, Choice, choice, comparison_choice, condition_choice, constant_goals, constant_part_choice, ConstantPart, else_behind, end_choice, Expect, expression_choice, factor_choice, first_refusal, followed_by, Goal, if_goals, mark_choice, mark_number, more_constants_choice, more_factors_choice, more_statements_choice, more_terms_choice, more_variables_choice, MoreConstants, MoreFactors, MoreStatements, MoreTerms, MoreVariables, name_choice, nested_goals, nothing_choice, number_choice, opening, Pass, procedure_goals, procedure_part_choice, ProcedurePart, refusal_after, Refuse, sequence_goals, statement_choice, Take, term_choice, variable_part_choice, VariablePart, while_goals}
pub use Rattle.pl0_parser.specs.declared.cursor.Cursor.{Cursor}
pub use Rattle.pl0_tree.specs.Faults.{by_itself, FaultIs, Grammar, IsBeginning, IsRefused, IsTokenFault, too_deep, unexpected}
pub use Rattle.pl0_tree.specs.Plain.{in_a_row, joined, joined_before, plain_block, plain_condition, plain_constant, plain_expression, plain_name, plain_procedure, plain_statement, procedures_before}
pub use Rattle.pl0_tree.proofs.PlainParts.{joined_push, made, plain_begin, plain_made, plain_made_procedure, procedures_push}
pub use Rattle.pl0_tree.specs.Reading.{token_at, at_least, at_most, equal, greater, IsAdding, IsComparing, IsMultiplying, IsText, less, minus, name_at, plus, Reading, ReadsBlock, ReadsCondition, ReadsConditionText, ReadsConstantPart, ReadsConstants, ReadsExpression, ReadsExpressionText, ReadsFactor, ReadsMoreFactors, ReadsMoreTerms, ReadsProcedures, ReadsProgram, ReadsStatement, ReadsStatements, ReadsTerm, ReadsVariablePart, ReadsVariables, slash, times, unequal}
pub use Rattle.pl0_tree.specs.Tokens.{behind, decimal_value, EndOfText, Faulty, front_piece, is_space, is_word_byte, Marked, Named, number_symbol, Numeral, sign_piece, signs, start_place, Symbol, symbols, Token, tokens_from, tokens_of, word_symbol}
pub use Rattle.pl0_tree.specs.Tree.{ABlock, AProcedure, Binary, Block, Condition, Constant, Expression, Name, Negate, NoMore, Number, Procedures, Statement, Variable}
pub use Rattle.pl0_tree.specs.Words.{ended, symbol_of, token_of}
pub use Rattle.pl0_tree.specs.declared.fault.FaultKind.{FaultKind}
pub use Rattle.pl0_tree.specs.declared.fault.FaultKind.TheVariants.{Expected, NumberTooLarge, TooDeep}
pub use Rattle.pl0_tree.specs.declared.fault.SyntaxFault.{SyntaxFault}
pub use Rattle.pl0_tree.specs.declared.token.Mark.{Mark}
pub use Rattle.pl0_tree.specs.declared.token.Mark.TheVariants.{AtLeast, AtMost, Becomes, Begin, Call, Close, Comma, Const, Do, End, Equal, Exclamation, Greater, If, Less, Minus, Odd, Open, Period, Plus, Procedure, Semicolon, Slash, Then, Times, Unequal, Var, While}
pub use Rattle.pl0_tree.specs.declared.tree.Operator.{Operator}
pub use Rattle.pl0_tree.specs.declared.tree.Place.{Place}
pub use Rattle.std.proofs.Common.{[], add-zero, ap, append_assoc, arith, Bool, cond, drop, eqb, false, get_or, inl, inr, length, List, lit<, map, pos, pred, refl, rules, subst, suc, sym, take, true, zero, ℕ, ℤ, ⊎_elim, ◌*◌, ◌++◌, ◌+◌, ◌-◌, ◌<◌, ◌^◌, ◌||◌, ◌∙◌, ◌∷◌, ◌≡◌, ◌≤◌}
pub use Rattle.std.proofs.lemmas.Grind.{common_steps}
pub use Rattle.std.proofs.lemmas.Int.{to_z_pos}
pub use Rattle.std.proofs.lemmas.List.{append-nil, map-append}
pub use Rattle.std.specs.Prelude.{Box, Err, find, fold, if◌then◌else◌, IsErrAnd, nat_eq, nat_le, nat_lt, not, Ok, Option, replicate, Result, slice_get, Some, take_while, ◌&&◌, ◌==◌, ◌⊎◌}
pub use mir.Syntax.{w64}
pub use mir.Val.{of_z, to_z}
