-- What several lemma files import, from the libraries and from the definitions.
pub use Rattle.pl0_names.specs.AllFaults.{AreAllFaults, fault_at}
pub use Rattle.pl0_names.specs.Blocks.{blocks_of, declared_in, found_at, found_in, names, no_names, or_declared}
pub use Rattle.pl0_names.specs.Homes.{IsHomeAnswer, meaning_of}
pub use Rattle.pl0_names.specs.Judging.{allows, block_verdicts, Chain, chain_names, declared_fault, declared_verdict, declared_verdicts, faults_among, Finds, first_fault, home_names, inside_verdicts, is_before, IsTableOf, Known, known, means, Names, outside_fault, outside_verdict, outside_verdicts, own, procedure_declared, row_verdicts, same_meaning, Judges, stack_names, told, use_fault, use_verdict, use_verdicts, Verdict, verdict_first, within}
pub use Rattle.pl0_names.specs.Logs.{at_level, ends_at, index_of, is_at, IsIndexed, IsLinked, IsNested, IsTable, nearest, placed_at, placed_in}
pub use Rattle.pl0_names.specs.Numbering.{block_count, nested_in, nestings_of_block, nestings_of_row, numbered, numbered_block, numbered_row, numbered_statement, row_count}
pub use Rattle.pl0_names.specs.declared.check.NameFault.{NameFault}
pub use Rattle.pl0_names.specs.declared.scope.Declared.{Declared}
pub use Rattle.pl0_tree.specs.Ascending.{Ascend}
pub use Rattle.pl0_tree.specs.Blocks.{AreNestings, IsNesting, name_of_block, procedure_name}
pub use Rattle.pl0_tree.specs.Faults.{FaultIs, IsNameFault, IsNameFaultOutside, order, too_early, too_many_names, twice, unknown, wrong_kind}
pub use Rattle.pl0_tree.specs.Plain.{in_a_row, joined, plain_block, plain_condition, plain_constant, plain_expression, plain_name, plain_procedure, plain_statement}
pub use Rattle.pl0_tree.proofs.PlainParts.{listed, plain_begin, plain_block_parts, plain_block_procedures, plain_constants, plain_variables}
pub use Rattle.pl0_tree.specs.Reading.{assignment, block, call, choice, comparison, empty, factors, last_constant, last_statement, last_variable, loop, name, negative, nested, no_constants, no_factor, no_procedure, no_term, no_variables, number, odd, one_constant, one_factor, one_procedure, one_statement, one_term, one_variable, positive, program, Reading, ReadsBlock, ReadsCondition, ReadsConditionText, ReadsConstantPart, ReadsConstants, ReadsExpression, ReadsExpressionText, ReadsFactor, ReadsMoreFactors, ReadsMoreTerms, ReadsProcedures, ReadsProgram, ReadsStatement, ReadsStatements, ReadsTerm, ReadsVariablePart, ReadsVariables, sequence, unsigned, write}
pub use Rattle.pl0_tree.specs.Scope.{AConstant, Allows, AProcedure, AreLawfulOutside, AVariable, block_at, body_uses, condition_uses, Declaration, declarations, declared_as, declared_here, expression_uses, first_declaration, Home, home, IsAssigned, IsBefore, IsCalled, IsLawful, IsLawfulOutside, IsLawfulUse, IsRead, Meaning, or_else, Path, procedure_at, statement_uses, Use, UseKind}
pub use Rattle.pl0_tree.specs.Steps.{AreSteps, block_paths, block_steps, blocks, procedures_paths, procedures_steps, statement_steps, lone_step, StepAt, steps}
pub use Rattle.pl0_tree.specs.Tokens.{Token}
pub use Rattle.pl0_tree.specs.Tree.{ABlock, Block, Condition, Constant, constants, Empty, Expression, If, Name, NoMore, procedure_list, Procedures, procedures, Statement, Then, variables, While}
pub use Rattle.pl0_tree.specs.declared.fault.FaultKind.{FaultKind}
pub use Rattle.pl0_tree.specs.declared.fault.FaultKind.TheVariants.{TooEarly, TooManyNames, Twice, Unknown, WrongKind}
pub use Rattle.pl0_tree.specs.declared.fault.SyntaxFault.{SyntaxFault}
pub use Rattle.pl0_tree.specs.declared.fault.SyntaxFault.TheVariants.{InText, NoMemory}
pub use Rattle.pl0_tree.specs.declared.nesting.Nesting.{Nesting}
pub use Rattle.pl0_tree.specs.declared.step.Step.{Step}
pub use Rattle.pl0_tree.specs.declared.tree.Block.{out-Block}
pub use Rattle.pl0_tree.specs.declared.tree.Place.{Place}
pub use Rattle.pl0_tree.specs.declared.tree.Procedure.{out-Procedure, Procedure}
pub use Rattle.std.proofs.Common.{[], add-one, add-zero, ap, append-nil, append_assoc, arith, Bool, cond, drop, Err, false, get_or, inl, inr, length, length-append, List, map, Ok, refl, Result, reverse, rules, subst, suc, sym, take, true, vec_len, zero, ℕ, ◌++◌, ◌+◌, ◌-◌, ◌<◌, ◌^◌, ◌||◌, ◌∙◌, ◌∷◌, ◌≡◌, ◌≤◌, ◌⊎◌}
pub use Rattle.std.proofs.lemmas.Bool.{both_ways, cases_eq, eqb-true, false_from_ne_true}
pub use Rattle.std.proofs.lemmas.List.{drop_all, drop_more, get_or_append_left, get_or_at, length-map, length-reverse, reverse-append, reverse-reverse}
pub use Rattle.std.proofs.lemmas.Option.{none-some, same_Some, slice_get-get_or, slice_get-map, slice_get_read, slice_get_within, some_pair_parts}
pub use Rattle.std.proofs.lemmas.Slice.Eq.{bytes_eq-Decides}
pub use Rattle.std.specs.Option.{option_map_or, option_or}
pub use Rattle.std.specs.Prelude.{Box, find, IfErr, is_some, IsOk, IsSome, nat_eq, nat_lt, None, OnErr, OnOk, Option, option_and_then, option_map, position, slice_get, Some, string_bytes, Vec, ◌&&◌}
pub use Rattle.std.specs.Str.{bytes_eq}
