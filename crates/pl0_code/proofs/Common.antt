-- What several lemma files import, from the libraries and from the definitions.
pub use Rattle.pl0_code.proofs.BlockLists.{blocks_count, blocks_table, list_blocks_rows}
pub use Rattle.pl0_code.specs.Blocks.{block_rows, procedures_rows}
pub use Rattle.pl0_code.specs.Chains.{chain, declared_as, names_before, names_in, names_of, outer, resolver}
pub use Rattle.pl0_code.specs.Lines.{Row, row, rows}
pub use Rattle.pl0_code.specs.Rows.{call_declared, call_of, condition_rows, expression_rows, read_declared, read_of, Resolver, statement_rows, step_count, store_declared, store_of}
pub use Rattle.pl0_code.specs.Sizes.{block_length, blocks_length, condition_length, entry, expression_length, procedures_length, statement_length}
pub use Rattle.pl0_code.specs.Usable.{CanBeAssigned, CanBeCalled, CanBeRead, CanDo, CanEvaluate, CanTest, IsFoundTo}
pub use Rattle.pl0_code.specs.declared.scope.Declared.{Declared}
pub use Rattle.pl0_code.specs.declared.scope.Declared.TheVariants.{Constant, Variable}
pub use Rattle.pl0_names.specs.Blocks.{blocks_of, declared_in, found_at, found_in, Names, or_declared}
pub use Rattle.pl0_names.specs.Earlier.{AreDeclaredBefore, home_around, home_before}
pub use Rattle.pl0_names.specs.Numbering.{block_count, numbered_block, numbered_row, numbered_statement, row_count}
pub use Rattle.pl0_names.specs.declared.open_blocks.Found.{Found}
pub use Rattle.pl0_tree.specs.Plain.{joined, plain_block, plain_constant, plain_expression, plain_name, plain_procedure, plain_statement}
pub use Rattle.pl0_tree.proofs.PlainParts.{plain_begin, plain_block_procedures, plain_body, plain_constants, plain_end, plain_variables}
pub use Rattle.pl0_tree.specs.Scope.{AConstant, Allows, AProcedure, AVariable, block_at, body_uses, condition_uses, Declaration, declarations, expression_uses, first_declaration, Home, home, IsAssigned, IsBefore, IsCalled, IsLawful, IsLawfulUse, IsRead, Meaning, Path, procedure_at, statement_uses, Use, use_of, UseKind}
pub use Rattle.pl0_tree.specs.Steps.{block_steps, procedures_steps, statement_steps, lone_step, StepAt, steps}
pub use Rattle.pl0_tree.specs.Tokens.{Token, tokens_of}
pub use Rattle.pl0_tree.specs.Tree.{ABlock, Assign, Binary, Block, body, Call, Compare, Condition, constants, Empty, end, Expression, If, Name, Negate, NoMore, Number, Odd, Procedure, procedure_list, Procedures, procedures, Statement, Then, variables, While, Write}
pub use Rattle.pl0_tree.specs.declared.step.Step.{Step}
pub use Rattle.pl0_tree.specs.declared.tree.Place.{Place}
pub use Rattle.pl0_unit.specs.Code.{cell, Coded, CodedBlock, CodedCondition, CodedExpression, CodedProcedures, CodedStatement, IsSmall, IsUnitOf, Lays, LaysCall, LaysDeclaredCall, LaysDeclaredRead, LaysDeclaredStore, LaysRead, LaysStore, level, Listing, operator_operation, relation_operation}
pub use Rattle.pl0_unit.specs.declared.instruction.Instruction.{Instruction}
pub use Rattle.pl0_unit.specs.declared.instruction.Instruction.TheVariants.{Enter, Jump, JumpIfZero, Literal, Load, Operate, Store}
pub use Rattle.std.proofs.Common.{[], ap, append-nil, append_assoc, arith, Bool, drop, Err, FitsSigned, get_or, Global, inl, inr, length, length-append, List, map, None, Ok, OnOk, Option, refl, Result, rules, Some, subst, suc, sym, take, Vec, w64, zero, ℕ, ◌++◌, ◌+◌, ◌<◌, ◌^◌, ◌∙◌, ◌∷◌, ◌≡◌, ◌≤◌, ◌⊎◌}
pub use Rattle.std.proofs.Math.Logic.{∥∥₁_elim, ∥∥₁_map}
pub use Rattle.std.proofs.lemmas.Grind.{common_steps}
pub use Rattle.std.proofs.lemmas.List.{drop_all, drop_more, length-map, take_all}
pub use Rattle.std.proofs.lemmas.Option.{same_Some, slice_get-get_or, slice_get-map, slice_get_cases}
pub use Rattle.std.specs.Prelude.{find, option_and_then, option_map, pos, slice_get, unwrap_or}
