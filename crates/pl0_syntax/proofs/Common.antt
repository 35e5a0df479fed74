-- What several lemma files import, from the libraries and from the definitions.
pub use Rattle.pl0_names.specs.FirstFault.{IsFirstAsRead}
pub use Rattle.pl0_tree.specs.Ascending.{Ascend}
pub use Rattle.pl0_tree.specs.Faults.{FaultIs, IsConditionNameFault, IsConditionOf, IsExpressionNameFault, IsExpressionOf, IsFirstConditionFault, IsFirstExpressionFault, IsFirstFault, IsFirstIn, IsFirstOf, IsNameFault, IsNameFaultOutside, IsReadAs, IsTokenFault, IsTreeOf, limit, order}
pub use Rattle.pl0_tree.specs.Plain.{plain_block}
pub use Rattle.pl0_tree.specs.Reading.{IsText, Reading, ReadsConditionText, ReadsExpressionText, ReadsProgram}
pub use Rattle.pl0_tree.specs.Scope.{Allows, AreLawfulOutside, condition_uses, declarations, expression_uses, Home, IsBefore, IsLawful, Path, Use}
pub use Rattle.pl0_tree.proofs.SharedLemmas.{handed_on, steps_length}
pub use Rattle.pl0_tree.specs.Steps.{AreSteps, blocks, step_path, StepAt, steps}
pub use Rattle.pl0_tree.specs.Tokens.{start_place, symbols, Token, tokens_of}
pub use Rattle.pl0_tree.specs.Tree.{Block, Condition, Expression}
pub use Rattle.pl0_tree.specs.declared.fault.FaultKind.TheVariants.{TooEarly, TooLong, TooManyNames, Twice, Unknown, WrongKind}
pub use Rattle.pl0_tree.specs.declared.tree.Place.{Place}
pub use Rattle.std.proofs.Common.{[], ap, arith, get_or, inl, inr, length, List, map, Option, refl, rules, Some, subst, suc, sym, zero, ℕ, ◌<◌, ◌∙◌, ◌∷◌, ◌≡◌, ◌≤◌, ◌⊎◌}
pub use Rattle.std.proofs.lemmas.Option.{none-some, same_Some, slice_get-get_or, slice_get_within}
