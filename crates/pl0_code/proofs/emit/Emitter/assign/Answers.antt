use Rattle.pl0_code.proofs.Common.{[], ap, append_assoc, CanBeAssigned, expression_rows, IsFoundTo, length, names_in, None, plain_expression, plain_name, row, Some, store_of, subst, sym, ◌++◌, ◌∙◌, ◌∷◌}
use Rattle.pl0_code.proofs.Successes.{on_ok}
use Rattle.pl0_code.proofs.emit.Emitter.assign.Goals as goal

pub store_to-requires : goal.store_to-requires
store_to-requires c =
    let r = names_in c.args.open_blocks.now in
    subst (λ o. IsFoundTo CanBeAssigned o) (sym (c.find-found.ensures ∙ ap r c.as_str.ensures.value)) c.requires.0

pub returns : goal.returns
returns c =
    let r = names_in c.args.open_blocks.now in
    let l0 = c.args.self.now.listing in
    let taken = c.in_ok-step.ensures in
    let e = plain_expression c.args.value.now in
    let value = expression_rows r e (Some (length c.args.self.now.steps.items)) in
    let i = c.store_to.result in
    let store = c.store_to.ensures ∙ ap store_of (c.find-found.ensures ∙ ap r c.as_str.ensures.value) in
    on_ok c.put.result c.put.ensures (λ put. record {
      listing =
          put ∙
          ap (λ l. l ++ row i None ∷ []) c.in_ok-emit_expression.ensures ∙
          ap (λ n. (c.step.new.self.listing ++ expression_rows r e (Some n)) ++ row i None ∷ []) taken.number ∙
          ap (λ l. (l ++ value) ++ row i None ∷ []) taken.listing ∙
          ap (λ j. (l0 ++ value) ++ row j None ∷ []) store ∙
          append_assoc l0 value (row (store_of (r (plain_name c.args.target.now).word)) None ∷ []);
      table = taken.table;
      ended = taken.ended;
    })
