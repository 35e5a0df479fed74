use Rattle.pl0_code.proofs.Common.{[], ap, call_of, CanBeCalled, IsFoundTo, names_in, plain_name, row, Some, subst, sym, ◌++◌, ◌∙◌, ◌∷◌}
use Rattle.pl0_code.proofs.Successes.{on_ok}
use Rattle.pl0_code.proofs.emit.Emitter.call.Goals as goal

pub call_to-requires : goal.call_to-requires
call_to-requires c =
    let r = names_in c.args.open_blocks.now in
    subst (λ o. IsFoundTo CanBeCalled o) (sym (c.find-found.ensures ∙ ap r c.as_str.ensures.value)) c.requires

pub returns : goal.returns
returns c =
    let r = names_in c.args.open_blocks.now in
    let l0 = c.args.self.now.listing in
    let taken = c.in_ok-step.ensures in
    let n = c.in_ok-step.step in
    let call = c.call_to.ensures ∙ ap call_of (c.find-found.ensures ∙ ap r c.as_str.ensures.value) in
    on_ok c.put.result c.put.ensures (λ put. record {
      listing =
          put ∙
          ap (λ l. l ++ row c.call_to.result (Some n) ∷ []) taken.listing ∙
          ap (λ j. l0 ++ row j (Some n) ∷ []) call ∙
          ap (λ k. l0 ++ row (call_of (r (plain_name c.args.procedure.now).word)) (Some k) ∷ []) taken.number;
      table = taken.table;
      ended = taken.ended;
    })
