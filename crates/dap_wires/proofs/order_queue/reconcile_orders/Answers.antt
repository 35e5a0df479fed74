use Rattle.std.proofs.Common.{ap, ◌∙◌, sym, ◌++◌, map}
use Rattle.std.proofs.lemmas.List.{map-append}
use Rattle.dbg_runner.specs.Orders.{plain_order}
use Rattle.dap_wires.proofs.Delivered.{merges_first, learns_whole, all_first}
use Rattle.dap_wires.proofs.order_queue.reconcile_orders.Goals as goal

pub absorb-requires-clause-rule : goal.absorb-requires-clause-rule
absorb-requires-clause-rule g c = merges_first _ _ _ _ _ c.args.session.pushes

pub learn_as-requires-clause-rule : goal.learn_as-requires-clause-rule
learn_as-requires-clause-rule g c =
    learns_whole _ _ _ (ap (λ v. v.first) c.absorb.ensures.rule)
    (ap (λ v. v.second) c.absorb.ensures.rule ∙ c.args.runner.joins)
    (ap (λ v. v.takes) c.absorb.ensures.rule ∙ c.args.runner.takes)

pub returns-clause-taken : goal.returns-clause-taken
returns-clause-taken g c =
    let known = c.learn_as.ensures.rule in
    let view = c.absorb.ensures.rule in
    let all = sym (ap (λ v. v.put_first) view) ∙ (known.1.0 ∙ (all_first _ ∙ ap (λ v. v.taken ++ known.0) view)) in
    (map plain_order known.0, sym (map-append plain_order _ known.0) ∙ ap (map plain_order) (sym all))

pub returns-clause-full : goal.returns-clause-full
returns-clause-full g c = c.args.session.full
