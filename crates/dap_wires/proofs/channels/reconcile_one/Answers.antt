use Rattle.std.proofs.Common.{ap, ◌∙◌}
use Rattle.dap_wires.proofs.Delivered.{merges_first, learns_whole}
use Rattle.dap_wires.proofs.channels.reconcile_one.Goals as goal

pub absorb-requires-clause-rule : goal.absorb-requires-clause-rule
absorb-requires-clause-rule g c = merges_first _ _ _ _ _ c.requires.first

pub learn_as-requires-clause-rule : goal.learn_as-requires-clause-rule
learn_as-requires-clause-rule g c =
    learns_whole _ _ _ (ap (λ v. v.first) c.absorb.ensures.rule)
    (ap (λ v. v.second) c.absorb.ensures.rule ∙ c.requires.second)
    (ap (λ v. v.takes) c.absorb.ensures.rule ∙ c.requires.receiver)
