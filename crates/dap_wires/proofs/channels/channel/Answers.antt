use Rattle.std.proofs.Common.{ap, ◌∙◌}
use Rattle.dap_wires.proofs.Delivered.{begins, forks_first, forks_second}
use Rattle.dap_wires.proofs.channels.channel.Goals as goal

pub bounded_with-requires-clause-rule : goal.bounded_with-requires-clause-rule
bounded_with-requires-clause-rule g c = begins _

pub another-first-requires-clause-rule : goal.another-first-requires-clause-rule
another-first-requires-clause-rule g c = forks_first _ _ _ (ap (λ v. v.first) c.in_ok-sender.ensures.3)

pub another-second-requires-clause-rule : goal.another-second-requires-clause-rule
another-second-requires-clause-rule g c =
    forks_second _ _ _ (ap (λ v. v.second) c.another-first.ensures.rule.0 ∙ ap (λ v. v.second) c.in_ok-sender.ensures.3)
