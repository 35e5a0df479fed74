use Rattle.std.proofs.Common.{ap}
use Rattle.dap_wires.proofs.Delivered.{begins, forks_first}
use Rattle.dap_wires.proofs.channels.channel_of_one.Goals as goal

pub bounded_with-requires-clause-rule : goal.bounded_with-requires-clause-rule
bounded_with-requires-clause-rule g c = begins _

pub another-only-requires-clause-rule : goal.another-only-requires-clause-rule
another-only-requires-clause-rule g c = forks_first _ _ _ (ap (λ v. v.first) c.in_ok-sender.ensures.3)
