use Rattle.std.proofs.Common.{ap}
use Rattle.dap_wires.proofs.Delivered.{begins, forks_first}
use Rattle.dap_wires.proofs.order_queue.orders.Goals as goal

pub ruled-requires-clause-rule : goal.ruled-requires-clause-rule
ruled-requires-clause-rule g c = begins _

pub another-first-requires-clause-rule : goal.another-first-requires-clause-rule
another-first-requires-clause-rule g c = forks_first _ _ _ (ap (λ v. v.first) c.in_ok-queue.ensures.3)
