use Rattle.dap_wires.proofs.Delivered.{pops}
use Rattle.dap_wires.proofs.order_queue.take.Goals as goal

pub pop_as-requires-clause-rule : goal.pop_as-requires-clause-rule
pop_as-requires-clause-rule g c = (pops _ _ _ c.requires.takes, λ items views h at. tt)
