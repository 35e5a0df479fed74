use Rattle.std.proofs.Common.{ap, ◌∙◌}
use Rattle.dap_reader.specs.Delivery.{is_taker}
use Rattle.dap_reader.proofs.Delivered.{pops}
use Rattle.dap_reader.proofs.arrivals.ArrivalsInbox.next.Goals as goal

pub recv_as-requires-clause-rule : goal.recv_as-requires-clause-rule
recv_as-requires-clause-rule g c =
    (pops _ _ (ap is_taker c.loop.invariant.1 ∙ c.args.self.now.takes), λ items views h at. tt)
