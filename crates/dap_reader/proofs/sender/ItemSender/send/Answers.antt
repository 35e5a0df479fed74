use Rattle.std.proofs.Common.{sym, subst}
use Rattle.crossbeam_channel.specs.Claims.{view}
use Rattle.dap_server.specs.Inbox.{plain_item}
use Rattle.dap_reader.specs.Delivery.{through, Comes}
use Rattle.dap_reader.proofs.Delivered.{pushes}
use Rattle.dap_reader.proofs.sender.ItemSender.send.Goals as goal

pub send_as-requires-clause-rule : goal.send_as-requires-clause-rule
send_as-requires-clause-rule g c = (
  pushes _ _ _ _ _ c.args.self.now.sends
      (subst (λ s. Comes (through (view c.args.self.now.pass)) (plain_item c.args.item) s) (sym c.requires.reached)
      c.requires.given),
  λ items views h at. tt,
)
