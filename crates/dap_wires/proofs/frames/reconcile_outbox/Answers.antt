use Rattle.dap_wires.specs.Ends.{sender_log}
use Rattle.dap_wires.specs.Outbox.{messages_received}
use Rattle.dap_wires.specs.WriterMessages.{kept_in}
use Rattle.dap_wires.proofs.Sending.{messages_begin}
use Rattle.dap_wires.proofs.frames.reconcile_outbox.Goals as goal

pub returns : goal.returns
returns g c =
    record {
      taken = messages_begin (sender_log c.args.frames.end).put_first (kept_in c.args.frames.kept)
          (messages_received c.args.log) c.reconcile_one.ensures.0
          c.reconcile_one.ensures.1;
    }
