use Rattle.std.proofs.Common.{◌∙◌, ap}
use Rattle.dap_wires.specs.Ends.{sender_log}
use Rattle.dap_wires.specs.WriterMessages.{has_end}
use Rattle.dap_wires.proofs.Sending.{frame_keeps_open}
use Rattle.dap_wires.proofs.frame_ends.FrameSender.send_kept.Goals as goal

pub invariant_of-self-in-Ok : goal.invariant_of-self-in-Ok
invariant_of-self-in-Ok g c =
    let sent = c.in-Ok.ensures.sent in
    record {
      puts = ap (λ v. v.first) sent ∙ c.args.self.now.puts;
      room = c.in-Ok.ensures.room ∙ c.args.self.now.room;
      «open» = ap (λ v. has_end v.put_first) sent ∙ frame_keeps_open (sender_log c.args.self.now.end).put_first
          c.in-Some.bundle c.args.self.now.«open»;
      gone = c.args.self.now.gone;
    }
