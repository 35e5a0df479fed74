use Rattle.std.proofs.Common.{◌∙◌, ap, sym, append-nil, [], ◌∷◌, ◌++◌}
use Rattle.dap_wires.specs.Ends.{sender_log}
use Rattle.dap_wires.specs.WriterMessages.{frames_in, kept_in}
use Rattle.dap_wires.proofs.Bundles.{bundle_begins}
use Rattle.dap_wires.proofs.Sending.{frames_keep_open}
use Rattle.dap_wires.proofs.frames.FrameSenderOut.put_last.Goals as goal

pub returns-in-Ok-clause-ok : goal.returns-in-Ok-clause-ok
returns-in-Ok-clause-ok g c =
    let put = (sender_log c.send_kept.new.self.end).put_first in
    let now = (sender_log c.send.new.self).put_first in
    let none = c.send_kept.ensures.none c.if-self.false in
    ap (λ k. frames_in (now ++ kept_in k)) none
    ∙ ap frames_in (append-nil now)
    ∙ ap (λ v. frames_in v.put_first) c.in-Ok.ensures.sent
    ∙ bundle_begins put c.of.result c.args.frame.items c.of.ensures.frames
    ∙ ap (λ l. l ++ c.args.frame.items ∷ [])
    (ap (λ k. frames_in (put ++ kept_in k)) (sym none) ∙ ap (λ s. s.frames) c.send_kept.ensures.seen)

pub invariant_of-self : goal.invariant_of-self
invariant_of-self g c =
    let old = c.send_kept.new.self in
    let kept = frames_keep_open c.send.result _ _ c.of.result c.send.ensures.sent c.send.ensures.refused old.puts
    old.«open» in
    record {
      puts = kept.0;
      room = c.send.ensures.room ∙ old.room;
      «open» = kept.1;
      gone = old.gone;
    }
