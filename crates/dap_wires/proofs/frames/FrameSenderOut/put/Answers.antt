use Rattle.std.proofs.Common.{◌∙◌, ap, sym, [], ◌∷◌, ◌++◌}
use Rattle.dap_wires.specs.Ends.{sender_log}
use Rattle.dap_wires.specs.WriterMessages.{frames_in, kept_in}
use Rattle.dap_wires.proofs.Bundles.{bundle_begins}
use Rattle.dap_wires.proofs.frames.FrameSenderOut.put.Goals as goal

pub returns-clause-ok : goal.returns-clause-ok
returns-clause-ok g c =
    let put = (sender_log c.send_kept.new.self.end).put_first in
    bundle_begins put c.of.result c.args.frame.items c.of.ensures.frames
    ∙ ap (λ l. l ++ c.args.frame.items ∷ [])
    (ap (λ k. frames_in (put ++ kept_in k)) (sym (c.send_kept.ensures.none c.if-self.false))
    ∙ ap (λ s. s.frames) c.send_kept.ensures.seen ∙ ap (λ s. s.frames) (c.add.ensures.full c.if-add.false))
