use Rattle.std.proofs.Common.{inl, ap, sym, subst, ◌∙◌, ◌≡◌, ◌++◌, false, append-nil}
use Rattle.std.specs.Prelude.{◌⊎◌}
use Rattle.dap_wires.specs.Ends.{sender_log}
use Rattle.dap_wires.specs.WriterMessages.{frames_in, kept_in, has_end, AreEnded}
use Rattle.dap_wires.proofs.Bundles.{kept_keeps_open}
use Rattle.dap_wires.proofs.Sending.{finish_ends, finish_keeps, frames_append}
use Rattle.dap_wires.proofs.frame_ends.FrameSender.end.Goals as goal

pub returns-then-is_gone-clause-put : goal.returns-then-is_gone-clause-put
returns-then-is_gone-clause-put g c =
    inl (kept_keeps_open (sender_log c.args.self.end).put_first c.args.self.kept c.args.self.«open»)

pub returns-then-is_gone-clause-refused : goal.returns-then-is_gone-clause-refused
returns-then-is_gone-clause-refused g c = λ _.
    kept_keeps_open (sender_log c.args.self.end).put_first c.args.self.kept c.args.self.«open»

pub returns-clause-put : goal.returns-clause-put
returns-clause-put g c =
    let new = (sender_log c.send.new.self).put_first in
    subst (λ l. (has_end l ≡ false) ⊎ AreEnded l)
    (sym (ap (λ k. new ++ kept_in k) (c.requires c.if-is_gone.false) ∙ append-nil new))
    (finish_ends c.send.result _ _ c.send.ensures.sent c.send.ensures.refused c.args.self.«open»)

pub returns-clause-frames : goal.returns-clause-frames
returns-clause-frames g c =
    let kept = kept_in c.args.self.kept in
    frames_append (sender_log c.send.new.self).put_first kept
    ∙ ap (λ l. l ++ frames_in kept) (finish_keeps c.send.result _ _ c.send.ensures.sent c.send.ensures.refused)
    ∙ sym (frames_append (sender_log c.args.self.end).put_first kept)
