use Rattle.std.proofs.Common.{ap, sym, ◌∙◌, ◌++◌, ◌∷◌, [], map}
use Rattle.dap_wires.specs.Ends.{sender_log}
use Rattle.dap_wires.specs.WriterMessages.{frames_in, kept_in}
use Rattle.dap_wires.proofs.Bundles.{bundle_grows, bundle_stays}
use Rattle.dap_wires.proofs.frame_ends.FrameSender.add.Goals as goal

pub returns-in-Some-clause-added : goal.returns-in-Some-clause-added
returns-in-Some-clause-added g c = λ yes.
    let put = (sender_log c.args.self.now.end).put_first in
    ap (λ l. record { frames = l; refused = map (λ f. f.items) c.args.self.now.refused.entries })
    (bundle_grows put c.in-Some.bundle c.add.new.self c.args.frame.now.items (c.add.ensures.added yes)
    ∙ ap (λ k. frames_in (put ++ kept_in k) ++ c.args.frame.now.items ∷ []) (sym c.in-Some.is))

pub returns-in-Some-clause-full : goal.returns-in-Some-clause-full
returns-in-Some-clause-full g c = λ no.
    let put = (sender_log c.args.self.now.end).put_first in
    ap (λ l. record { frames = l; refused = map (λ f. f.items) c.args.self.now.refused.entries })
    (bundle_stays put c.in-Some.bundle c.add.new.self (c.add.ensures.full no)
    ∙ ap (λ k. frames_in (put ++ kept_in k)) (sym c.in-Some.is))
