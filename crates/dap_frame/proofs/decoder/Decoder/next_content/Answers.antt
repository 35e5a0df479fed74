use Rattle.dap_frame.proofs.Common.{ap, IsFrameInFront, subst, sym, ◌++◌, ◌∙◌, ◌≡◌}
use Rattle.dap_frame.specs.Stream.{Stream}
use Rattle.dap_frame.proofs.Feeding.{frames_one_more}
use Rattle.dap_frame.proofs.decoder.Decoder.next_content.Goals as goal

-- the content that is given is that of the frame that was passed
given_frame : (c : goal.After-pass)
    → IsFrameInFront c.args.self.now.rest c.extend_from_slice.new.self.items c.pass.new.self.rest
given_frame c =
    let given : c.extend_from_slice.new.self.items ≡ c.content.result.now =
    c.in_ok-extend_from_slice.ensures.items ∙ ap (λ l. l ++ c.content.result.now) c.new-given.ensures.items in
    subst (λ (s : Stream). IsFrameInFront s.rest c.extend_from_slice.new.self.items c.pass.new.self.rest)
    c.in_ok-front.ensures.same
    (subst (λ l. IsFrameInFront c.front.new.self.rest l c.pass.new.self.rest)
    (sym (given ∙ c.content.ensures)) c.pass.ensures.frame)

pub returns-clause-content : goal.returns-clause-content
returns-clause-content c = (
  given_frame c,
  c.pass.ensures.fault ∙ ap (λ s. s.fault) c.in_ok-front.ensures.same
      ∙ c.in_ok-front.ensures.sound,
)

pub returns-clause-stream : goal.returns-clause-stream
returns-clause-stream c = λ stream contents before.
    frames_one_more stream c.args.self.now.rest c.pass.new.self.rest c.extend_from_slice.new.self.items contents before
    (given_frame c)
