use Rattle.std.proofs.Common.{◌∙◌, ap₂}
use Rattle.dap_bodies.specs.Bodies.{frame_members, plain_shown_frame}
use Rattle.dap_bodies.proofs.showing.StackFrameShown.into_row.Goals as goal

pub returns-clause-value : goal.returns-clause-value
returns-clause-value c =
    c.in_ok-value.ensures
    ∙ ap₂ (λ name path. frame_members (record (plain_shown_frame c.args.self) { name = name; path = path }))
    c.in_ok-shown_text.ensures.text c.in_ok-shown_text-2.ensures.text
