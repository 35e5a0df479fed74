use Rattle.std.proofs.Common.{◌≡◌, subst}
use Rattle.std.specs.Prelude.{IfOk}
use Rattle.serde_json.specs.View.{view}
use Rattle.dap_bodies.specs.Bodies.{stack_body, frame_value, plain_shown_frame}
use Rattle.dap_bodies.proofs.Shown.{all_shown}
use Rattle.dap_bodies.proofs.showing.stack_trace.Goals as goal

pub returns : goal.returns
returns c =
    subst (λ d. IfOk c.stack_body.result (λ body. view body ≡ stack_body d c.args.total))
    (all_shown frame_value plain_shown_frame c.args.frames.items _ c.in_ok-list_of.ensures) c.stack_body.ensures
