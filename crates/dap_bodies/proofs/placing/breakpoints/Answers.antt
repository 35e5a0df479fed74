use Rattle.std.proofs.Common.{◌≡◌, codes, subst}
use Rattle.std.specs.Prelude.{IfOk}
use Rattle.serde_json.specs.View.{view}
use Rattle.dap_bodies.specs.Bodies.{body_of, breakpoint_value, plain_shown_breakpoint}
use Rattle.dap_bodies.proofs.Shown.{all_shown}
use Rattle.dap_bodies.proofs.placing.breakpoints.Goals as goal

pub returns : goal.returns
returns c =
    subst (λ d. IfOk c.breakpoints_body.result (λ body. view body ≡ body_of (codes "breakpoints") d))
    (all_shown breakpoint_value plain_shown_breakpoint c.args.all.items _ c.in_ok-list_of.ensures)
    c.breakpoints_body.ensures
