use Rattle.std.proofs.Common.{◌≡◌, codes, subst}
use Rattle.std.specs.Prelude.{IfOk}
use Rattle.serde_json.specs.View.{view}
use Rattle.dap_bodies.specs.Bodies.{body_of, scope_value, plain_shown_scope}
use Rattle.dap_bodies.proofs.Shown.{all_shown}
use Rattle.dap_bodies.proofs.showing.scopes.Goals as goal

pub returns : goal.returns
returns c =
    subst (λ d. IfOk c.scopes_body.result (λ body. view body ≡ body_of (codes "scopes") d))
    (all_shown scope_value plain_shown_scope c.args.all.items _ c.in_ok-list_of.ensures) c.scopes_body.ensures
