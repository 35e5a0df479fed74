use Rattle.std.proofs.Common.{◌≡◌, codes, subst}
use Rattle.std.specs.Prelude.{IfOk}
use Rattle.serde_json.specs.View.{view}
use Rattle.dap_bodies.specs.Bodies.{body_of, variable_value, plain_shown_variable}
use Rattle.dap_bodies.proofs.Shown.{all_shown}
use Rattle.dap_bodies.proofs.showing.variables.Goals as goal

pub returns : goal.returns
returns c =
    subst (λ d. IfOk c.variables_body.result (λ body. view body ≡ body_of (codes "variables") d))
    (all_shown variable_value plain_shown_variable c.args.all.items _ c.in_ok-list_of.ensures) c.variables_body.ensures
