use Rattle.pl0_tool.proofs.Common.{subst, ◌++◌}
use Rattle.pl0_tool.specs.Traced.{IsRowOf}
use Rattle.pl0_tool.proofs.PendingBytes.{holds_more}
use Rattle.pl0_tool.proofs.tracing.tell_row.Goals as goal

pub returns-in-Ok-clause-told : goal.returns-in-Ok-clause-told
returns-in-Ok-clause-told g c =
    let text = c.in_ok-put_row.ensures.0 in (
      text,
      subst (λ p. IsRowOf p text) c.in_ok-row.ensures.0.position c.in_ok-put_row.ensures.1,
      c.in_ok-row.ensures.1,
      λ first table held. c.in-Ok.ensures.held first (table ++ text)
          (holds_more first _ _ _ table text c.in_ok-put_row.ensures.2 held),
    )

pub returns-clause-told : goal.returns-clause-told
returns-clause-told g c =
    let text = c.in_ok-put_row.ensures.0 in (
      text,
      subst (λ p. IsRowOf p text) c.in_ok-row.ensures.0.position c.in_ok-put_row.ensures.1,
      λ first table held. c.in-Err.ensures.held first (table ++ text)
          (holds_more first _ _ _ table text c.in_ok-put_row.ensures.2 held),
    )
