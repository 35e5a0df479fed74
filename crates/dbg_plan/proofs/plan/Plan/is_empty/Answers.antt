use Rattle.std.proofs.Common.{Decides, [], ◌≡◌, subst}
use Rattle.dbg_plan.specs.Plans.{Listed}
use Rattle.dbg_plan.proofs.Sameness.{empty_told}
use Rattle.dbg_plan.proofs.plan.Plan.is_empty.Goals as goal

pub returns-clause-empty : goal.returns-clause-empty
returns-clause-empty c =
    subst (λ (p : Listed). Decides c.is_empty.result (p.breakpoints ≡ [])) c.self.view_is
    (empty_told c.self.inside c.self.invariant c.is_empty.result c.is_empty.ensures)
