use Rattle.std.proofs.Common.{Decides, ◌≡◌, map, subst}
use Rattle.dbg_plan.specs.Breakpoints.{plain_breakpoints}
use Rattle.dbg_plan.specs.Plans.{Listed}
use Rattle.dbg_plan.specs.Table.{listed, numbered_of}
use Rattle.dbg_plan.proofs.Sameness.{plans_told}
use Rattle.dbg_plan.proofs.plan.Plan.same.Goals as goal

pub returns : goal.returns
returns c =
    let r = c.same_breakpoints.result in
    let one =
    subst (λ l. Decides r (map numbered_of l ≡ map numbered_of c.deref-2.result.now)) c.deref.ensures.value
    c.same_breakpoints.ensures in
    let both =
    subst (λ l. Decides r (map numbered_of c.self.inside.ordered.items ≡ map numbered_of l)) c.deref-2.ensures.value
    one in
    let told = plans_told c.self.inside c.other.inside c.self.invariant c.other.invariant r both in
    let mine =
    subst (λ (p : Listed). Decides r (plain_breakpoints p.breakpoints ≡ plain_breakpoints
    (listed c.other.inside).breakpoints)) c.self.view_is told in
    subst (λ (p : Listed). Decides r (plain_breakpoints c.args.self.now.breakpoints ≡ plain_breakpoints p.breakpoints))
    c.other.view_is mine
