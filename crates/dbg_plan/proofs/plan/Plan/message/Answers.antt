use Rattle.std.proofs.Common.{◌∙◌, ap, sym, Some, None, option_map, rules, tests}
use Rattle.std.specs.Prelude.{find}
use Rattle.std.proofs.lemmas.Iterator.{YieldsList-from_slice}
use Rattle.std.proofs.lemmas.Iterator.Search.{find_from_yields_List}
use Rattle.dbg_plan.specs.Breakpoints.{plain_breakpoints}
use Rattle.dbg_plan.specs.Plans.{Listed, parts_at}
use Rattle.dbg_plan.proofs.ByNumber.{has, parts_found}
use Rattle.dbg_plan.proofs.plan.Plan.message.Goals as goal

pub returns-in-Some : goal.returns-in-Some
returns-in-Some c =
    let found =
    find_from_yields_List (has c.args.number) _ _ c.find.result c.find.ensures.ran
    (YieldsList-from_slice c.deref.result.now c.iter.ensures.rest) (λ x b q k. search (rules, tests)) in
    c.parts_of.ensures
    ∙ parts_found c.self.inside c.self.invariant c.args.number (Some c.in-Some.breakpoint.now)
    (ap (λ l. find (has c.args.number) l) (sym c.deref.ensures.value) ∙ sym found
    ∙ ap (λ o. option_map (λ x. x.now) o) c.in-Some.is)
    ∙ ap (λ (p : Listed). parts_at (plain_breakpoints p.breakpoints) c.args.number) c.self.view_is

pub returns-in-None : goal.returns-in-None
returns-in-None c =
    let found =
    find_from_yields_List (has c.args.number) _ _ c.find.result c.find.ensures.ran
    (YieldsList-from_slice c.deref.result.now c.iter.ensures.rest) (λ x b q k. search (rules, tests)) in
    parts_found c.self.inside c.self.invariant c.args.number None
    (ap (λ l. find (has c.args.number) l) (sym c.deref.ensures.value) ∙ sym found
    ∙ ap (λ o. option_map (λ x. x.now) o) c.in-None.is)
    ∙ ap (λ (p : Listed). parts_at (plain_breakpoints p.breakpoints) c.args.number) c.self.view_is
