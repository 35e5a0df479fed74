use Rattle.std.proofs.Common.{◌∙◌, ap, refl, subst, sym}
use Rattle.dbg_plan.specs.Plans.{IsPlanOf, IsNumbered}
use Rattle.dbg_plan.specs.Debugged.{Debugged}
use Rattle.dbg_plan.proofs.Fresh.{fresh}
use Rattle.dbg_plan.proofs.debuggee.Debuggee.set_plan.Goals as goal

pub invariant_of-self : goal.invariant_of-self
invariant_of-self c =
    fresh c.self.inside c.self.invariant _ refl refl
    (c.next-counted_from.ensures ∙ ap (λ (d : Debugged). d.next) (sym c.self.view_is)) refl
    (subst (λ bs. IsNumbered bs) (sym c.entered.ensures.breakpoints) c.entered.ensures.numbered)
    (c.entered.ensures.fits c.self.inside.machine.unit
    (subst (λ (d : Debugged). IsPlanOf d.unit c.args.plan.value) (sym c.self.view_is) c.requires))
    refl
