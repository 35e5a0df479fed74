use Rattle.std.proofs.Common.{◌∙◌, ap, refl, sym}
use Rattle.dbg_plan.specs.Debugged.{Debugged}
use Rattle.dbg_plan.proofs.Fresh.{fresh}
use Rattle.dbg_plan.proofs.debuggee.Debuggee.recount.Goals as goal

pub invariant_of-self : goal.invariant_of-self
invariant_of-self c =
    fresh c.self.inside c.self.invariant _ refl refl
    (c.next-counted_from.ensures ∙ ap (λ (d : Debugged). d.next) (sym c.self.view_is)) refl
    c.self.invariant.numbered c.self.invariant.fits refl
