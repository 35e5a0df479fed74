use Rattle.std.proofs.Common.{◌-◌, ◌∙◌, ap, sym, length, slice_get}
use Rattle.dbg_plan.specs.Trail.{greatest}
use Rattle.dbg_plan.specs.Kept.{Kept, positions}
use Rattle.dbg_plan.proofs.Trails.{last_is}
use Rattle.dbg_plan.proofs.trail.Trail.last.Goals as goal

pub returns-in-Some-clause-greatest : goal.returns-in-Some-clause-greatest
returns-in-Some-clause-greatest c =
    let there = sym (ap (λ l. slice_get l (length l - 1)) c.deref.ensures.value) ∙ sym c.in-Some.ensures.value in
    c.position.ensures.position
    ∙ sym (last_is 0 c.self.inside.checkpoints.items c.in-Some.checkpoint.now c.self.invariant.ascending there)
    ∙ ap (λ (k : Kept). greatest (positions k.checkpoints)) c.self.view_is
