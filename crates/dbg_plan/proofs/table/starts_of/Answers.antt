use Rattle.std.proofs.Common.{ap, ◌∙◌, ◌++◌, ◌∷◌, []}
use Rattle.dbg_plan.proofs.Parts.{begins, goes_on}
use Rattle.dbg_plan.proofs.table.starts_of.Goals as goal

pub loop-step-init : goal.loop-step-init
loop-step-init c =
    begins c.args.ordered.now c.push.new.self.items c.requires.ordered
    (c.in_ok-push.ensures.items ∙ ap (λ l. l ++ 0 ∷ []) c.in_ok-starts.ensures.items)

pub loop-step-preserved : goal.loop-step-preserved
loop-step-preserved c =
    goes_on c.args.ordered.now c.loop-step.step c.loop-step.starts.items c.loop-step.start _ _ c.loop-step.invariant
    c.end_of-start.ensures c.in_ok-push-2.ensures.items
