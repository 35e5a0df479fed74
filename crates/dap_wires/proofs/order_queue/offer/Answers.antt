use Rattle.std.proofs.Common.{ap, ◌∙◌}
use Rattle.crossbeam_queue.specs.Passes.{view, ruled_capacity}
use Rattle.dap_wires.proofs.Delivered.{pushes, learns_inside, all_first}
use Rattle.dap_wires.proofs.Filling.{enough_pushed, still_enough}
use Rattle.dap_wires.proofs.order_queue.offer.Goals as goal

pub push_as-requires-clause-rule : goal.push_as-requires-clause-rule
push_as-requires-clause-rule g c = (pushes _ _ _ _ _ c.requires.pushes, learns_inside _ _ _)

pub returns-in-Err-clause-full : goal.returns-in-Err-clause-full
returns-in-Err-clause-full g c =
    let held = c.in-Err.ensures.rule.2 in (
      held.2.0,
      held.0,
      held.2.1 c.requires.pushes ∙ all_first _,
      held.1
          ∙ (ap ruled_capacity c.deref.ensures ∙ c.requires.room),
    )

pub returns-in-Err-clause-many : goal.returns-in-Err-clause-many
returns-in-Err-clause-many g c =
    let held = c.in-Err.ensures.rule.2 in
    let kept = ap (λ v. v.put_first) c.in-Err.ensures.rule.1 in
    enough_pushed (view c.push_as.new.pass).put_first held.2.0 held.0
    (kept ∙ (held.2.1 c.requires.pushes ∙ all_first _))
    (held.1 ∙ (ap ruled_capacity c.deref.ensures ∙ c.requires.room))

pub returns-in-Ok-clause-grows : goal.returns-in-Ok-clause-grows
returns-in-Ok-clause-grows g c = λ was.
    still_enough (view c.args.pass.now).put_first (view c.push_as.new.pass).put_first c.args.order
    (ap (λ v. v.put_first) c.in-Ok.ensures.rule) was
