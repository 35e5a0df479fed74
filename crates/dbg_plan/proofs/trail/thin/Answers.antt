use Rattle.std.proofs.Common.{◌∙◌, arith}
use Rattle.dbg_plan.proofs.Trails.{thins}
use Rattle.dbg_plan.proofs.trail.thin.Goals as goal

pub loop-place-preserved : goal.loop-place-preserved
loop-place-preserved c =
    let turn = c.loop-place.invariant in
    let test = c.loop-place-test.true in
    record {
      thinning =
          thins c.args.checkpoints.now.items c.loop-place.checkpoints.items c.remove-given_up.new.self.items
          c.loop-place.place turn.thinning (omega (arith, c.len-place-end.ensures))
          c.remove-given_up.ensures.by_index.2;
      capacity = c.remove-given_up.ensures.capacity ∙ turn.capacity;
    }
