use Rattle.std.proofs.Common.{◌≡◌, vec_capacity}
use Rattle.dbg_plan.proofs.Trails.{Thinning}
use Rattle.dbg_plan.proofs.trail.thin.Given as goal

abbrev pub invariant-loop-place : goal.invariant-loop-place
invariant-loop-place l = record {
  thinning : Thinning l.initial.checkpoints.items l.checkpoints.items l.place;
  capacity : vec_capacity l.checkpoints ≡ vec_capacity l.initial.checkpoints;
}
