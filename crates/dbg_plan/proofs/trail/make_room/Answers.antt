use Rattle.std.proofs.Common.{◌*◌, ◌<◌, length, ap, sym, subst, ◌∙◌, arith}
use Rattle.dbg_plan.specs.Trail.{trail_limit, AreAbove}
use Rattle.dbg_plan.specs.Kept.{positions, trail_at, AreOf}
use Rattle.dbg_plan.proofs.Trails.{makes_room, odd_room, odd_all, odd_ascending}
use Rattle.dbg_plan.proofs.trail.make_room.Goals as goal

pub returns-clause-trail : goal.returns-clause-trail
returns-clause-trail c =
    let ok = c.args.checkpoints.now.ok in
    ap (λ l. trail_at l (c.args.spacing * 2)) c.thin.ensures.thinned
    ∙ makes_room c.args.checkpoints.now.items c.args.spacing
    (omega (arith, c.if-len-lt-TRAIL_LIMIT.false, c.len.ensures, ok.0))

pub returns-clause-units : goal.returns-clause-units
returns-clause-units c =
    λ unit all. subst (λ l. AreOf unit l) (sym c.thin.ensures.thinned) (odd_all unit c.args.checkpoints.now.items all)

pub returns-clause-ascending : goal.returns-clause-ascending
returns-clause-ascending c =
    λ h. subst (λ l. AreAbove 0 (positions l)) (sym c.thin.ensures.thinned)
    (odd_ascending c.args.checkpoints.now.items h)

pub returns-clause-room : goal.returns-clause-room
returns-clause-room c =
    subst (λ l. length l < trail_limit) (sym c.thin.ensures.thinned)
    (odd_room c.args.checkpoints.now.items c.requires.few)

pub returns-clause-fewer : goal.returns-clause-fewer
returns-clause-fewer c =
    let before = c.args.checkpoints.now.ok in
    let after = c.thin.new.checkpoints.ok in
    omega (
      arith,
      ap length c.thin.ensures.thinned,
      odd_room c.args.checkpoints.now.items c.requires.few,
      c.if-len-lt-TRAIL_LIMIT.false,
      c.len.ensures,
      before.0,
      after.0,
    )
