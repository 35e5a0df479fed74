use Rattle.std.proofs.Common.{◌≡◌, ◌∙◌, ◌∷◌, [], length, ap, sym, subst, arith, length-append}
use Rattle.pl0_machine.specs.Machine.{Standing}
use Rattle.dbg_plan.specs.Trail.{AreAbove}
use Rattle.dbg_plan.specs.Kept.{Kept, positions, trail_at, trail_of, AreOf}
use Rattle.dbg_plan.specs.KeptFields.{IsTrail}
use Rattle.dbg_plan.proofs.Trails.{asked, pushed_above, pushed_of}
use Rattle.dbg_plan.proofs.trail.Trail.keep.Goals as goal
use Rattle.dbg_plan.proofs.trail.Trail.keep.Goals.{After-make_room-self-inside}

-- the trail with room for one more
roomy : (c : After-make_room-self-inside) → IsTrail
    (record { checkpoints = c.make_room-self-inside.new.checkpoints; spacing = c.make_room-self-inside.result })
roomy c =
    let room = c.make_room-self-inside.ensures in
    let past = asked (trail_of c.args.self.now) c.position-position.result (sym c.if-not-asks.ensures) in
    let bounded = c.position-position.ensures.bounded in
    let was = c.self.invariant in
    record {
      ascending =
          room.ascending (subst (λ l. AreAbove 0 (positions l)) (sym c.in_ok-reserve.ensures.items) was.ascending);
      few = omega (arith, room.room);
      apart = omega (arith, was.apart, room.spacing.0);
      small = omega (arith, past, bounded, room.spacing.1, ap (λ (k : Kept). k.spacing) c.self.view_is);
    }

units : (c : After-make_room-self-inside) → AreOf c.args.machine.now.unit c.make_room-self-inside.new.checkpoints.items
units c =
    let u = c.args.machine.now.unit in
    c.make_room-self-inside.ensures.units u
    (subst (λ l. AreOf u l) (sym c.in_ok-reserve.ensures.items)
    (subst (λ (k : Kept). AreOf u k.checkpoints) (sym c.self.view_is) c.requires))

pub invariant_of-self-2 : goal.invariant_of-self-2
invariant_of-self-2 c = roomy (goal.at.invariant_of-self-2 c).After-make_room-self-inside

pub push_reserved-requires : goal.push_reserved-requires
push_reserved-requires c =
    let room = c.make_room-self-inside.ensures in
    omega (arith, c.in_ok-reserve.ensures.ok, c.in_ok-reserve.ensures.len, room.fewer, room.capacity)

pub invariant_of-self-then-asks : goal.invariant_of-self-then-asks
invariant_of-self-then-asks c =
    let before = roomy (goal.at.invariant_of-self-then-asks c).After-make_room-self-inside in
    let mid = c.make_room-self-inside.new.checkpoints.items in
    let spacing = c.make_room-self-inside.result in
    let here : c.in_ok-checkpoint.checkpoint.position ≡ c.position-position.result =
    ap (λ (m : Standing). m.position) c.in_ok-checkpoint.ensures ∙ sym c.position-position.ensures.position in
    let past = asked (trail_at mid spacing) c.position-position.result (sym c.if-asks.ensures) in
    record {
      ascending =
          subst (λ l. AreAbove 0 (positions l)) (sym c.push_reserved.ensures.items)
          (pushed_above mid c.in_ok-checkpoint.checkpoint spacing before.ascending before.apart
          (omega (arith, past, here)));
      few = omega (
        arith,
        ap length c.push_reserved.ensures.items,
        length-append mid
            (c.in_ok-checkpoint.checkpoint ∷ []),
        c.make_room-self-inside.ensures.room,
      );
      apart = before.apart;
      small = before.small;
    }

pub invariant_of-self-else-asks : goal.invariant_of-self-else-asks
invariant_of-self-else-asks c = roomy (goal.at.invariant_of-self-else-asks c).After-make_room-self-inside

pub returns-then-asks-clause-units : goal.returns-then-asks-clause-units
returns-then-asks-clause-units c =
    subst (λ l. AreOf c.args.machine.now.unit l) (sym c.push_reserved.ensures.items)
    (pushed_of c.args.machine.now.unit c.make_room-self-inside.new.checkpoints.items c.in_ok-checkpoint.checkpoint
    (units (goal.at.returns-then-asks-clause-units c).After-make_room-self-inside)
    (ap (λ (m : Standing). m.unit) c.in_ok-checkpoint.ensures))

pub returns-else-asks-clause-units : goal.returns-else-asks-clause-units
returns-else-asks-clause-units c = units (goal.at.returns-else-asks-clause-units c).After-make_room-self-inside
