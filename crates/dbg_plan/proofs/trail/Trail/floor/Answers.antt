use Rattle.std.proofs.Common.{◌≡◌, ◌∙◌, ap, sym, subst, Option, Some, None, ℕ, nat_le, List, Bor}
use Rattle.std.specs.Prelude.{MatchOption, IfSome, option_map, reverse}
use Rattle.std.specs.List.{find}
use Rattle.pl0_unit.specs.declared.unit.Unit.{Unit as Compiled}
use Rattle.pl0_machine.specs.Machine.{Standing}
use Rattle.pl0_machine.specs.declared.checkpoint.Checkpoint.{Checkpoint}
use Rattle.dbg_plan.specs.Trail.{floor_of, AreAbove}
use Rattle.dbg_plan.specs.Kept.{Kept, positions, AreOf}
use Rattle.dbg_plan.proofs.Trails.{floors, IsFloor}
use Rattle.dbg_plan.proofs.trail.Trail.floor.Goals as goal
use Rattle.dbg_plan.proofs.trail.Trail.floor.Goals.{After-last_until}

-- what was found is the floor
module _ (n : ℕ) (cs : List Standing) (h : AreAbove 0 (positions cs)) where
  known : (o : Option Standing) → o ≡ find (λ c. nat_le c.position n) (reverse cs)
      → MatchOption o (floor_of (positions cs) n ≡ 0) (λ c. IsFloor 0 n cs c)
  known o e =
      subst (λ p. MatchOption p (floor_of (positions cs) n ≡ 0) (λ c. IsFloor 0 n cs c)) (sym e) (floors 0 n cs h)

  is_floor : (r : Option (Bor Checkpoint)) → option_map (λ b. b.now) r ≡ find (λ c. nat_le c.position n) (reverse cs)
      → MatchOption r (floor_of (positions cs) n ≡ 0) (λ b. b.now.position ≡ floor_of (positions cs) n)
  is_floor None e = known None e
  is_floor (Some b) e = (known (Some b.now) e).is

  is_of : (u : Compiled) → AreOf u cs → (r : Option (Bor Checkpoint))
      → option_map (λ b. b.now) r ≡ find (λ c. nat_le c.position n) (reverse cs) → IfSome r (λ b. b.now.unit ≡ u)
  is_of u all None e = tt
  is_of u all (Some b) e = (known (Some b.now) e).of u all

found : (c : After-last_until) → option_map (λ b. b.now) c.last_until.result ≡ find
    (λ k. nat_le k.position c.args.position) (reverse c.self.inside.checkpoints.items)
found c =
    c.last_until.ensures ∙ ap (λ l. find (λ k. nat_le k.position c.args.position) (reverse l)) c.deref.ensures.value

pub returns-clause-floor : goal.returns-clause-floor
returns-clause-floor c =
    subst (λ (k : Kept). MatchOption c.last_until.result (floor_of (positions k.checkpoints) c.args.position ≡ 0)
    (λ b. b.now.position ≡ floor_of (positions k.checkpoints) c.args.position)) c.self.view_is
    (is_floor c.args.position c.self.inside.checkpoints.items c.self.invariant.ascending c.last_until.result
    (found (goal.at.returns-clause-floor c).After-last_until))

pub returns-clause-unit : goal.returns-clause-unit
returns-clause-unit c = λ unit all.
    is_of c.args.position c.self.inside.checkpoints.items c.self.invariant.ascending unit
    (subst (λ (k : Kept). AreOf unit k.checkpoints) (sym c.self.view_is) all) c.last_until.result
    (found (goal.at.returns-clause-unit c).After-last_until)
