-- The checkpoints of a run, and the trail that they make.
use Rattle.std.specs.Prelude.{◌≡◌, ℕ, List, [], ◌∷◌, map}
use Rattle.pl0_unit.specs.declared.unit.Unit.{Unit as Compiled}
use Rattle.pl0_machine.specs.Machine.{Standing}
use Rattle.dbg_plan.specs.Trail.{Trail}

-- where machines stood
pub record Kept : Type 0 where
  pub checkpoints : List Standing
  pub spacing : ℕ

abbrev pub positions : List Standing → List ℕ
positions checkpoints = map (λ c. c.position) checkpoints

abbrev pub trail_at : List Standing → ℕ → Trail
trail_at checkpoints spacing = record { kept = positions checkpoints; spacing = spacing }

abbrev pub trail_of : Kept → Trail
trail_of k = trail_at k.checkpoints k.spacing

-- all are of one program
abbrev pub AreOf : Compiled → List Standing → Type 0
AreOf unit [] = Unit {0}
AreOf unit (c ∷ checkpoints) = (c.unit ≡ unit) × AreOf unit checkpoints
