-- How the fields of a trail stand for what contracts see of it.
use Rattle.std.specs.Prelude.{◌<◌, ◌≤◌, ◌^◌, length}
use Rattle.dbg_plan.specs.declared.trail.Trail.TheInside.{Inside}
use Rattle.dbg_plan.specs.Trail.{trail_limit, AreAbove}
use Rattle.dbg_plan.specs.Kept.{Kept, positions}

abbrev pub kept_of : Inside → Kept
kept_of t = record { checkpoints = t.checkpoints.items; spacing = t.spacing }

pub record IsTrail (t : Inside) : Type 0 where
  pub ascending : AreAbove 0 (positions t.checkpoints.items)
  pub few : length t.checkpoints.items ≤ trail_limit
  pub apart : 0 < t.spacing
  pub small : t.spacing < 2 ^ 54
