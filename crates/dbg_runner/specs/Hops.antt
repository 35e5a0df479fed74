-- The steps that a run which goes back runs again.
use Rattle.std.specs.Prelude.{ℕ, ◌+◌, Option}
use Rattle.dbg_plan.specs.Debugged.{Debugged, debugged_program}
use Rattle.dbg_plan.specs.Retreat.{last_due}
use Rattle.dbg_plan.specs.Trail.{floor_of}

-- the debuggee at position p, considered there, with a plan that counts from position t
abbrev pub moved : Debugged → ℕ → ℕ → Debugged
moved d p t = record d { position = p; counted_from = t; next = p + 1 }

-- the same, under the plan as it counted before
abbrev pub standing : Debugged → ℕ → Debugged
standing d p = moved d p d.counted_from

-- the debuggee where going back to position `to` leads, considered there, and counted from there
abbrev pub gone_back : Debugged → ℕ → Debugged
gone_back d to = moved d (floor_of d.trail.kept to) (floor_of d.trail.kept to)

-- the last position up to p that is due, with d's plan and counts from 0
abbrev pub last_due_up_to : Debugged → ℕ → Option ℕ
last_due_up_to d p = last_due (debugged_program d) d.breakpoints (p + 1)
