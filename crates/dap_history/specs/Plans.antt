-- Defines a plan in force.
use Rattle.std.specs.Prelude.{ℕ, List, []}
use Rattle.dbg_plan.specs.Breakpoints.{Breakpoint}

-- breakpoints that were put in, and the first position that they count
pub record Plan : Type 0 where
  pub breakpoints : List Breakpoint
  pub counted_from : ℕ

-- the plan before any was put in
abbrev pub no_plan : Plan
no_plan = record { breakpoints = []; counted_from = 0 }
