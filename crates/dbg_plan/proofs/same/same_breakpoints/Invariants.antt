use Rattle.std.proofs.Common.{◌≡◌, map, take}
use Rattle.dbg_plan.specs.Table.{numbered_of}
use Rattle.dbg_plan.proofs.same.same_breakpoints.Given as goal

abbrev pub invariant-loop-index : goal.invariant-loop-index
invariant-loop-index l = map numbered_of (take l.index l.left) ≡ map numbered_of (take l.index l.right)
