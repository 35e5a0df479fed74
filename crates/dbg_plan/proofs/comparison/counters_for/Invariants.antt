use Rattle.std.proofs.Common.{◌≡◌, ℕ, Some, length, slice_get}
use Rattle.pl0_machine.specs.declared.mark.Counter.{Counter}
use Rattle.dbg_plan.specs.declared.breakpoint.Breakpoint.{Breakpoint}
use Rattle.dbg_plan.specs.Table.{IsCounterOf}
use Rattle.dbg_plan.proofs.comparison.counters_for.Given as goal

abbrev pub invariant-loop-breakpoint : goal.invariant-loop-breakpoint
invariant-loop-breakpoint l =
    (length l.counters.items ≡ l.breakpoint-index)
    × ((k : ℕ) (b : Breakpoint) (c : Counter) → slice_get l.breakpoints k ≡ Some b
    → slice_get l.counters.items k ≡ Some c → IsCounterOf b c)
