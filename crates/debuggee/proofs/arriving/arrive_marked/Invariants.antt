use Rattle.std.proofs.Common.{◌≡◌, ◌-◌, length, map}
use Rattle.debuggee.specs.Plain.{plain_breakpoint, plain_output}
use Rattle.debuggee.proofs.Marking.{Reaches}
use Rattle.debuggee.proofs.arriving.arrive_marked.Given as goal

abbrev pub invariant-loop-index : goal.invariant-loop-index
invariant-loop-index g l = record {
  reaches : Reaches g.D.Debuggee.sees l.debuggee l.here (map plain_breakpoint l.initial.breakpoints.items)
      l.index l.stops (map plain_breakpoint l.breakpoints.items) (map plain_output l.initial.told.items)
      (map plain_output l.told.items);
  long : length l.breakpoints.items ≡ length l.initial.breakpoints.items;
}

abbrev pub decreases-loop-index : goal.decreases-loop-index
decreases-loop-index g l = length l.breakpoints.items - l.index
