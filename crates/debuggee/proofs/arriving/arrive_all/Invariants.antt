use Rattle.std.proofs.Common.{map}
use Rattle.debuggee.specs.Plain.{plain_breakpoint, plain_output}
use Rattle.debuggee.proofs.Counting.{Through}
use Rattle.debuggee.proofs.arriving.arrive_all.Given as goal

abbrev pub invariant-loop-breakpoint : goal.invariant-loop-breakpoint
invariant-loop-breakpoint g l =
    Through g.D.Debuggee.sees l.debuggee (map plain_breakpoint l.initial.breakpoint-items) l.breakpoint-index l.stops
    (map plain_breakpoint l.breakpoint-items) (map plain_output l.initial.told.items) (map plain_output l.told.items)
