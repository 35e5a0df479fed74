use Rattle.std.proofs.Common.{◌≡◌, ◌≤◌, length, map}
use Rattle.debuggee.specs.Plain.{plain_breakpoint}
use Rattle.debuggee.specs.Marks.{mark_count, places_of}
use Rattle.debuggee.proofs.Marking.{ChainedFrom}
use Rattle.debuggee.proofs.marks.marks_of.Given as goal

abbrev pub invariant-loop-index : goal.invariant-loop-index
invariant-loop-index l = record {
  within : l.index ≤ length l.breakpoints;
  firsts : length l.first ≡ mark_count;
  nexts : length l.next.items ≡ length l.breakpoints;
  chained : ChainedFrom (places_of (map plain_breakpoint l.breakpoints)) l.first l.next.items l.index;
}

abbrev pub decreases-loop-index : goal.decreases-loop-index
decreases-loop-index l = l.index
