use Rattle.std.proofs.Common.{◌≡◌, ◌+◌, ◌++◌, ℕ, List, map}
use Rattle.debuggee.specs.Plain.{PlainOutput, plain_breakpoint, plain_output}
use Rattle.debuggee.specs.Marks.{AreMarked}
use Rattle.debuggee.specs.Runs.{Passes}
use Rattle.debuggee.proofs.running.pass_or_halt.Given as goal

abbrev pub invariant-loop : goal.invariant-loop
invariant-loop g l = record {
  many : ℕ;
  counted : many + 1 ≡ l.counter;
  told : List PlainOutput;
  passes : Passes g.D.Debuggee.takes g.D.Debuggee.sees l.mode l.initial.debuggee
      (map plain_breakpoint l.initial.breakpoints.items) many l.debuggee (map plain_breakpoint l.breakpoints.items)
      told;
  added : map plain_output l.told.items ≡ map plain_output l.initial.told.items ++ told;
  marked : AreMarked l.marks.first l.marks.next.items (map plain_breakpoint l.breakpoints.items);
}
