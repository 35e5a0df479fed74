use Rattle.stack_language.proofs.Lines.{NoneBetween}
use Rattle.stack_language.proofs.machine.Machine.line_at_or_after.Given as goal

abbrev pub invariant-loop-index : goal.invariant-loop-index
invariant-loop-index l = NoneBetween l.self l.fn.line l.index
