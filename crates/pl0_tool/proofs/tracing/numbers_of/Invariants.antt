use Rattle.pl0_tool.proofs.Common.{frame_of, numbers_in, take, ◌≡◌}
use Rattle.pl0_tool.proofs.tracing.numbers_of.Given as goal

abbrev pub invariant-loop-variable : goal.invariant-loop-variable
invariant-loop-variable l = l.numbers.items ≡ take l.variable (numbers_in (frame_of l.machine l.frame))
