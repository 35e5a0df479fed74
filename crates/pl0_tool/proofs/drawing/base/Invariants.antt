use Rattle.pl0_tool.proofs.Common.{frames, ◌≡◌}
use Rattle.pl0_machine.specs.Frames.{base_of}
use Rattle.pl0_tool.proofs.drawing.base.Given as goal

abbrev pub invariant-loop-below : goal.invariant-loop-below
invariant-loop-below l = l.base ≡ base_of (frames l.machine) l.below
