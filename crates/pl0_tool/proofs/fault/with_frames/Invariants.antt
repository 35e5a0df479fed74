use Rattle.pl0_tool.proofs.Common.{frame_lines, ◌++◌, ◌≡◌}
use Rattle.pl0_tool.proofs.fault.with_frames.Given as goal

abbrev pub invariant-loop-index : goal.invariant-loop-index
invariant-loop-index l = l.report.items ≡ l.initial.report.items ++ frame_lines l.file l.machine l.index
