use Rattle.pl0_tool.proofs.Common.{length, ◌≡◌}
use Rattle.pl0_tool.proofs.TracedRows.{TellFrames}
use Rattle.pl0_tool.proofs.tracing.newest_frames.Given as goal

abbrev pub invariant-loop-index : goal.invariant-loop-index
invariant-loop-index l = (length l.rows.items ≡ l.index) × TellFrames l.machine l.hidden l.rows.items
