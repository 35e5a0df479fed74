use Rattle.dap_frame.proofs.Common.{IsScanned, length, ◌-◌}
use Rattle.dap_frame.proofs.header.scan_lines.Given as goal

abbrev pub invariant-loop-end : goal.invariant-loop-end
invariant-loop-end l = IsScanned l.scan l.bytes

abbrev pub decreases-loop-end : goal.decreases-loop-end
decreases-loop-end l = length l.bytes - l.scan.judged
