use Rattle.dap_frame.proofs.Common.{HasNoEnd, length, ◌-◌, ◌≤◌}
use Rattle.dap_frame.proofs.header.line_end.Given as goal

abbrev pub invariant-loop-found : goal.invariant-loop-found
invariant-loop-found l = record { there : l.from ≤ length l.bytes; no_end : HasNoEnd l.bytes l.judged l.from }

abbrev pub decreases-loop-found : goal.decreases-loop-found
decreases-loop-found l = length l.bytes - l.from
