use Rattle.std.proofs.Common.{◌≡◌, ◌++◌, length}
use Rattle.dap_session.proofs.load_log.bytes_of.Given as goal

abbrev pub invariant-loop-rest : goal.invariant-loop-rest
invariant-loop-rest l = l.bytes.entries ++ l.rest ≡ l.fn.text

abbrev pub decreases-loop-rest : goal.decreases-loop-rest
decreases-loop-rest l = length l.rest
