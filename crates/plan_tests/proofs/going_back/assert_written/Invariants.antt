use Rattle.std.proofs.Common.{◌≡◌}
use Rattle.plan_tests.proofs.going_back.assert_written.Given as goal

abbrev pub invariant-loop-position : goal.invariant-loop-position
invariant-loop-position g l = l.debuggee.next ≡ l.debuggee.position
