use Rattle.std.proofs.Common.{◌≡◌}
use Rattle.plan_tests.proofs.going_back.steps_to.Given as goal

abbrev pub invariant-loop : goal.invariant-loop
invariant-loop g l = l.debuggee.next ≡ l.debuggee.position
