use Rattle.std.proofs.Common.{arith}
use Rattle.plan_tests.proofs.StepCount.{unit_length}
use Rattle.plan_tests.proofs.plans.assert_entry.Goals as goal

pub entry-entry-requires : goal.entry-entry-requires
entry-entry-requires g c = omega (arith, unit_length c.args.unit.now, c.args.unit.now.steps.ok, c.requires.steps)
