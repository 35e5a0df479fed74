use Rattle.std.proofs.Common.{◌<◌, ◌-◌}
use Rattle.pl0_meaning.specs.Runs.{last_position}
use Rattle.pl0_machine.specs.Machine.{depth_of}
use Rattle.speed.proofs.machine.steps.Given as goal

abbrev pub invariant-steps : goal.invariant-steps
invariant-steps l = 0 < depth_of l.machine

abbrev pub decreases-steps : goal.decreases-steps
decreases-steps l = last_position - l.machine.position
