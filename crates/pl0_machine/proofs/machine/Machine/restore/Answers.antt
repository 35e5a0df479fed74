use Rattle.std.proofs.Common.{◌≡◌, arith}
use Rattle.pl0_machine.proofs.Resuming.{cells_fit, bases_fit, resumes}
use Rattle.pl0_machine.proofs.machine.Machine.restore.Goals as goal
use Rattle.pl0_machine.proofs.machine.Machine.restore.Goals.{After-checkpoint}
use Rattle.std.proofs.lemmas.Grind.{common_steps}

unit : (c : After-checkpoint) → c.checkpoint.inside.unit.value ≡ c.self.inside.unit.value
unit c = grind (arith, common_steps)

pub resume-requires-clause-cells : goal.resume-requires-clause-cells
resume-requires-clause-cells c = grind (arith, common_steps, cells_fit, unit)

pub resume-requires-clause-bases : goal.resume-requires-clause-bases
resume-requires-clause-bases c = grind (arith, common_steps, bases_fit, unit)

pub invariant_of-self : goal.invariant_of-self
invariant_of-self c =
    resumes c.self.inside c.self.invariant c.checkpoint.inside c.checkpoint.invariant
    (unit (goal.at.invariant_of-self c).After-checkpoint) c.resume.new.self c.resume.ensures
