use Rattle.pl0_machine.proofs.Resuming.{uses, keeps}
use Rattle.pl0_machine.proofs.checkpoint.Checkpoint.take.Goals as goal

pub in_use-requires-clause-cells : goal.in_use-requires-clause-cells
in_use-requires-clause-cells c = (uses c.machine.inside c.machine.invariant).within

pub in_use-requires-clause-bases : goal.in_use-requires-clause-bases
in_use-requires-clause-bases c = (uses c.machine.inside c.machine.invariant).frames

pub invariant_of-result : goal.invariant_of-result
invariant_of-result c =
    keeps c.machine.inside (record { unit = c.in_ok-unit.unit; state = c.in_ok-state.state }) c.machine.invariant
    c.in_ok-unit.ensures.cases c.in_ok-state.ensures
