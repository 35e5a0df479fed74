use Rattle.std.proofs.Common.{arith}
use Rattle.pl0_machine.proofs.LocatedValues.{index_within}
use Rattle.pl0_machine.proofs.located.reach.Goals as goal
use Rattle.std.proofs.lemmas.Grind.{common_steps}

pub overflow_add-index : goal.overflow_add-index
overflow_add-index t = grind (arith, common_steps, index_within)
