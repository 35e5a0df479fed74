use Rattle.std.proofs.Math.Logic.{∥∥₁_elim}
use Rattle.std.specs.Coded.{le_prop}
use Rattle.pl0_machine.proofs.checkpoint.Checkpoint.position.Goals as goal

pub returns-clause-bounded : goal.returns-clause-bounded
returns-clause-bounded c = ∥∥₁_elim c.self.invariant le_prop (λ k. k.early)
