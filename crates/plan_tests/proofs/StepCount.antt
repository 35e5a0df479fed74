-- A unit's table of steps has a row for each step of its program.
use Rattle.std.proofs.Common.{◌≡◌, List, [], ◌∷◌, length, refl, arith}
use Rattle.std.proofs.Math.Logic.{∥∥₁_elim}
use Rattle.std.proofs.Math.Nat.{ℕ_set}
use Rattle.pl0_tree.specs.Tree.{Block}
use Rattle.pl0_tree.specs.declared.step.Step.{Step}
use Rattle.pl0_tree.specs.Steps.{StepAt, steps, AreSteps}
use Rattle.pl0_unit.specs.declared.unit.Unit.{Unit as Compiled}
use Rattle.pl0_machine.specs.Machine.{program_of}

one_each : (main : Block) (table : List Step) (all : List StepAt) → AreSteps main table all → length table ≡ length all
one_each main [] [] h = refl
one_each main [] (s ∷ all) h = absurd h
one_each main (r ∷ table) [] h = absurd h
one_each main (r ∷ table) (s ∷ all) h = let more = one_each main table all h.1 in omega (arith, more)

pub unit_length : (u : Compiled) → length u.steps.items ≡ length (steps (program_of u))
unit_length u =
    ∥∥₁_elim u.compiled (ℕ_set _ _) (λ h. one_each (program_of u) u.steps.items (steps (program_of u)) h.steps)
