-- The blocks of a unit, by number.
use Rattle.std.proofs.Common.{◌≡◌, ℕ, ◌<◌, [], length, get_or, slice_get, Some, ap, sym, ◌∙◌, subst}
use Rattle.std.specs.Option.{option_map_or}
use Rattle.std.proofs.Math.Logic.{∥∥₁_elim}
use Rattle.pl0_tree.specs.declared.step.Step.{Step}
use Rattle.pl0_tree.specs.Scope.{Path}
use Rattle.pl0_tree.specs.Steps.{steps, blocks, step_path, AreSteps}
use Rattle.pl0_tree.specs.Blocks.{AreNestings}
use Rattle.pl0_unit.specs.declared.unit.Unit.{Unit as Compiled}
use Rattle.pl0_machine.specs.Machine.{program_of}
use Rattle.pl0_syntax.proofs.StepBlocks.{number_within}
use Rattle.pl0_syntax.proofs.Tables.{steps_prop, nestings_prop}
use Rattle.dbg_plan.proofs.StepLines.{tells, unit_length}

pub unit_steps : (u : Compiled) → AreSteps (program_of u) u.steps.items (steps (program_of u))
unit_steps u = ∥∥₁_elim u.compiled (steps_prop (program_of u) u.steps.items (steps (program_of u))) (λ h. h.steps)

pub unit_nestings : (u : Compiled) → AreNestings (program_of u) u.nestings.items (blocks (program_of u))
unit_nestings u = ∥∥₁_elim u.nested (nestings_prop (program_of u) u.nestings.items (blocks (program_of u))) (λ h. h)

-- the table gives the block of a step by its number
block_of : (u : Compiled) (n : ℕ) (d : Step) → n < length (steps (program_of u))
    → slice_get (blocks (program_of u)) (get_or u.steps.items n d).block ≡ Some (step_path (program_of u) n)
block_of u n d lt =
    let t = tells (program_of u) u.steps.items (steps (program_of u)) (unit_steps u) n d
    (subst (λ k. n < k) (sym (unit_length u)) lt) in
    t.is.block ∙ ap (λ o. Some (option_map_or (λ s. s.path) o [])) (sym t.there)

pub block_at : (u : Compiled) (n : ℕ) (s : Step) → n < length (steps (program_of u)) → s ≡ get_or u.steps.items n s
    → slice_get (blocks (program_of u)) s.block ≡ Some (step_path (program_of u) n)
block_at u n s lt is = ap (λ (x : Step). slice_get (blocks (program_of u)) x.block) is ∙ block_of u n s lt

pub block_within : (u : Compiled) (k : ℕ) (q : Path) → slice_get (blocks (program_of u)) k ≡ Some q
    → k < length u.nestings.items
block_within u k q at = number_within (program_of u) u.nestings.items k q (unit_nestings u) at
