-- The steps and blocks of a unit, by number.
use Rattle.dap_inspection.proofs.Common.{Block, Frame, FrameView, List, None, Option, Shows, Some, Step, StepAt, blocks, length, option_map, program_of, slice_get, steps, subst, suc, sym, ℕ, ◌<◌, ◌∷◌, ◌≡◌}
use Rattle.std.proofs.Common.{IsSome, arith}
use Rattle.pl0_tree.specs.Steps.{AreSteps}
use Rattle.pl0_unit.specs.declared.unit.Unit.{Unit as Compiled}
use Rattle.dbg_plan.proofs.StepLines.{unit_length}
use Rattle.dbg_plan.proofs.UnitBlocks.{unit_steps, block_within}
use Rattle.std.proofs.lemmas.Grind.{common_steps}

-- ---- blocks

pub some_within : (u : Compiled) (n : ℕ) → IsSome (slice_get (blocks (program_of u)) n) → n < length u.nestings.items
some_within u n some = grind (arith, common_steps, program_of, block_within)

-- the number of a frame's block is one of the table
pub shown_block_within : (u : Compiled) (o : Option Frame) (view : FrameView) → Shows (program_of u) o view
    → view.block < length u.nestings.items
shown_block_within u None view shows = absurd shows
shown_block_within u (Some f) view shows = block_within u view.block f.block shows.0

-- ---- steps

same_places : (main : Block) (ss : List Step) (ts : List StepAt) → AreSteps main ss ts → (n : ℕ) →
    option_map (λ (s : Step). s.place) (slice_get ss n) ≡ option_map (λ (t : StepAt). t.place) (slice_get ts n)
same_places main (s ∷ ss) (t ∷ ts) are (suc n) = same_places main ss ts are.1 n
same_places main ss ts are n = grind (arith, common_steps) steps 200000

pub step_within : (u : Compiled) (n : ℕ) → n < length (steps (program_of u)) → n < length u.steps.items
step_within u n lt = subst (λ k. n < k) (sym (unit_length u)) lt

-- a step stands in the table where it stands in the text
pub step_place : (u : Compiled) (n : ℕ) →
    option_map (λ (s : Step). s.place) (slice_get u.steps.items n) ≡ option_map (λ (t : StepAt). t.place)
    (slice_get (steps (program_of u)) n)
step_place u n = same_places (program_of u) u.steps.items (steps (program_of u)) (unit_steps u) n
