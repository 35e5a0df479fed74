-- What a trace tells of a run.
use Rattle.std.specs.Prelude.{◌≡◌, ℕ, ◌+◌, ◌-◌, List, [], length, slice_get, Option, Some, None, option_map, option_and_then, ℤ}
use Rattle.pl0_tree.specs.Tree.{Block}
use Rattle.pl0_tree.specs.Steps.{StepAt, blocks}
use Rattle.pl0_meaning.specs.Values.{Frame, next_step}
use Rattle.pl0_meaning.specs.Runs.{Outcome, Goes, Faults, Stuck}
use Rattle.pl0_machine.specs.declared.outcome.StepOutcome.{StepOutcome}
use Rattle.pl0_machine.specs.declared.outcome.StepOutcome.TheVariants.{Fault}
use Rattle.pl0_machine.specs.Machine.{Standing, program, frames, frame_of, depth_of, top_of, outcome_of, told}
use Rattle.pl0_tool.specs.Drawing.{IsDrawn}
use Rattle.pl0_tool.specs.declared.tracing.FrameRow.{FrameRow}
use Rattle.pl0_tool.specs.declared.tracing.Row.{Row}
use Rattle.pl0_tool.specs.declared.tracing.View.{View}
use Rattle.pl0_tool.specs.Instructing.{AreInstructions}

-- a machine of the same program at another position
abbrev pub at_position : Standing → ℕ → Standing
at_position m position = record m { position = position }

-- ---- frames

-- the numbers in the variables of a frame
abbrev pub numbers_in : Option Frame → List ℤ
numbers_in None = []
numbers_in (Some f) = f.numbers

-- a row tells a frame
abbrev pub IsFrameRow : Block → Option Frame → FrameRow → Type 0
IsFrameRow main None row = ⊥
IsFrameRow main (Some f) row = (slice_get (blocks main) row.block ≡ Some f.block) × (row.numbers.items ≡ f.numbers)

-- rows tell the frames from one on up to the newest
pub record AreFrameRows (m : Standing) (hidden : ℕ) (rows : List FrameRow) : Type 0 where
  pub all : hidden + length rows ≡ depth_of m
  pub each : (i : ℕ) (row : FrameRow) → slice_get rows i ≡ Some row
      → IsFrameRow (program m) (frame_of m (hidden + i)) row

-- ---- positions

-- how many frames are told
abbrev pub told_frames : ℕ
told_frames = 16

-- the step that comes next
abbrev pub step_before : Standing → Option StepAt
step_before m = option_and_then (next_step (program m)) (top_of (frames m))

-- what is told of an outcome: the number that is written, the end, or the fault
abbrev pub IsTold : Outcome → StepOutcome → Type 0
IsTold (Goes written c) outcome = outcome ≡ told written c
IsTold (Faults fault) outcome = outcome ≡ Fault fault
IsTold Stuck outcome = ⊥

-- a row tells the position at which a machine stands, and what else is to be told there
pub record IsRow (view : View) (m : Standing) (row : Row) : Type 0 where
  pub position : row.position ≡ m.position
  pub kind : option_map (λ (s : StepAt). s.kind) (step_before m) ≡ Some row.kind
  pub place : option_map (λ (s : StepAt). s.place) (step_before m) ≡ Some row.place
  pub hidden : row.hidden ≡ depth_of m - told_frames
  pub frames : AreFrameRows m row.hidden row.frames.items
  pub drawing : IsDrawn view.machine m row.hidden row.drawing
  pub outcome : IsTold (outcome_of m) row.outcome
  pub instructions : AreInstructions view.instructions m row.outcome row.instructions.items
