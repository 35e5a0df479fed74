-- What is told of the instructions of a step.
use Rattle.std.specs.Prelude.{◌≡◌, ℕ, ◌-◌, Bool, true, false, List, [], ◌++◌, drop, Option, Some, None}
use Rattle.pl0_unit.specs.declared.instruction.Instruction.{Instruction}
use Rattle.pl0_machine.specs.Machine.{Standing, frames, depth_of, BeginsNext}
use Rattle.pl0_machine.specs.declared.outcome.StepOutcome.{StepOutcome}
use Rattle.pl0_lessons.specs.Interpreter.{first_lines, onward_lines, step_led, step_lines}
use Rattle.pl0_tool.specs.Drawing.{IsReturn}
use Rattle.pl0_tool.specs.declared.instructions.Begun.{Begun}

-- The lines of a step of this outcome: before the first step what is passed on the way to it; the step's own
-- instructions, from the one on with which it begins; and what is passed behind it, where the run goes on.
pub record HasInstructions (m : Standing) (outcome : StepOutcome) (lines : List ℕ) : Type 0 where
  pub address : ℕ
  pub begins : BeginsNext m address
  pub back : ℕ
  pub returns : IsReturn m (depth_of m - 1) back
  pub are : lines
      ≡ (first_lines m.unit.code.items m.position
      ++ step_lines (frames m) (drop address m.unit.code.items) address [])
      ++ onward_lines m.unit.code.items outcome
      (step_led (frames m) back (drop address m.unit.code.items) address [])

-- instructions are told, or they aren't
abbrev pub AreInstructions : Bool → Standing → StepOutcome → List ℕ → Type 0
AreInstructions true m outcome lines = HasInstructions m outcome lines
AreInstructions false m outcome lines = lines ≡ []

-- ---- before the step is taken

pub record HasBegun (m : Standing) (begun : Begun) : Type 0 where
  pub address : ℕ
  pub begins : BeginsNext m address
  pub back : ℕ
  pub returns : IsReturn m (depth_of m - 1) back
  pub lines : begun.lines.items
      ≡ first_lines m.unit.code.items m.position
      ++ step_lines (frames m) (drop address m.unit.code.items) address []
  pub to : begun.to ≡ step_led (frames m) back (drop address m.unit.code.items) address []

abbrev pub IsBegun : Bool → Standing → Option Begun → Type 0
IsBegun true m (Some begun) = HasBegun m begun
IsBegun true m None = ⊥
IsBegun false m begun = begun ≡ None

-- with what is passed behind the step
abbrev pub finished : List Instruction → StepOutcome → Option Begun → List ℕ
finished code outcome None = []
finished code outcome (Some begun) = begun.lines.items ++ onward_lines code outcome begun.to
