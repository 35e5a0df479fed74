-- A program has one code.
use Rattle.std.specs.Prelude.{◌≡◌, ℕ, List, Option, map}
use Rattle.pl0_tree.specs.Tree.{Block}
use Rattle.pl0_tree.specs.Steps.{steps}
use Rattle.pl0_tree.specs.Ascending.{Ascend}
use Rattle.pl0_unit.specs.declared.instruction.Instruction.{Instruction}
use Rattle.pl0_unit.specs.Code.{Coded}

-- A program whose steps stand in the order of their places, as those of a text do, has one code, and its instructions
-- begin the same steps.
abbrev pub OneCode : Type 0
OneCode =
    (main : Block) (code other : List Instruction) (begun_steps others : List (Option ℕ))
    → Ascend (map (λ step. step.place) (steps main)) →
    Coded (record { main = main; code = code; begun_steps = begun_steps }) →
    Coded (record { main = main; code = other; begun_steps = others }) → (code ≡ other) × (begun_steps ≡ others)
