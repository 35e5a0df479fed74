-- Worked examples of the pages, each computed.
use Rattle.std.specs.Prelude.{◌≡◌, List, [], ◌∷◌, ◌++◌, codes, map, Some, None, pos}
use Rattle.pl0_meaning.specs.Values.{Configuration}
use Rattle.pl0_meaning.specs.declared.RunFault.TheVariants.{Depth}
use Rattle.pl0_unit.specs.declared.instruction.Instruction.{Instruction}
use Rattle.pl0_unit.specs.declared.instruction.Instruction.TheVariants.{Literal, Operate, Load, Store, Call as CallTo, Enter, Jump, JumpIfZero}
use Rattle.pl0_unit.specs.declared.instruction.Operation.TheVariants as operation
use Rattle.pl0_machine.specs.declared.outcome.StepOutcome.TheVariants.{Went, Fault}
use Rattle.pl0_lessons.specs.Interpreter.{first_lines, led, onward_lines, step_led, step_lines}

-- ---- a step, instruction by instruction

-- a frame of `p` above that of the main block
abbrev frames : Configuration
frames =
    record { block = 0 ∷ []; link = 0; numbers = pos 5 ∷ []; todo = [] }
    ∷ record { block = []; link = 0; numbers = pos 3 ∷ []; todo = [] } ∷ []

abbrev difference : List Instruction
difference = Load 0 3 ∷ Load 1 3 ∷ Operate operation.Subtract ∷ Store 0 3 ∷ Jump 2 ∷ []

abbrev sign_and_parity : List Instruction
sign_and_parity =
    Literal (pos 7) ∷ Load 0 3 ∷ Operate operation.Negate ∷ Operate operation.Odd ∷ JumpIfZero 30 ∷ []

-- the lines of steps, where one leads, and the lines of one that faults
abbrev pub InstructionsAre : Type 0
InstructionsAre =
    (step_lines frames difference 10 []
    ≡ codes "                10  LOD 0 3\n"
    ++ codes "                11  LOD 1 3        5\n"
    ++ codes "                12  OPR 0 3        5 3\n"
    ++ codes "                13  STO 0 3        2\n")
    × (step_led frames 20 difference 10 [] ≡ Some 14)
    × (step_lines frames sign_and_parity 10 []
    ≡ codes "                10  LIT 0 7\n"
    ++ codes "                11  LOD 0 3        7\n"
    ++ codes "                12  OPR 0 1        7 5\n"
    ++ codes "                13  OPR 0 6        7 -5\n"
    ++ codes "                14  JPC 0 30       7 1\n")
    × (step_lines frames (Literal (pos 1) ∷ Literal (pos 0) ∷ Operate operation.Divide ∷ Store 0 3 ∷ []) 10 []
    ≡ codes "                10  LIT 0 1\n"
    ++ codes "                11  LIT 0 0        1\n"
    ++ codes "                12  OPR 0 5        1 0\n")

-- where instructions lead that end a step
abbrev pub LeadsAre : Type 0
LeadsAre =
    (map (λ i. led 20 i 10 (pos 0 ∷ []))
    (Store 0 3 ∷ Operate operation.Write ∷ Operate operation.Return ∷ CallTo 0 2 ∷ JumpIfZero 30 ∷ [])
    ≡ Some 11 ∷ Some 11 ∷ Some 20 ∷ Some 2 ∷ Some 30 ∷ [])
    × (led 20 (JumpIfZero 30) 10 (pos 1 ∷ []) ≡ Some 11)

-- what is passed before a step, and that nothing is where a step faults
abbrev pub PassedAre : Type 0
PassedAre =
    let code = Jump 2 ∷ Operate operation.Return ∷ Enter 4 ∷ [] in
    (first_lines code 0 ≡ codes "                 0  JMP 0 2\n" ++ codes "                 2  INT 0 4\n")
    × (onward_lines code (Went None) (Some 0) ≡ first_lines code 0) × (onward_lines code (Went None) (Some 1) ≡ [])
    × (onward_lines code (Fault Depth) (Some 0) ≡ [])
