-- A worked example: each instruction and operation, and how it is written.
use Rattle.std.specs.Prelude.{◌≡◌, [], ◌∷◌, codes, map, pos, negsuc}
use Rattle.pl0_unit.specs.declared.instruction.Instruction.TheVariants.{Literal, Operate, Load, Store, Call, Enter, Jump, JumpIfZero}
use Rattle.pl0_unit.specs.declared.instruction.Operation.TheVariants as operation
use Rattle.pl0_unit.specs.Mnemonics.{instruction_text}

-- `OPR` has Wirth's numbers, and 14 for a write.
abbrev pub OperationsAreWritten : Type 0
OperationsAreWritten =
    map (λ o. instruction_text (Operate o))
    (operation.Return ∷ operation.Negate ∷ operation.Add ∷ operation.Subtract ∷ operation.Multiply ∷ operation.Divide
    ∷ operation.Odd ∷ operation.Equal ∷ operation.Unequal ∷ operation.Less ∷ operation.AtLeast ∷ operation.Greater
    ∷ operation.AtMost ∷ operation.Write ∷ [])
    ≡ codes "OPR 0 0" ∷ codes "OPR 0 1" ∷ codes "OPR 0 2" ∷ codes "OPR 0 3" ∷ codes "OPR 0 4" ∷ codes "OPR 0 5"
    ∷ codes "OPR 0 6" ∷ codes "OPR 0 8" ∷ codes "OPR 0 9" ∷ codes "OPR 0 10" ∷ codes "OPR 0 11" ∷ codes "OPR 0 12"
    ∷ codes "OPR 0 13" ∷ codes "OPR 0 14" ∷ []

-- The others have a name of three letters, a level, which is 0 where they have none, and a number.
abbrev pub OthersAreWritten : Type 0
OthersAreWritten =
    map instruction_text
    (Literal (pos 7) ∷ Literal (negsuc 6) ∷ Load 1 3 ∷ Store 2 4 ∷ Call 1 12 ∷ Enter 5 ∷ Jump 8 ∷ JumpIfZero 9 ∷ [])
    ≡ codes "LIT 0 7" ∷ codes "LIT 0 -7" ∷ codes "LOD 1 3" ∷ codes "STO 2 4" ∷ codes "CAL 1 12" ∷ codes "INT 0 5"
    ∷ codes "JMP 0 8" ∷ codes "JPC 0 9" ∷ []
