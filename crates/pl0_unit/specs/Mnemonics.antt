-- How an instruction is written: its name, level and address.
use Rattle.std.specs.Prelude.{ℕ, List, ◌++◌, codes, decimal}
use Rattle.std.specs.Fmt.{signed_decimal}
use Rattle.pl0_unit.specs.declared.instruction.Instruction.{Instruction}
use Rattle.pl0_unit.specs.declared.instruction.Instruction.TheVariants.{Literal, Operate, Load, Store, Call, Enter, Jump, JumpIfZero}
use Rattle.pl0_unit.specs.declared.instruction.Operation.{Operation}
use Rattle.pl0_unit.specs.declared.instruction.Operation.TheVariants as operation

-- the numbers that Wirth gave to the operations of OPR; 14 writes a number
abbrev pub operation_number : Operation → ℕ
operation_number operation.Return = 0
operation_number operation.Negate = 1
operation_number operation.Add = 2
operation_number operation.Subtract = 3
operation_number operation.Multiply = 4
operation_number operation.Divide = 5
operation_number operation.Odd = 6
operation_number operation.Equal = 8
operation_number operation.Unequal = 9
operation_number operation.Less = 10
operation_number operation.AtLeast = 11
operation_number operation.Greater = 12
operation_number operation.AtMost = 13
operation_number operation.Write = 14

-- a level and an address
abbrev pub two_numbers : ℕ → ℕ → List ℕ
two_numbers level address = decimal level ++ (codes " " ++ decimal address)

abbrev pub instruction_text : Instruction → List ℕ
instruction_text (Literal value) = codes "LIT 0 " ++ signed_decimal value
instruction_text (Operate operation) = codes "OPR 0 " ++ decimal (operation_number operation)
instruction_text (Load level address) = codes "LOD " ++ two_numbers level address
instruction_text (Store level address) = codes "STO " ++ two_numbers level address
instruction_text (Call level address) = codes "CAL " ++ two_numbers level address
instruction_text (Enter cells) = codes "INT 0 " ++ decimal cells
instruction_text (Jump address) = codes "JMP 0 " ++ decimal address
instruction_text (JumpIfZero address) = codes "JPC 0 " ++ decimal address
