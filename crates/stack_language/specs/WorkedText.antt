-- States worked examples: which instruction a line is. Each was computed from the definitions.
use Rattle.std.specs.Prelude.{◌≡◌, negsuc, [], ◌∷◌, map, codes, None, Some}
use Rattle.stack_language.specs.declared.parsing.Operand.{Operand}
use Rattle.stack_language.specs.declared.program.Instruction.TheVariants.{Nothing, Push, Load, Store, Calculate, Print, Jump, JumpZero, Call, Return}
use Rattle.stack_language.specs.declared.program.Operator.TheVariants.{Add, Sub, Mul, Div}
use Rattle.stack_language.specs.Text.{AreRead, IsFirstMistake, IsLine, IsNumber, IsTarget, with_operand, without_operand}

-- names without an operand; `push` has one, and no name has a capital
abbrev pub NamesMeanAlone : Type 0
NamesMeanAlone =
    map without_operand (codes "add" ∷ codes "sub" ∷ codes "mul" ∷ codes "div" ∷ codes "print" ∷ codes "ret"
    ∷ codes "push" ∷ codes "Add" ∷ [])
    ≡ Some (Calculate Add) ∷ Some (Calculate Sub) ∷ Some (Calculate Mul) ∷ Some (Calculate Div) ∷ Some Print
    ∷ Some Return ∷ None ∷ None ∷ []

-- an operand whose parts differ
abbrev pub operand : Operand
operand = record { number = Some (negsuc 4); variable = Some 1; line = Some 2 }

-- names with an operand; `add` has none
abbrev pub NamesMeanWithOperand : Type 0
NamesMeanWithOperand =
    map (λ name. with_operand name operand) (codes "push" ∷ codes "load" ∷ codes "store" ∷ codes "jump"
    ∷ codes "jzero" ∷ codes "call" ∷ codes "add" ∷ [])
    ≡ Some (Push (negsuc 4)) ∷ Some (Load 1) ∷ Some (Store 1) ∷ Some (Jump 2) ∷ Some (JumpZero 2) ∷ Some (Call 2)
    ∷ None ∷ []

-- a number has no other letters, and no line has the number 0
abbrev pub OperandsAreRead : Type 0
OperandsAreRead =
    IsNumber (codes "-5") (Some (negsuc 4)) × IsNumber (codes "5x") None × IsTarget (codes "3") (Some 2)
    × IsTarget (codes "0") None

-- a comment, an instruction with an operand between blanks, and one without; no instruction has two operands
abbrev pub InstructionsAreRead : Type 0
InstructionsAreRead =
    AreRead (codes "; a" ∷ codes " push -5 " ∷ codes "add" ∷ []) (Nothing ∷ Push (negsuc 4) ∷ Calculate Add ∷ [])
    × IsLine (codes "push 1 2") None

-- a blank line, a comment, an instruction, and the first mistake
abbrev pub LinesAreRead : Type 0
LinesAreRead = IsFirstMistake ([] ∷ codes ";a" ∷ codes " jump 3" ∷ codes "pop" ∷ codes "dup" ∷ []) 4
