-- Defines the text of a program: the instruction that each line is.
use Rattle.std.specs.Prelude.{◌≡◌, ◌<◌, ◌+◌, ◌-◌, ℕ, ℤ, List, [], ◌∷◌, ◌++◌, length, get_or, codes, if◌then◌else◌, Option, None, Some, option_map, Ok}
use Rattle.std.specs.Char.{is_ascii_lowercase, is_whitespace, is_not_whitespace}
use Rattle.std.specs.Int.{w64}
use Rattle.std.specs.Option.{ok_or}
use Rattle.std.specs.Str.{NoCharPasses, EmptyOrStartsWithPassing, bytes_eq}
use Rattle.std.specs.Str.Parse.{ParsesSigned, ParsesUnsigned}
use Rattle.stack_language.specs.declared.parsing.Operand.{Operand}
use Rattle.stack_language.specs.declared.parsing.Parsed.{Parsed}
use Rattle.stack_language.specs.declared.parsing.Parsed.TheVariants.{Program, Mistake}
use Rattle.stack_language.specs.declared.program.Instruction.{Instruction}
use Rattle.stack_language.specs.declared.program.Instruction.TheVariants.{Nothing, Push, Load, Store, Calculate, Print, Jump, JumpZero, Call, Return}
use Rattle.stack_language.specs.declared.program.Operator.TheVariants.{Add, Sub, Mul, Div}

-- ---- operands

-- the number that a word is, if it is one of 64 bits, in decimal, with a sign or without
abbrev pub IsNumber : List ℕ → Option ℤ → Type 0
IsNumber word number = ParsesSigned {E = Unit {0}} w64 10 word (ok_or number tt)

-- the code of `a`
abbrev pub first_letter : ℕ
first_letter = 97

-- the variable of this name, a letter from a to z
abbrev pub variable_named : List ℕ → Option ℕ
variable_named (letter ∷ []) = if is_ascii_lowercase letter then Some (letter - first_letter) else None
variable_named _ = None

-- the line with the number that a word is, if it is one from 1 on; the first line is 0
abbrev pub IsTarget : List ℕ → Option ℕ → Type 0
IsTarget word (Some line) = ParsesUnsigned {E = Unit {0}} 64 10 word (Ok (line + 1))
IsTarget word None = (number : ℕ) → 0 < number → ¬ ParsesUnsigned {E = Unit {0}} 64 10 word (Ok number)

-- what a word is as an operand
pub record IsOperand (word : List ℕ) (operand : Operand) : Type 0 where
  pub number_is : IsNumber word operand.number
  pub variable_is : operand.variable ≡ variable_named word
  pub line_is : IsTarget word operand.line

-- ---- instructions

-- the instruction of this name alone
abbrev pub without_operand : List ℕ → Option Instruction
without_operand name =
    if bytes_eq name (codes "add") then Some (Calculate Add)
    else if bytes_eq name (codes "sub") then Some (Calculate Sub)
    else if bytes_eq name (codes "mul") then Some (Calculate Mul)
    else if bytes_eq name (codes "div") then Some (Calculate Div)
    else if bytes_eq name (codes "print") then Some Print
    else if bytes_eq name (codes "ret") then Some Return
    else None

-- the instruction of this name with an operand
abbrev pub with_operand : List ℕ → Operand → Option Instruction
with_operand name operand =
    if bytes_eq name (codes "push") then option_map Push operand.number
    else if bytes_eq name (codes "load") then option_map Load operand.variable
    else if bytes_eq name (codes "store") then option_map Store operand.variable
    else if bytes_eq name (codes "jump") then option_map Jump operand.line
    else if bytes_eq name (codes "jzero") then option_map JumpZero operand.line
    else if bytes_eq name (codes "call") then option_map Call operand.line
    else None

-- ---- lines

-- the text is white space
abbrev pub IsBlank : List ℕ → Type 0
IsBlank text = NoCharPasses is_not_whitespace text

-- the text's first word, which white space may precede, and what follows it
abbrev pub HasWord : List ℕ → List ℕ → List ℕ → Type 0
HasWord text word rest =
    (gap : List ℕ) × (text ≡ gap ++ (word ++ rest)) × (0 < length word) × IsBlank gap × NoCharPasses is_whitespace word
    × ((more : List ℕ) × EmptyOrStartsWithPassing is_whitespace rest more)

-- the code of `;`
abbrev pub comment_mark : ℕ
comment_mark = 59

-- a word that begins with `;` makes its line a comment
abbrev pub StartsComment : List ℕ → Type 0
StartsComment word = get_or word 0 0 ≡ comment_mark

-- The instruction that a line is, if it is one. A blank line and a comment do nothing; any other has a name, and
-- perhaps an operand.
pub data IsLine (line : List ℕ) : Option Instruction → Type 0 where
  Blank : IsBlank line → IsLine line (Some Nothing)
  Comment : (word rest : List ℕ) → HasWord line word rest → StartsComment word → IsLine line (Some Nothing)
  Alone : (name rest : List ℕ) → HasWord line name rest → ¬ StartsComment name → IsBlank rest
      → IsLine line (without_operand name)
  Operated : (name rest word end : List ℕ) (operand : Operand) → HasWord line name rest → ¬ StartsComment name
      → HasWord rest word end → IsBlank end → IsOperand word operand → IsLine line (with_operand name operand)
  TooLong : (name rest word more third end : List ℕ) → HasWord line name rest → ¬ StartsComment name
      → HasWord rest word more → HasWord more third end → IsLine line None

-- ---- programs

-- the lines are these instructions, in order
abbrev pub AreRead : List (List ℕ) → List Instruction → Type 0
AreRead [] [] = Unit {0}
AreRead (line ∷ lines) (instruction ∷ program) = IsLine line (Some instruction) × AreRead lines program
AreRead _ _ = ⊥

-- the line with this number, counted from 1, is no instruction, but those before it are
abbrev pub IsFirstMistake : List (List ℕ) → ℕ → Type 0
IsFirstMistake lines number =
    (before : List (List ℕ)) × (program : List Instruction) × (line : List ℕ) × (after : List (List ℕ))
    × (lines ≡ before ++ line ∷ after) × AreRead before program × IsLine line None × (number ≡ length before + 1)

-- the lines are a program, or have a first mistake
abbrev pub IsParsed : List (List ℕ) → Parsed → Type 0
IsParsed lines (Program program) = AreRead lines program.items
IsParsed lines (Mistake number) = IsFirstMistake lines number
