-- A step as Wirth's interpreter does it: instruction by instruction, with the operands that are on the stack above the
-- frames. The frames are those of the meaning: from them LOD takes its number, and what the instruction that ends a
-- step makes of them is defined there. It isn't claimed here that such an instruction finds the number on top that the
-- meaning stores, tests or writes.
use Rattle.std.specs.Prelude.{ℕ, zero, suc, ◌+◌, ◌-◌, nat_lt, if◌then◌else◌, List, [], ◌∷◌, ◌++◌, codes, decimal, length, map, slice_get, take, Option, Some, None, option_map, Result, Ok, ℤ, neg_ℤ}
use Rattle.std.specs.List.{concat}
use Rattle.std.specs.Option.{option_map_or}
use Rattle.std.specs.Fmt.{signed_decimal}
use Rattle.pl0_meaning.specs.declared.RunFault.{RunFault}
use Rattle.pl0_meaning.specs.Values.{Configuration, checked, is_odd, is_zero}
use Rattle.pl0_unit.specs.Code.{frame_head}
use Rattle.pl0_unit.specs.Mnemonics.{instruction_text}
use Rattle.pl0_unit.specs.declared.instruction.Instruction.{Instruction}
use Rattle.pl0_unit.specs.declared.instruction.Instruction.TheVariants.{Literal, Operate, Load, Store, Call, Enter, Jump, JumpIfZero}
use Rattle.pl0_unit.specs.declared.instruction.Operation.{Operation}
use Rattle.pl0_unit.specs.declared.instruction.Operation.TheVariants.{Return, Negate, Odd, Write}
use Rattle.pl0_machine.specs.Machine.{number_up}
use Rattle.pl0_machine.specs.Operands.{binary, bit}
use Rattle.pl0_machine.specs.declared.outcome.StepOutcome.{StepOutcome}
use Rattle.pl0_machine.specs.declared.outcome.StepOutcome.TheVariants.{Went}
use Rattle.pl0_lessons.specs.Columns.{column, left, right}

-- ---- operands, the top last

-- the operand that has n - 1 above it
abbrev pub top : ℕ → List ℤ → Option ℤ
top n stack = if nat_lt (length stack) n then None else slice_get stack (length stack - n)

-- the result of an operation of one operand, and of two; None, where it has none
abbrev pub of_one : Operation → Option ℤ → Option (Result ℤ RunFault)
of_one Negate (Some x) = Some (checked (neg_ℤ x))
of_one Odd (Some x) = Some (Ok (bit (is_odd x)))
of_one op x = None

abbrev pub of_two : Operation → Option ℤ → Option ℤ → Option (Result ℤ RunFault)
of_two op (Some x) (Some y) = binary op x y
of_two op x y = None

-- a result in the place of its operands, of which there are so many; None, where it is a fault
abbrev pub put : ℕ → List ℤ → Option (Result ℤ RunFault) → Option (List ℤ)
put n stack (Some (Ok v)) = Some (take (length stack - n) stack ++ (v ∷ []))
put n stack outcome = None

abbrev pub operated : Operation → List ℤ → Option (List ℤ)
operated Negate stack = put 1 stack (of_one Negate (top 1 stack))
operated Odd stack = put 1 stack (of_one Odd (top 1 stack))
operated op stack = put 2 stack (of_two op (top 2 stack) (top 1 stack))

-- ---- a step

-- A line: the address, the instruction, and the operands before it.
abbrev pub operand_text : ℤ → List ℕ
operand_text n = codes " " ++ signed_decimal n

abbrev pub operands_text : List ℤ → List ℕ
operands_text stack = concat (map operand_text stack)

abbrev pub instruction_and : List ℕ → List ℤ → List ℕ
instruction_and text [] = text
instruction_and text (n ∷ ns) = left 14 text ++ operands_text (n ∷ ns)

abbrev pub instruction_line : ℕ → Instruction → List ℤ → List ℕ
instruction_line address i stack =
    column (right 18 (decimal address)) ++ (instruction_and (instruction_text i) stack ++ codes "\n")

-- a number, if there is one, on top
abbrev pub with_number : Option ℤ → List ℤ → Option (List ℤ)
with_number number stack = option_map (λ n. stack ++ (n ∷ [])) number

module _ (c : Configuration) where
  -- the operands after an instruction of the newest frame; None, where it ends the step or faults
  abbrev pub after : Instruction → List ℤ → Option (List ℤ)
  after (Literal n) stack = with_number (Some n) stack
  after (Load level address) stack =
      with_number (number_up c level (address - frame_head) (length c - 1)) stack
  after (Operate op) stack = operated op stack
  after other stack = None

  -- the lines of the code from an address on, up to the instruction that ends the step or faults
  abbrev pub step_lines : List Instruction → ℕ → List ℤ → List ℕ
  step_lines [] address stack = []
  step_lines (i ∷ code) address stack =
      instruction_line address i stack ++ option_map_or (step_lines code (address + 1)) (after i stack) []

-- ---- between two steps

-- where the instruction at an address leads that ends a step; `back` is the newest frame's return address
abbrev pub led : ℕ → Instruction → ℕ → List ℤ → Option ℕ
led back (Store level cell) address stack = Some (address + 1)
led back (Operate Write) address stack = Some (address + 1)
led back (Operate Return) address stack = Some back
led back (Call level target) address stack = Some target
led back (JumpIfZero target) address stack =
    option_map (λ n. if is_zero n then target else address + 1) (top 1 stack)
led back other address stack = None

-- where a step leads, of which the code stands from an address on
abbrev pub step_led : Configuration → ℕ → List Instruction → ℕ → List ℤ → Option ℕ
step_led c back [] address stack = None
step_led c back (i ∷ code) address stack =
    option_map_or (step_led c back code (address + 1)) (after c i stack) (led back i address stack)

-- From there a jump may lead to the next step, or to the beginning of a block.
abbrev pub entered_lines : ℕ → Option Instruction → List ℕ
entered_lines address (Some (Enter count)) = instruction_line address (Enter count) []
entered_lines address other = []

abbrev pub jumped_lines : List Instruction → ℕ → Instruction → List ℕ
jumped_lines code address (Jump target) =
    instruction_line address (Jump target) [] ++ entered_lines target (slice_get code target)
jumped_lines code address other = []

abbrev pub passed_lines : List Instruction → ℕ → List ℕ
passed_lines code address = option_map_or (jumped_lines code address) (slice_get code address) []

-- where the run goes on
abbrev pub onward_lines : List Instruction → StepOutcome → Option ℕ → List ℕ
onward_lines code (Went written) (Some to) = passed_lines code to
onward_lines code outcome to = []

-- what is passed before the first step
abbrev pub first_lines : List Instruction → ℕ → List ℕ
first_lines code zero = passed_lines code 0
first_lines code (suc position) = []
