-- Defines the stack language: what each instruction does to the state of a program.
use Rattle.std.specs.Prelude.{◌≡◌, ◌<◌, ℕ, ◌+◌, ◌^◌, zero, suc, ℤ, pos, negsuc, ◌+ℤ◌, ◌-ℤ◌, ◌*ℤ◌, int_div, nat_lt, Bool, if◌then◌else◌, List, [], ◌∷◌, ◌++◌, length, slice_get, slice_set, reverse, drop, replicate, codes, Option, None, Some, unwrap_or, Result, Ok, Err}
use Rattle.std.specs.Ordering.{int_eq}
use Rattle.std.specs.Fmt.{signed_decimal}
use Rattle.debuggee.specs.Plain.{PlainStep, Goes, Prints, Ends, Fails}
use Rattle.stack_language.specs.declared.machine.Machine.{Machine}
use Rattle.stack_language.specs.declared.program.Instruction.{Instruction}
use Rattle.stack_language.specs.declared.program.Instruction.TheVariants.{Nothing, Push, Load, Store, Calculate, Print, Jump, JumpZero, Call, Return}
use Rattle.stack_language.specs.declared.program.Operator.{Operator}
use Rattle.stack_language.specs.declared.program.Operator.TheVariants.{Add, Sub, Mul, Div}
use Rattle.stack_language.specs.declared.state.State.{State}
use Rattle.stack_language.specs.declared.state.Outcome.{Outcome}
use Rattle.stack_language.specs.declared.state.Outcome.TheVariants.{Went, Printed, Ended, Failed}
use Rattle.stack_language.specs.declared.state.Fault.{Fault}
use Rattle.stack_language.specs.declared.state.Fault.TheVariants.{Overflow, DivisionByZero, TooFew, TooMany}

-- A state: the line that comes next, of which the first is 0; the numbers on the stack, the top one first; the lines
-- where the calls that are alive return to, the newest call first; and the values of the variables, from `a` on.
pub record PlainState : Type 0 where
  pub line : ℕ
  pub numbers : List ℤ
  pub returns : List ℕ
  pub variables : List ℤ

abbrev pub plain_state : State → PlainState
plain_state s = record {
  line = s.line;
  numbers = reverse s.numbers.items;
  returns = reverse s.returns.items;
  variables = s.variables;
}

-- how many variables there are, `a` to `z`
abbrev pub variable_count : ℕ
variable_count = 26

-- the value of a variable, of which `a` is 0
abbrev pub value_of : ℕ → PlainState → ℤ
value_of variable s = unwrap_or (slice_get s.variables variable) (pos 0)

abbrev pub set : ℕ → ℤ → PlainState → PlainState
set variable number s = record s { variables = slice_set s.variables variable number }

-- the state before the first line, where the input is the value of `a`
abbrev pub IsInitial : ℤ → PlainState → Type 0
IsInitial input s =
    s ≡ set 0 input (record {
      line = 0;
      numbers = [];
      returns = [];
      variables = replicate variable_count (pos 0);
    })

-- ---- numbers of 64 bits

abbrev pub fits : ℤ → Bool
fits (pos n) = nat_lt n (2 ^ 63)
fits (negsuc n) = nat_lt n (2 ^ 63)

abbrev pub checked : ℤ → Result ℤ Fault
checked z = if fits z then Ok z else Err Overflow

-- a quotient, rounded toward zero
abbrev pub quotient : ℤ → ℤ → Result ℤ Fault
quotient left (pos zero) = Err DivisionByZero
quotient left (pos (suc n)) = checked (int_div left (pos (suc n)))
quotient left (negsuc n) = checked (int_div left (negsuc n))

-- what two numbers make
abbrev pub result_of : Operator → ℤ → ℤ → Result ℤ Fault
result_of Add left right = checked (left +ℤ right)
result_of Sub left right = checked (left -ℤ right)
result_of Mul left right = checked (left *ℤ right)
result_of Div left right = quotient left right

-- ---- instructions

-- what an instruction comes to, and the state after it
pub record Done : Type 0 where
  pub outcome : Outcome
  pub state : PlainState

abbrev pub on_line : ℕ → PlainState → PlainState
on_line line s = record s { line = line }

-- the next line comes next
abbrev pub goes_on : Outcome → PlainState → Done
goes_on outcome s = record { outcome = outcome; state = on_line (s.line + 1) s }

abbrev pub jumps : ℕ → PlainState → Done
jumps line s = record { outcome = Went; state = on_line line s }

-- an instruction that fails changes nothing
abbrev pub fails : Fault → PlainState → Done
fails fault s = record { outcome = Failed fault; state = s }

-- at most 1,000 numbers are on the stack, and at most 1,000 calls are alive
abbrev pub most : ℕ
most = 1000

-- the number is put on the stack
abbrev pub puts : ℤ → PlainState → Done
puts number s =
    if nat_lt (length s.numbers) most then goes_on Went (record s { numbers = number ∷ s.numbers }) else fails TooMany s

-- the top number is taken
abbrev pub takes_one : PlainState → List ℤ → (ℤ → PlainState → Done) → Done
takes_one s [] next = fails TooFew s
takes_one s (top ∷ below) next = next top (record s { numbers = below })

abbrev pub made : PlainState → List ℤ → Result ℤ Fault → Done
made s below (Err fault) = fails fault s
made s below (Ok number) = goes_on Went (record s { numbers = number ∷ below })

-- the two top numbers make one
abbrev pub calculates : Operator → PlainState → List ℤ → Done
calculates operator s [] = fails TooFew s
calculates operator s (right ∷ []) = fails TooFew s
calculates operator s (right ∷ left ∷ below) = made s below (result_of operator left right)

-- the newest call returns; outside of a call the program ends
abbrev pub returns_from_call : PlainState → List ℕ → Done
returns_from_call s [] = record { outcome = Ended; state = s }
returns_from_call s (line ∷ older) = jumps line (record s { returns = older })

abbrev pub done : Instruction → PlainState → Done
done Nothing s = goes_on Went s
done (Push number) s = puts number s
done (Load variable) s = puts (value_of variable s) s
done (Store variable) s = takes_one s s.numbers (λ top t. goes_on Went (set variable top t))
done (Calculate operator) s = calculates operator s s.numbers
done Print s = takes_one s s.numbers (λ top t. goes_on (Printed top) t)
done (Jump line) s = jumps line s
done (JumpZero line) s = takes_one s s.numbers (λ top t. if int_eq top (pos 0) then jumps line t else goes_on Went t)
done (Call line) s =
    if nat_lt (length s.returns) most then jumps line (record s { returns = (s.line + 1) ∷ s.returns })
    else fails TooMany s
done Return s = returns_from_call s s.returns

-- ---- steps

-- the instruction at the next line is carried out; the program ends after its last line
abbrev pub done_at : Option Instruction → PlainState → Done
done_at None s = record { outcome = Ended; state = s }
done_at (Some instruction) s = done instruction s

abbrev pub next_of : List Instruction → PlainState → Done
next_of program s = done_at (slice_get program s.line) s

abbrev pub name_of : Fault → List ℕ
name_of Overflow = codes "Overflow"
name_of DivisionByZero = codes "DivisionByZero"
name_of TooFew = codes "TooFew"
name_of TooMany = codes "TooMany"

abbrev pub reason : Fault → List ℕ
reason Overflow = codes "overflow"
reason DivisionByZero = codes "division by zero"
reason TooFew = codes "a number is missing on the stack"
reason TooMany = codes "there are too many numbers or calls"

-- what is told of a step; a number that is printed ends its line
abbrev pub step_of : Outcome → PlainStep
step_of Went = Goes
step_of (Printed number) = Prints (signed_decimal number ++ codes "\n")
step_of Ended = Ends 0
step_of (Failed fault) = Fails (record { name = name_of fault; text = reason fault })

-- The steps of a program, which stays the same.
abbrev pub takes : Machine → PlainStep → Machine → Type 0
takes m step n =
    let next = next_of m.program.items (plain_state m.state) in
    (step ≡ step_of next.outcome) × (plain_state n.state ≡ next.state) × (n.program ≡ m.program)

-- ---- for private contracts

abbrev pub AreTopTwo : List ℤ → Option (ℤ × ℤ) → Type 0
AreTopTwo numbers None = length numbers < 2
AreTopTwo numbers (Some two) = numbers ≡ two.1 ∷ (two.0 ∷ drop 2 numbers)

abbrev pub make_one : ℤ → PlainState → PlainState
make_one number s = record s { numbers = number ∷ drop 2 s.numbers }

abbrev pub Does : Instruction → State → Outcome → State → Type 0
Does instruction s outcome t =
    (outcome ≡ (done instruction (plain_state s)).outcome) × (plain_state t ≡ (done instruction (plain_state s)).state)

abbrev pub Steps : Machine → Outcome → Machine → Type 0
Steps m outcome n =
    let next = next_of m.program.items (plain_state m.state) in
    (outcome ≡ next.outcome) × (plain_state n.state ≡ next.state) × (n.program ≡ m.program)
