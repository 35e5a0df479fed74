-- Defines lines and frames, what a debugger sees of a state, and what a client is shown.
use Rattle.std.specs.Prelude.{◌≡◌, ◌≤◌, ◌<◌, ◌+◌, ◌-◌, ◌^◌, ℕ, min, map, ℤ, pos, Bool, true, false, not, nat_eq, nat_le, List, [], ◌∷◌, ◌++◌, length, codes, decimal, slice_get, unwrap_or, option_and_then, Option, None, Some, Result, Ok, Err, if◌then◌else◌}
use Rattle.std.specs.Fmt.{signed_decimal}
use Rattle.std.specs.List.{range_with_len}
use Rattle.std.specs.Option.{option_map_or}
use Rattle.std.specs.Ordering.{int_eq}
use Rattle.std.specs.Str.Lines.{lines}
use Rattle.serde_json.specs.Find.{get, as_i64, as_number}
use Rattle.serde_json.specs.Read.{read}
use Rattle.debuggee.specs.Shown.{PlainFrame, PlainVariable, Shows, nothing_shown}
use Rattle.debuggee.specs.declared.language.Location.{Location}
use Rattle.debuggee.specs.Due.{Sight}
use Rattle.debuggee.specs.Plain.{PlainEvaluated, Value, NoValue}
use Rattle.stack_language.specs.declared.machine.Machine.{Machine}
use Rattle.stack_language.specs.declared.program.Instruction.{Instruction}
use Rattle.stack_language.specs.declared.program.Instruction.TheVariants as instruction
use Rattle.stack_language.specs.Text.{AreRead, IsFirstMistake, first_letter, variable_named}
use Rattle.stack_language.specs.Language.{PlainState, IsInitial, plain_state, value_of, variable_count}

-- whether an instruction does something: a line that is empty, or a comment, has one that doesn't
abbrev pub does_something : Instruction → Bool
does_something instruction.Nothing = false
does_something _ = true

-- whether a line has an instruction; the first line is 0
abbrev pub has_instruction : Machine → ℕ → Bool
has_instruction m line = option_map_or does_something (slice_get m.program.items line) false

-- the first line at or after `from` that has an instruction, or that there is none
abbrev pub IsFirstFrom : Machine → ℕ → Option ℕ → Type 0
IsFirstFrom m from None = (line : ℕ) → from ≤ line → has_instruction m line ≡ false
IsFirstFrom m from (Some first) =
    (from ≤ first) × (has_instruction m first ≡ true)
    × ((line : ℕ) → from ≤ line → line < first → has_instruction m line ≡ false)

-- how many calls are alive
abbrev pub call_count : Machine → ℕ
call_count m = length m.state.returns.items

-- The line where a frame stands. The newest frame is 0, and stands at the line that comes next; each other one stands
-- at the call that made the frame before it, in front of the line to which that returns.
abbrev pub line_of_frame : Machine → ℕ → ℕ
line_of_frame m frame =
    if nat_eq frame 0 then m.state.line
    else unwrap_or (slice_get m.state.returns.items (call_count m - frame)) 0 - 1

-- the line that an instruction calls
abbrev pub called : Option Instruction → Option ℕ
called (Some (instruction.Call line)) = Some line
called _ = None

-- The line that was called when a frame was made: the call stands where the frame before it does. No call made the
-- oldest.
abbrev pub line_called : Machine → ℕ → Option ℕ
line_called m frame =
    if nat_le (call_count m) frame then None else called (slice_get m.program.items (line_of_frame m (frame + 1)))

-- ---- expressions

-- a condition holds unless its value is 0
abbrev pub evaluated : ℤ → PlainEvaluated
evaluated value = Value (signed_decimal value) (not (int_eq value (pos 0)))

abbrev pub no_variable : List ℕ
no_variable = codes "no variable has this name"

abbrev pub value_at : Machine → Option ℕ → PlainEvaluated
value_at m None = NoValue no_variable
value_at m (Some variable) = evaluated (value_of variable (plain_state m.state))

-- ---- what a debugger sees

-- A program stops at lines that have an instruction. A frame is alive for the program, and one for each call. An
-- expression is the name of a variable, and evaluates to the same in each frame.
abbrev pub sees : Sight Machine
sees = record {
  place_of = λ m. if has_instruction m m.state.line then Some m.state.line else None;
  depth_of = λ m. call_count m + 1;
  value_of = λ m frame expression. value_at m (variable_named expression);
}

-- ---- what a client is shown

-- the number under `input` of a launch's arguments; 0 where there is none
abbrev pub input_in : List ℕ → ℤ
input_in arguments =
    unwrap_or (option_and_then (λ v. option_and_then as_i64 (as_number v))
    (option_and_then (get (codes "input")) (read arguments))) (pos 0)

-- A program is what the lines of its text are, before its first step, with the launch's input; a mistake is told of the
-- first line that is no instruction.
abbrev pub reads_as : List ℕ → List ℕ → Result Machine (List ℕ) → Type 0
reads_as text arguments (Ok m) =
    AreRead (lines text) m.program.items × IsInitial (input_in arguments) (plain_state m.state)
reads_as text arguments (Err mistake) =
    (line : ℕ) × IsFirstMistake (lines text) line
    × (mistake ≡ codes "line " ++ (decimal line ++ codes " is no instruction"))

-- the number of a line for the client, which counts from 1
abbrev pub shown_line : ℕ → ℕ
shown_line line = min (line + 1) (2 ^ 64 - 1)

-- a breakpoint is set at the first instruction at or after its line
abbrev pub first_place : Machine → ℕ → Option Location → Type 0
first_place m line None = IsFirstFrom m (line - 1) None
first_place m line (Some location) =
    IsFirstFrom m (line - 1) (Some location.place) × (location.line ≡ shown_line location.place)

-- a condition that is no name of a variable is a mistake
abbrev pub mistake_of : Machine → ℕ → List ℕ → List ℕ → Type 0
mistake_of m place condition mistake = (variable_named condition ≡ None) × (mistake ≡ no_variable)

-- a frame is called after the line that was called, and the oldest `main`
abbrev pub name_of_call : Option ℕ → List ℕ
name_of_call None = codes "main"
name_of_call (Some line) = codes "line " ++ decimal (shown_line line)

abbrev pub name_of_frame : Machine → ℕ → List ℕ
name_of_frame m index = name_of_call (line_called m index)

abbrev pub frame_of : Machine → ℕ → PlainFrame → Type 0
frame_of m index frame =
    frame ≡ record {
      name = name_of_frame m index;
      line = shown_line (line_of_frame m index);
      column = 1;
    }

abbrev pub variable_of : PlainState → ℕ → PlainVariable
variable_of s variable =
    record { name = (first_letter + variable) ∷ []; value = signed_decimal (value_of variable s); inside = None }

-- the stack is shown as a variable with the number 0, whose value is how many numbers are on it
abbrev pub stack_number : ℕ
stack_number = 0

abbrev pub stack_of : PlainState → PlainVariable
stack_of s = record { name = codes "stack"; value = decimal (length s.numbers); inside = Some stack_number }

-- each frame has one scope, with the stack and all variables
abbrev pub scopes_of : Machine → ℕ → List (List ℕ) → Type 0
scopes_of m frame names = names ≡ codes "variables" ∷ []

abbrev pub variables_of : Machine → ℕ → ℕ → List PlainVariable → Type 0
variables_of m frame scope all =
    all ≡ stack_of (plain_state m.state)
    ∷ map (variable_of (plain_state m.state)) (range_with_len 0 variable_count)

-- a number on the stack, by its place, of which the top is 0
abbrev pub number_at : PlainState → ℕ → PlainVariable
number_at s place =
    record {
      name = decimal place;
      value = signed_decimal (unwrap_or (slice_get s.numbers place) (pos 0));
      inside = None;
    }

-- inside the stack are its numbers, the top one first
abbrev pub inside_of : Machine → ℕ → List PlainVariable → Type 0
inside_of m number all =
    (number ≡ stack_number)
    × (all ≡ map (number_at (plain_state m.state)) (range_with_len 0 (length m.state.numbers.items)))

abbrev pub shows : Shows Machine
shows = record nothing_shown {
  reads_as = reads_as;
  first_place = first_place;
  mistake_of = mistake_of;
  frame_of = frame_of;
  scopes_of = scopes_of;
  variables_of = variables_of;
  inside_of = inside_of;
}
