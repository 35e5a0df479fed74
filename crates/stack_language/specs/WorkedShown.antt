-- States worked examples: what a debugger sees of a state, and what a client is shown. Each was computed from the
-- definitions.
use Rattle.std.specs.Prelude.{◌≡◌, ℕ, pos, negsuc, true, false, List, [], ◌∷◌, length, map, replicate, codes, None, Some}
use Rattle.debuggee.specs.Plain.{Value, NoValue}
use Rattle.debuggee.specs.Shown.{PlainFrame, PlainVariable}
use Rattle.stack_language.specs.declared.machine.Machine.{Machine}
use Rattle.stack_language.specs.declared.program.Instruction.TheVariants.{Call}
use Rattle.stack_language.specs.Shown.{evaluated, first_place, frame_of, has_instruction, inside_of, mistake_of, scopes_of, sees, stack_of, variable_of, variables_of}
use Rattle.stack_language.specs.Language.{plain_state}
use Rattle.stack_language.specs.Text.{variable_named}
use Rattle.stack_language.specs.WorkedSteps.{program, state}

-- the names of variables
abbrev pub NamesMean : Type 0
NamesMean =
    map variable_named (codes "a" ∷ codes "z" ∷ codes "A" ∷ codes "ab" ∷ [] ∷ [])
    ≡ Some 0 ∷ Some 25 ∷ None ∷ None ∷ None ∷ []

-- a condition whose value is 0 doesn't hold
abbrev pub ValuesHold : Type 0
ValuesHold =
    map evaluated (pos 0 ∷ pos 5 ∷ negsuc 6 ∷ [])
    ≡ Value (codes "0") false ∷ Value (codes "5") true ∷ Value (codes "-7") true ∷ []

-- a name means the same in each frame
abbrev pub ExpressionsAreSeen : Type 0
ExpressionsAreSeen =
    (m : Machine) → m.state.variables ≡ pos 5 ∷ negsuc 6 ∷ replicate 24 (pos 0)
    → (map (sees.value_of m 0) (codes "b" ∷ codes "z" ∷ codes "B" ∷ [])
    ≡ Value (codes "-7") true ∷ Value (codes "0") false ∷ NoValue (codes "no variable has this name") ∷ [])
    × (sees.value_of m 1 (codes "b") ≡ Value (codes "-7") true)

abbrev pub variable : List ℕ → List ℕ → PlainVariable
variable name value = record { name = name; value = value; inside = None }

abbrev pub VariablesAreShown : Type 0
VariablesAreShown =
    map (variable_of (state 0 [] [] (pos 5 ∷ negsuc 6 ∷ []))) (0 ∷ 1 ∷ 2 ∷ [])
    ≡ variable (codes "a") (codes "5") ∷ variable (codes "b") (codes "-7") ∷ variable (codes "c") (codes "0") ∷ []

-- a frame has one scope, with the stack and all variables
abbrev pub ScopesAreShown : Type 0
ScopesAreShown =
    (m : Machine) (names : List (List ℕ)) (all : List PlainVariable) → scopes_of m 0 names → variables_of m 0 0 all
    → (names ≡ codes "variables" ∷ []) × (length all ≡ 27)

-- the stack has its numbers inside, the top one first, and no other variable has any
abbrev pub StacksAreShown : Type 0
StacksAreShown =
    (m : Machine) (all : List PlainVariable) → m.state.numbers.items ≡ pos 5 ∷ negsuc 6 ∷ []
    → (stack_of (plain_state m.state) ≡ record { name = codes "stack"; value = codes "2"; inside = Some 0 })
    × (inside_of m 0 all → all ≡ variable (codes "0") (codes "-7") ∷ variable (codes "1") (codes "5") ∷ [])
    × ¬ inside_of m 1 all

-- `B` is a mistake as a condition, and `b` is none
abbrev pub MistakesAreFound : Type 0
MistakesAreFound =
    (m : Machine) → mistake_of m 0 (codes "B") (codes "no variable has this name")
    × ((mistake : List ℕ) → ¬ mistake_of m 0 (codes "b") mistake)

-- a program stops at each line but an empty one
abbrev pub LinesAreSeen : Type 0
LinesAreSeen =
    (m : Machine) → m.program.items ≡ program
    → map (has_instruction m) (0 ∷ 1 ∷ 2 ∷ 3 ∷ 4 ∷ 5 ∷ 6 ∷ [])
    ≡ true ∷ true ∷ true ∷ false ∷ true ∷ true ∷ false ∷ []

-- where an instruction comes next, an empty line, and none, behind the last line
abbrev pub PlacesAreSeen : Type 0
PlacesAreSeen =
    (m : Machine) → m.program.items ≡ program
    → (m.state.line ≡ 2 → sees.place_of m ≡ Some 2) × (m.state.line ≡ 3 → sees.place_of m ≡ None)
    × (m.state.line ≡ 6 → sees.place_of m ≡ None)

-- A breakpoint that is asked for at an empty line is set at the next one; behind the last line none is set. The client
-- counts lines from 1.
abbrev pub PlacesAreFound : Type 0
PlacesAreFound =
    (m : Machine) → m.program.items ≡ program
    → first_place m 3 (Some (record { place = 2; line = 3 })) × first_place m 4 (Some (record { place = 4; line = 5 }))
    × first_place m 7 None

abbrev pub frame : List ℕ → ℕ → PlainFrame
frame name line = record { name = name; line = line; column = 1 }

-- Line 4 comes next. The call that is alive longest returns to line 2, so it is at line 1, where line 4 is called; the
-- newest is at line 0, where line 2 is called.
abbrev pub FramesAreShown : Type 0
FramesAreShown =
    (m : Machine) → m.program.items ≡ Call 2 ∷ Call 4 ∷ [] → m.state.line ≡ 4 → m.state.returns.items ≡ 2 ∷ 1 ∷ []
    → frame_of m 0 (frame (codes "line 3") 5) × frame_of m 1 (frame (codes "line 5") 1)
    × frame_of m 2 (frame (codes "main") 2) × (sees.depth_of m ≡ 3)
