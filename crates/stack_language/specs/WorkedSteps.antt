-- States worked examples: what each instruction does, which fail, and the steps of a program. Each was computed from
-- the definitions.
use Rattle.std.specs.Prelude.{◌≡◌, ℕ, ◌-◌, ◌^◌, ℤ, pos, negsuc, List, [], ◌∷◌, map, replicate, codes}
use Rattle.debuggee.specs.Plain.{PlainStep, Goes, Prints, Ends, Fails}
use Rattle.stack_language.specs.declared.program.Instruction.{Instruction}
use Rattle.stack_language.specs.declared.program.Instruction.TheVariants.{Nothing, Push, Load, Store, Calculate, Print, Jump, JumpZero, Call, Return}
use Rattle.stack_language.specs.declared.program.Operator.TheVariants.{Add, Sub, Mul, Div}
use Rattle.stack_language.specs.declared.state.Outcome.{Outcome}
use Rattle.stack_language.specs.declared.state.Outcome.TheVariants.{Went, Printed, Ended, Failed}
use Rattle.stack_language.specs.declared.state.Fault.TheVariants.{Overflow, DivisionByZero, TooFew, TooMany}
use Rattle.stack_language.specs.Language.{PlainState, Done, done, next_of, step_of}

abbrev pub state : ℕ → List ℤ → List ℕ → List ℤ → PlainState
state line numbers returns variables =
    record { line = line; numbers = numbers; returns = returns; variables = variables }

abbrev pub to : Outcome → PlainState → Done
to outcome s = record { outcome = outcome; state = s }

-- ---- instructions

-- line 4 comes next; 3 is on top of 20; two calls are alive; `a` is 5, and `b` is 6
abbrev pub before : PlainState
before = state 4 (pos 3 ∷ pos 20 ∷ []) (9 ∷ 2 ∷ []) (pos 5 ∷ pos 6 ∷ [])

abbrev pub after : ℕ → List ℤ → Done
after line numbers = to Went (state line numbers (9 ∷ 2 ∷ []) (pos 5 ∷ pos 6 ∷ []))

abbrev pub NumbersMove : Type 0
NumbersMove =
    map (λ i. done i before) (Nothing ∷ Push (negsuc 6) ∷ Load 1 ∷ Store 1 ∷ Print ∷ [])
    ≡ after 5 (pos 3 ∷ pos 20 ∷ []) ∷ after 5 (negsuc 6 ∷ pos 3 ∷ pos 20 ∷ [])
    ∷ after 5 (pos 6 ∷ pos 3 ∷ pos 20 ∷ [])
    ∷ to Went (state 5 (pos 20 ∷ []) (9 ∷ 2 ∷ []) (pos 5 ∷ pos 3 ∷ []))
    ∷ to (Printed (pos 3)) (state 5 (pos 20 ∷ []) (9 ∷ 2 ∷ []) (pos 5 ∷ pos 6 ∷ [])) ∷ []

-- 20 + 3, 20 - 3, 20 * 3 and 20 / 3
abbrev pub NumbersAreCalculated : Type 0
NumbersAreCalculated =
    map (λ operator. done (Calculate operator) before) (Add ∷ Sub ∷ Mul ∷ Div ∷ [])
    ≡ after 5 (pos 23 ∷ []) ∷ after 5 (pos 17 ∷ []) ∷ after 5 (pos 60 ∷ []) ∷ after 5 (pos 6 ∷ []) ∷ []

-- -7 / 2 is -3
abbrev pub QuotientsAreRounded : Type 0
QuotientsAreRounded =
    done (Calculate Div) (state 0 (pos 2 ∷ negsuc 6 ∷ []) [] []) ≡ to Went (state 1 (negsuc 2 ∷ []) [] [])

-- a call goes to a line, and comes back to the line after it
abbrev pub LinesFollow : Type 0
LinesFollow =
    map (λ i. done i before) (Jump 8 ∷ JumpZero 8 ∷ Call 8 ∷ Return ∷ [])
    ≡ after 8 (pos 3 ∷ pos 20 ∷ []) ∷ after 5 (pos 20 ∷ [])
    ∷ to Went (state 8 (pos 3 ∷ pos 20 ∷ []) (5 ∷ 9 ∷ 2 ∷ []) (pos 5 ∷ pos 6 ∷ []))
    ∷ to Went (state 9 (pos 3 ∷ pos 20 ∷ []) (2 ∷ []) (pos 5 ∷ pos 6 ∷ [])) ∷ []

abbrev pub ZeroJumps : Type 0
ZeroJumps =
    map (λ n. done (JumpZero 8) (state 4 (n ∷ []) [] [])) (pos 0 ∷ negsuc 0 ∷ [])
    ≡ to Went (state 8 [] [] []) ∷ to Went (state 5 [] [] []) ∷ []

-- ---- faults

abbrev pub NumbersAreMissing : Type 0
NumbersAreMissing =
    map (λ i. done i (state 4 [] [] [])) (Store 0 ∷ Calculate Add ∷ Print ∷ JumpZero 8 ∷ Return ∷ [])
    ≡ to (Failed TooFew) (state 4 [] [] []) ∷ to (Failed TooFew) (state 4 [] [] [])
    ∷ to (Failed TooFew) (state 4 [] [] []) ∷ to (Failed TooFew) (state 4 [] [] []) ∷ to Ended (state 4 [] [] []) ∷ []

abbrev pub largest : ℤ
largest = pos (2 ^ 63 - 1)

abbrev pub smallest : ℤ
smallest = negsuc (2 ^ 63 - 1)

abbrev pub ResultsOverflow : Type 0
ResultsOverflow =
    (map (λ n. (done (Calculate Add) (state 4 (n ∷ largest ∷ []) [] [])).outcome) (pos 0 ∷ pos 1 ∷ [])
    ≡ Went ∷ Failed Overflow ∷ [])
    × (map (λ n. (done (Calculate Div) (state 4 (n ∷ smallest ∷ []) [] [])).outcome) (pos 1 ∷ negsuc 0 ∷ pos 0 ∷ [])
    ≡ Went ∷ Failed Overflow ∷ Failed DivisionByZero ∷ [])
    × (done (Calculate Add) (state 4 (pos 1 ∷ []) [] []) ≡ to (Failed TooFew) (state 4 (pos 1 ∷ []) [] []))

-- there is room for 1,000 numbers, and for 1,000 calls
abbrev pub RoomIsLimited : Type 0
RoomIsLimited =
    (map (λ n. (done (Push (pos 1)) (state 4 (replicate n (pos 1)) [] [])).outcome) (999 ∷ 1000 ∷ [])
    ≡ Went ∷ Failed TooMany ∷ [])
    × (map (λ n. (done (Call 8) (state 4 [] (replicate n 1) [])).outcome) (999 ∷ 1000 ∷ [])
    ≡ Went ∷ Failed TooMany ∷ [])

-- ---- a program

-- `push 40`, `call 4`, `ret`, an empty line, `print`, `ret`
abbrev pub program : List Instruction
program = Push (pos 40) ∷ Call 4 ∷ Return ∷ Nothing ∷ Print ∷ Return ∷ []

-- its steps: it prints `40`, and ends, as it would after its last line
abbrev pub StepsFollow : Type 0
StepsFollow =
    (map (λ s. next_of program s) (state 0 [] [] [] ∷ state 1 (pos 40 ∷ []) [] [] ∷ state 4 (pos 40 ∷ []) (2 ∷ []) []
    ∷ state 5 [] (2 ∷ []) [] ∷ state 2 [] [] [] ∷ state 6 [] [] [] ∷ [])
    ≡ to Went (state 1 (pos 40 ∷ []) [] []) ∷ to Went (state 4 (pos 40 ∷ []) (2 ∷ []) [])
    ∷ to (Printed (pos 40)) (state 5 [] (2 ∷ []) []) ∷ to Went (state 2 [] [] []) ∷ to Ended (state 2 [] [] [])
    ∷ to Ended (state 6 [] [] []) ∷ [])

abbrev pub failing : List ℕ → List ℕ → PlainStep
failing name text = Fails (record { name = name; text = text })

abbrev pub StepsTell : Type 0
StepsTell =
    map step_of (Went ∷ Printed (negsuc 6) ∷ Ended ∷ map Failed (Overflow ∷ DivisionByZero ∷ TooFew ∷ TooMany ∷ []))
    ≡ Goes ∷ Prints (codes "-7\n") ∷ Ends 0 ∷ failing (codes "Overflow") (codes "overflow")
    ∷ failing (codes "DivisionByZero") (codes "division by zero")
    ∷ failing (codes "TooFew") (codes "a number is missing on the stack")
    ∷ failing (codes "TooMany") (codes "there are too many numbers or calls") ∷ []
