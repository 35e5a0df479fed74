-- States worked examples of runs: frames, values and steps of the two programs of `WorkedText`, at the positions that
-- the examples of breakpoints speak of. Each was computed from the definitions.
use Rattle.std.specs.Prelude.{◌≡◌, ℕ, [], ◌∷◌, Option, Some, None, option_map, pos, negsuc, map, codes, Result, Ok, Err, ℤ, true, false}
use Rattle.pl0_tree.specs.declared.tree.Operator.TheVariants.{Add, Subtract, Multiply, Divide}
use Rattle.pl0_tree.specs.declared.tree.Relation.TheVariants.{Equal, Unequal, Less, AtMost, Greater, AtLeast}
use Rattle.pl0_tree.specs.Tree.{Number, Negate, Binary, Odd, Compare, Block}
use Rattle.pl0_tree.specs.Scope.{Path}
use Rattle.pl0_tree.specs.Steps.{StepAt}
use Rattle.pl0_meaning.specs.declared.RunFault.{RunFault}
use Rattle.pl0_meaning.specs.declared.RunFault.TheVariants.{Overflow, DivideByZero}
use Rattle.pl0_meaning.specs.Values.{Frame, Configuration, frame_at, next_step, value, truth}
use Rattle.pl0_meaning.specs.Runs.{at, outcome, written, Stuck}
use Rattle.dbg_plan.specs.WorkedText.{nested, loop}
use Rattle.dbg_plan.specs.WorkedPlans.{name}

abbrev frames : Option Configuration → Configuration
frames None = []
frames (Some c) = c

-- where a step stands
abbrev line_and_column : StepAt → ℕ × ℕ
line_and_column s = (s.place.line, s.place.column)

-- where the next step of a frame stands
abbrev stands : Block → Option Frame → Option (ℕ × ℕ)
stands main None = None
stands main (Some f) = option_map line_and_column (next_step main f)

-- the block that a frame is of, and the number of the frame to which it is linked
abbrev block_and_link : Frame → Path × ℕ
block_and_link f = (f.block, f.link)

-- ---- frames

-- All variables of a new frame are 0: that of the main block at the start, and k where p was called.
abbrev pub VariablesBeginAtZero : Type 0
VariablesBeginAtZero =
    map (λ m. map (λ (f : Frame). f.numbers) (frames (at nested m))) (0 ∷ 2 ∷ 6 ∷ [])
    ≡ ((pos 0 ∷ []) ∷ []) ∷ ((pos 0 ∷ []) ∷ (pos 2 ∷ []) ∷ [])
    ∷ ((pos 0 ∷ []) ∷ (pos 2 ∷ []) ∷ (pos 1 ∷ []) ∷ []) ∷ []

-- At position 10 four frames are alive, numbered from 0, the main block's: the others are of p, of p and of q. No frame
-- has the number 4.
abbrev pub FramesAreNumbered : Type 0
FramesAreNumbered =
    map (λ i. option_map block_and_link (frame_at (frames (at nested 10)) i))
    (0 ∷ 1 ∷ 2 ∷ 3 ∷ 4 ∷ [])
    ≡ Some ([], 0) ∷ Some (0 ∷ [], 0) ∷ Some (0 ∷ [], 0) ∷ Some (0 ∷ 0 ∷ [], 2) ∷ None ∷ []

-- The next step of each: that of a frame below is the call that it is in.
abbrev pub NextStepsStand : Type 0
NextStepsStand =
    map (λ i. stands nested (frame_at (frames (at nested 10)) i)) (0 ∷ 1 ∷ 2 ∷ 3 ∷ 4 ∷ [])
    ≡ Some (13, 15) ∷ Some (9, 15) ∷ Some (10, 1) ∷ Some (5, 1) ∷ None ∷ []

-- What k is in each of these frames, and what n is at position 4: a name is looked for along the static links, so k in
-- q is that of the p around it. In the main block there is no k, which counts as 0.
abbrev pub NamesAreFound : Type 0
NamesAreFound =
    (map (λ i. value nested (frames (at nested 10)) i (name (codes "k"))) (0 ∷ 1 ∷ 2 ∷ 3 ∷ [])
    ≡ Ok (pos 0) ∷ Ok (pos 2) ∷ Ok (pos 1) ∷ Ok (pos 1) ∷ [])
    × (map (λ i. value nested (frames (at nested 4)) i (name (codes "n"))) (0 ∷ 1 ∷ []) ≡ Ok (pos 1) ∷ Ok (pos 1) ∷ [])

-- ---- values

-- a quotient of two numbers, in a program without frames
abbrev by : ℤ → ℤ → Result ℤ RunFault
by x y = value loop [] 0 (Binary Divide (Number x) (Number y))

-- A quotient is toward zero. Dividing by 0 is a fault, and so is what doesn't fit in 64 bits.
abbrev pub QuotientsAre : Type 0
QuotientsAre =
    by (pos 7) (pos 2) ∷ by (negsuc 6) (pos 2) ∷ by (pos 7) (negsuc 1) ∷ by (negsuc 6) (negsuc 1) ∷ by (pos 1) (pos 0)
    ∷ by (negsuc 9223372036854775807) (negsuc 0) ∷ []
    ≡ Ok (pos 3) ∷ Ok (negsuc 2) ∷ Ok (negsuc 2) ∷ Ok (pos 3) ∷ Err DivideByZero ∷ Err Overflow ∷ []

-- What doesn't fit is a fault of each operation. If both operands fault, the left one's counts.
abbrev pub OperationsAre : Type 0
OperationsAre =
    map (value loop [] 0)
    (Binary Subtract (Number (pos 2)) (Number (pos 5)) ∷ Binary Multiply (Number (negsuc 2)) (Number (pos 4))
    ∷ Negate (Number (pos 3)) ∷ Negate (Number (negsuc 9223372036854775807))
    ∷ Binary Subtract (Number (negsuc 9223372036854775807)) (Number (pos 1))
    ∷ Binary Multiply (Number (pos 4611686018427387904)) (Number (pos 2))
    ∷ Binary Add (Number (pos 9223372036854775807)) (Number (pos 1))
    ∷ Binary Add (Binary Divide (Number (pos 1)) (Number (pos 0)))
    (Binary Add (Number (pos 9223372036854775807)) (Number (pos 1))) ∷ [])
    ≡ Ok (negsuc 2) ∷ Ok (negsuc 11) ∷ Ok (negsuc 2) ∷ Err Overflow ∷ Err Overflow ∷ Err Overflow ∷ Err Overflow
    ∷ Err DivideByZero ∷ []

-- the relations of 2 to 1, 2, 3 and -3, and which numbers are odd
abbrev pub ConditionsAre : Type 0
ConditionsAre =
    (map (λ r. map (λ v. truth loop [] 0 (Compare r (Number (pos 2)) (Number v)))
    (pos 1 ∷ pos 2 ∷ pos 3 ∷ negsuc 2 ∷ []))
    (Equal ∷ Unequal ∷ Less ∷ AtMost ∷ Greater ∷ AtLeast ∷ [])
    ≡ (Ok false ∷ Ok true ∷ Ok false ∷ Ok false ∷ []) ∷ (Ok true ∷ Ok false ∷ Ok true ∷ Ok true ∷ [])
    ∷ (Ok false ∷ Ok false ∷ Ok true ∷ Ok false ∷ []) ∷ (Ok false ∷ Ok true ∷ Ok true ∷ Ok false ∷ [])
    ∷ (Ok true ∷ Ok false ∷ Ok false ∷ Ok true ∷ []) ∷ (Ok true ∷ Ok true ∷ Ok false ∷ Ok true ∷ []) ∷ [])
    × (map (λ v. truth loop [] 0 (Odd (Number v))) (pos 0 ∷ pos 3 ∷ negsuc 2 ∷ negsuc 1 ∷ [])
    ≡ Ok false ∷ Ok true ∷ Ok true ∷ Ok false ∷ [])

-- ---- steps

-- What is written, and the end: after it there is no position, and no step.
abbrev pub RunsEnd : Type 0
RunsEnd =
    (written nested 0 20 ≡ pos 1 ∷ pos 2 ∷ []) × (written nested 12 13 ≡ pos 1 ∷ []) × (written nested 13 17 ≡ [])
    × (map (at nested) (20 ∷ 21 ∷ []) ≡ Some [] ∷ None ∷ []) × (map (at loop) (14 ∷ 15 ∷ []) ≡ Some [] ∷ None ∷ [])
    × (map (outcome loop) (14 ∷ 15 ∷ []) ≡ Stuck ∷ Stuck ∷ [])
