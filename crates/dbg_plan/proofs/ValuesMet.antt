-- A condition of the machine's next step, in the newest frame.
use Rattle.std.proofs.Common.{◌≡◌, ℕ, zero, suc, ◌-◌, ◌<◌, Bool, true, List, [], ◌∷◌, ◌++◌, length, slice_get, Option, Some, None, Result, Ok, Err, refl, sym, ap, ◌∙◌, subst, arith}
use Rattle.std.specs.Option.{option_map_or}
use Rattle.std.specs.Result.{result_unwrap_or}
use Rattle.std.proofs.Math.Logic.{∥∥₁_elim}
use Rattle.std.specs.Coded.{Coded, Coded-set, codes, ×_prop, Unit-prop}
use Rattle.pl0_tree.specs.Tree.{Statement, Empty, Then, Assign, Call, Write, If, While, Block}
use Rattle.pl0_tree.specs.Plain.{plain_condition}
use Rattle.pl0_tree.specs.Scope.{Path, block_at}
use Rattle.pl0_tree.specs.Steps.{StepAt, statement_steps, steps, step_path}
use Rattle.pl0_meaning.specs.contracts.RunFault as run_fault
use Rattle.pl0_meaning.specs.declared.RunFault.{RunFault}
use Rattle.pl0_meaning.specs.Values.{Frame, Configuration, return_of, first_step, StandsBefore, truth}
use Rattle.pl0_meaning.specs.Frames.{AreLinked}
use Rattle.pl0_meaning.proofs.Linking.{frame_at-top}
use Rattle.pl0_machine.specs.Machine.{Standing, program, configuration, frames, depth_of, top_of, IsNext}
use Rattle.pl0_machine.specs.declared.located.LocatedExpression.{LocatedExpression}
use Rattle.pl0_machine.specs.declared.located.LocatedExpression.TheVariants.{Number, Variable, Negate', Binary'}
use Rattle.pl0_machine.specs.declared.located.LocatedCondition.{LocatedCondition}
use Rattle.pl0_machine.specs.declared.located.LocatedCondition.TheVariants.{Odd, Compare}
use Rattle.dbg_plan.specs.declared.breakpoint.BoundCondition.{BoundCondition}
use Rattle.dbg_plan.specs.declared.breakpoint.Breakpoint.{Breakpoint}
use Rattle.dbg_plan.specs.declared.evaluation.EvalFault.{EvalFault}
use Rattle.dbg_plan.specs.Bound.{IsConditionBound}
use Rattle.dbg_plan.specs.Due.{true_or_faulty}
use Rattle.dbg_plan.specs.Plans.{IsBoundAt}
use Rattle.dbg_plan.specs.Counting.{holds_now, IsMetHere}
use Rattle.dbg_plan.specs.Values.{answered}
use Rattle.pl0_machine.specs.LocatedValues.{located_truth, CanRead, CanTest}
use Rattle.dbg_plan.proofs.ValuesBound.{condition_reads}

-- ---- a frame's next step is one of its block

abbrev AreOf : Path → List StepAt → Type 0
AreOf q [] = Unit {0}
AreOf q (s ∷ ss) = (s.path ≡ q) × AreOf q ss

of_append : (q : Path) (xs ys : List StepAt) → AreOf q xs → AreOf q ys → AreOf q (xs ++ ys)
of_append q [] ys first second = second
of_append q (x ∷ xs) ys first second = (first.0, of_append q xs ys first.1 second)

steps_of : (s : Statement) (q : Path) → AreOf q (statement_steps s q)
steps_of Empty q = tt
steps_of (Then s t) q = of_append q (statement_steps s q) (statement_steps t q) (steps_of s q) (steps_of t q)
steps_of (Assign x e) q = (refl, tt)
steps_of (Call p x) q = (refl, tt)
steps_of (Write p e) q = (refl, tt)
steps_of (If p c body) q = (refl, steps_of body q)
steps_of (While p c body) q = (refl, steps_of body q)

first_of : (q : Path) (ss : List StepAt) (s : StepAt) → AreOf q ss → slice_get ss 0 ≡ Some s → s.path ≡ q
first_of q [] s all e = cc
first_of q (t ∷ ss) s all e = let same : t ≡ s = cc in ap (λ (u : StepAt). u.path) (sym same) ∙ all.0

return_path : (q : Path) (b : Option Block) (s : StepAt) → return_of b q ≡ Some s → s.path ≡ q
return_path q None s e = cc
return_path q (Some b) s e = path_of s e
  where
    path_of : (s : StepAt) → return_of (Some b) q ≡ Some s → s.path ≡ q
    path_of s e = ap (λ (o : Option StepAt). option_map_or (λ (u : StepAt). u.path) o q) (sym e)

next_path : (main : Block) (q : Path) (todo : List Statement) (s : StepAt) → first_step main q todo ≡ Some s
    → s.path ≡ q
next_path main q [] s e = return_path q (block_at main q) s e
next_path main q (t ∷ rest) s e = first_of q (statement_steps t q) s (steps_of t q) e

some_step : (ss : List StepAt) (n : ℕ) → n < length ss → (s : StepAt) × (slice_get ss n ≡ Some s)
some_step [] n lt = absurd (omega arith)
some_step (t ∷ ss) zero lt = (t, refl)
some_step (t ∷ ss) (suc n) lt = some_step ss n (omega arith)

pub stands_in : (main : Block) (f : Frame) (n : ℕ) → StandsBefore main f n → f.block ≡ step_path main n
stands_in main f n st =
    let s = some_step (steps main) n st.within in
    cc (next_path main f.block f.todo s.0 (sym st.next ∙ s.1), s.1)

-- ---- facts that have at most one proof

pub CanRead-prop : (c : Configuration) (i : ℕ) (b : LocatedExpression) → IsProp (CanRead c i b)
CanRead-prop c i (Number n) = Unit-prop
CanRead-prop c i (Variable level k) = hlevel codes
CanRead-prop c i (Negate' p b) = CanRead-prop c i b
CanRead-prop c i (Binary' op p first q second) = ×_prop (CanRead-prop c i first) (CanRead-prop c i second)

CanTest-prop : (c : Configuration) (i : ℕ) (b : LocatedCondition) → IsProp (CanTest c i b)
CanTest-prop c i (Odd b) = CanRead-prop c i b
CanTest-prop c i (Compare relation first second) = ×_prop (CanRead-prop c i first) (CanRead-prop c i second)

coded_truth : Coded (Result Bool RunFault)
coded_truth = hlevel (codes, run_fault.the_row.coded)

-- ---- the condition

-- it can be tested in the newest frame, and gives the truth of its source
abbrev pub IsTested : Block → Configuration → ℕ → BoundCondition → Type 0
IsTested main c top guard =
    CanTest c top guard.located.value × (located_truth c top guard.located.value ≡ truth main c (length c - 1)
    (plain_condition guard.condition))

tested : (main : Block) (c : Configuration) (n top : ℕ) (guard : BoundCondition) → AreLinked main c
    → IsNext main (top_of c) n → IsConditionBound main (step_path main n) (plain_condition guard.condition)
    guard.located.value → top ≡ length c - 1 → IsTested main c top guard
tested main [] n top guard linked next is at = absurd next
tested main (f ∷ below) n top guard linked next is at =
    let here : length below ≡ length (f ∷ below) - 1 = omega arith in
    let bound = subst (λ q. IsConditionBound main q (plain_condition guard.condition) guard.located.value) (sym
    (stands_in main f n next)) is in
    rw at (condition_reads main (f ∷ below) (length (f ∷ below) - 1) f linked (frame_at-top f below (length (f ∷ below)
    - 1) here) (plain_condition guard.condition) guard.located.value bound)

pub is_tested : (main : Block) (c : Configuration) (n top : ℕ) (guard : BoundCondition) → ∥ AreLinked main c ∥₁
    → IsNext main (top_of c) n → IsConditionBound main (step_path main n) (plain_condition guard.condition)
    guard.located.value → top ≡ length c - 1 → IsTested main c top guard
is_tested main c n top guard linked next is at =
    ∥∥₁_elim linked (×_prop (CanTest-prop c top guard.located.value) (Coded-set coded_truth _ _))
    (λ l. tested main c n top guard l next is at)

unless_faulty : (r : Result Bool EvalFault) → result_unwrap_or r true ≡ true_or_faulty (answered r)
unless_faulty (Ok b) = refl
unless_faulty (Err fault) = refl

-- what is reported of the condition is whether it holds
pub holds_told : (m : Standing) (b : Breakpoint) (guard : BoundCondition) (top : ℕ) (r : Result Bool EvalFault)
    (result : Bool) → configuration m ≡ Some (frames m) → b.condition ≡ Some guard
    → IsTested (program m) (frames m) top guard → located_truth (frames m) top guard.located.value ≡ answered r
    → result ≡ result_unwrap_or r true → result ≡ holds_now m b
holds_told m b guard top r result there is t value e = cc (unless_faulty r, t.1)

unless_fault : (r : Result Bool RunFault) → result_unwrap_or r true ≡ true_or_faulty r
unless_fault (Ok b) = refl
unless_fault (Err fault) = refl

-- the truth of a bound condition is whether it holds
pub holds_bound : (m : Standing) (b : Breakpoint) (guard : BoundCondition) (top : ℕ) → configuration m ≡ Some (frames m)
    → b.condition ≡ Some guard → IsTested (program m) (frames m) top guard
    → result_unwrap_or (located_truth (frames m) top guard.located.value) true ≡ holds_now m b
holds_bound m b guard top there is t = cc (unless_fault (located_truth (frames m) top guard.located.value), t.1)

-- a breakpoint's condition can be tested in the newest frame
pub tested_here : (m : Standing) (b : Breakpoint) (guard : BoundCondition) (depth : ℕ) → IsMetHere m b
    → b.condition ≡ Some guard → ∥ AreLinked (program m) (frames m) ∥₁ → depth ≡ depth_of m
    → IsTested (program m) (frames m) (depth - 1) guard
tested_here m b guard depth here is linked e =
    let bound = subst (λ g. IsBoundAt (program m) b.step g) is here.bound in
    is_tested (program m) (frames m) b.step (depth - 1) guard linked here.next bound.0 (ap (λ n. n - 1) e)
