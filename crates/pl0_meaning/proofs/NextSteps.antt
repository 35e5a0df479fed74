-- A frame's next step is a step of the frame's block.
use Rattle.std.proofs.Common.{◌≡◌, ℕ, zero, suc, ◌<◌, List, [], ◌∷◌, ◌++◌, length, refl, sym, subst, arith}
use Rattle.std.specs.Prelude.{Option, Some, None, slice_get}
use Rattle.std.specs.Option.{option_map_or}
use Rattle.pl0_tree.specs.Tree.{Statement, Empty, Then, If, While, Block}
use Rattle.pl0_tree.specs.Scope.{Path, block_at}
use Rattle.pl0_tree.specs.Steps.{StepAt, steps, step_path, statement_steps}
use Rattle.pl0_meaning.specs.Values.{Frame, StandsBefore, first_step, return_of}
use Rattle.std.proofs.lemmas.Grind.{common_steps}

-- if there is a step, it is of the block
abbrev IsIn : Path → Option StepAt → Type 0
IsIn q None = Unit {0}
IsIn q (Some s) = s.path ≡ q

abbrev AllIn : Path → List StepAt → Type 0
AllIn q [] = Unit {0}
AllIn q (s ∷ ss) = (s.path ≡ q) × AllIn q ss

all_joined : (q : Path) (ss ts : List StepAt) → AllIn q ss → AllIn q ts → AllIn q (ss ++ ts)
all_joined q [] ts a b = b
all_joined q (s ∷ ss) ts a b = (a.0, all_joined q ss ts a.1 b)

statement_in : (q : Path) (s : Statement) → AllIn q (statement_steps s q)
statement_in q Empty = tt
statement_in q (Then s t) = all_joined q _ _ (statement_in q s) (statement_in q t)
statement_in q (If p c s) = (refl, statement_in q s)
statement_in q (While p c s) = (refl, statement_in q s)
statement_in q _ = (refl, tt)

first_in : (q : Path) (ss : List StepAt) → AllIn q ss → IsIn q (slice_get ss 0)
first_in q [] a = tt
first_in q (s ∷ ss) a = a.0

return_in : (b : Option Block) (q : Path) → IsIn q (return_of b q)
return_in None q = tt
return_in (Some b) q = refl

step_in : (main : Block) (q : Path) (todo : List Statement) → IsIn q (first_step main q todo)
step_in main q [] = return_in (block_at main q) q
step_in main q (s ∷ rest) = first_in q (statement_steps s q) (statement_in q s)

there : (ss : List StepAt) (n : ℕ) (q : Path) (o : Option StepAt) → n < length ss → slice_get ss n ≡ o → IsIn q o
    → IsIn q (slice_get ss n) × (option_map_or (λ s. s.path) (slice_get ss n) [] ≡ q)
there [] n q o lt is held = absurd (omega arith)
there (s ∷ ss) zero q o lt is held = let here = subst (IsIn q) (sym is) held in (here, here)
there (s ∷ ss) (suc n) q o lt is held = there ss n q o (omega arith) is held

pub next_step_in_block : (main : Block) (f : Frame) (n : ℕ) → StandsBefore main f n → step_path main n ≡ f.block
next_step_in_block main f n before = grind (arith, common_steps, there, steps, step_in) steps 1500000
