-- The steps of a block, and of a statement in it, are among those of the program.
use Rattle.std.proofs.Common.{◌≡◌, ℕ, zero, suc, ◌+◌, List, [], ◌∷◌, ◌++◌, slice_get, Option, Some, None, refl, arith}
use Rattle.std.specs.Prelude.{option_map, option_and_then}
use Rattle.std.proofs.lemmas.Option.{same_Some}
use Rattle.pl0_tree.specs.declared.step.StepKind.TheVariants as kind
use Rattle.pl0_tree.specs.Tree.{Block, ABlock, Procedures, NoMore, AProcedure, procedure_list, body, end}
use Rattle.pl0_tree.specs.Scope.{Path, block_at, procedure_at}
use Rattle.pl0_tree.specs.Steps.{StepAt, lone_step, statement_steps, block_steps, procedures_steps, steps}
use Rattle.std.proofs.lemmas.Grind.{common_steps}

-- a step is one of these
abbrev pub IsAmong : List StepAt → StepAt → Type 0
IsAmong all x = (n : ℕ) × (slice_get all n ≡ Some x)

abbrev pub AreAmong : List StepAt → List StepAt → Type 0
AreAmong all [] = Unit {0}
AreAmong all (x ∷ xs) = IsAmong all x × AreAmong all xs

pub among_left : (all xs ys : List StepAt) → AreAmong all (xs ++ ys) → AreAmong all xs
among_left all [] ys a = tt
among_left all (x ∷ xs) ys a = (a.0, among_left all xs ys a.1)

pub among_right : (all xs ys : List StepAt) → AreAmong all (xs ++ ys) → AreAmong all ys
among_right all [] ys a = a
among_right all (x ∷ xs) ys a = among_right all xs ys a.1

among_more : (y : StepAt) (all xs : List StepAt) → AreAmong all xs → AreAmong (y ∷ all) xs
among_more y all [] a = tt
among_more y all (x ∷ xs) a = ((suc a.0.0, a.0.1), among_more y all xs a.1)

among_themselves : (xs : List StepAt) → AreAmong xs xs
among_themselves [] = tt
among_themselves (x ∷ xs) = ((0, refl), among_more x xs xs (among_themselves xs))

-- ---- blocks

procedure_among : (all : List StepAt) (ps : Procedures) (i k : ℕ) (q : Path) (b : Block)
    → option_map (λ p. p.block) (slice_get (procedure_list ps) k) ≡ Some b → AreAmong all (procedures_steps ps i q)
    → AreAmong all (block_steps b ((i + k) ∷ q))
procedure_among all NoMore i k q b e a = cc
procedure_among all (AProcedure x c more) i zero q b e a =
    grind (arith, common_steps, same_Some, among_left) steps 1500000
procedure_among all (AProcedure x c more) i (suc k) q b e a =
    grind (
      arith,
      common_steps,
      procedure_among all more (i + 1) k q b e (among_right all (block_steps c (i ∷ q))
          (procedures_steps more (i + 1) q) a),
      among_right,
    ) steps 1500000

inner_among : (all : List StepAt) (outer b : Block) (k : ℕ) (q : Path) → procedure_at k outer ≡ Some b
    → AreAmong all (block_steps outer q) → AreAmong all (block_steps b (k ∷ q))
inner_among all (ABlock cs xs ps s p) b k q e a =
    let here : 0 + k ≡ k = omega arith in
    rw (← here) (procedure_among all ps 0 k q b e (among_left all _ _ a))

block_among : (main : Block) (q : Path) (b : Block) → block_at main q ≡ Some b
    → AreAmong (steps main) (block_steps b q)
block_among main [] b e = grind (arith, common_steps, steps, same_Some, among_themselves) steps 1500000
block_among main (k ∷ q) b e = within (block_at main q) (block_among main q) e
  where
    within : (o : Option Block) → ((c : Block) → o ≡ Some c → AreAmong (steps main) (block_steps c q))
        → option_and_then (procedure_at k) o ≡ Some b → AreAmong (steps main) (block_steps b (k ∷ q))
    within None around e = cc
    within (Some c) around e = inner_among (steps main) c b k q e (around c refl)

own_steps : (all : List StepAt) (b : Block) (q : Path) → AreAmong all (block_steps b q)
    → AreAmong all (statement_steps (body b) q ++ lone_step q kind.Return (end b))
own_steps all (ABlock cs xs ps s p) q a = grind (arith, common_steps, among_right) steps 1500000

-- the steps of a block's statement
pub body_among : (main : Block) (q : Path) (b : Block) → block_at main q ≡ Some b
    → AreAmong (steps main) (statement_steps (body b) q)
body_among main q b e =
    among_left (steps main) _ (lone_step q kind.Return (end b)) (own_steps (steps main) b q (block_among main q b e))

-- a block's return
pub return_among : (main : Block) (q : Path) (b : Block) → block_at main q ≡ Some b
    → IsAmong (steps main) (record { kind = kind.Return; place = end b; path = q })
return_among main q b e =
    (among_right (steps main) (statement_steps (body b) q) (lone_step q kind.Return (end b))
    (own_steps (steps main) b q (block_among main q b e))).0
