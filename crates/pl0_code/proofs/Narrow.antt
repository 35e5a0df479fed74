-- No `INT` makes more cells than a program declares variables, and three.
use Rattle.pl0_code.proofs.Common.{[], ABlock, arith, Assign, Binary, Block, block_length, block_rows, Call, call_declared, call_of, common_steps, Compare, Condition, condition_rows, Constant, Declared, Empty, Enter, Expression, expression_rows, Found, If, Instruction, length, List, map, Negate, NoMore, None, Number, Odd, Option, Path, Procedures, procedures_length, procedures_rows, procedures_steps, read_declared, read_of, Resolver, resolver, Row, slice_get, Some, Statement, statement_rows, store_declared, store_of, subst, suc, Then, While, Write, zero, ℕ, ◌++◌, ◌+◌, ◌∷◌, ◌≡◌, ◌≤◌}
use Rattle.pl0_tree.specs.Tree.{AProcedure as AndProcedure, Variable as Named}
use Rattle.pl0_code.proofs.ReadSizes.{variable_count, variables_count}

-- an instruction that makes at most k cells
abbrev Narrow : ℕ → Instruction → Type 0
Narrow k (Enter n) = n ≤ k
Narrow k _ = Unit {0}

abbrev AllNarrow : ℕ → List Row → Type 0
AllNarrow k [] = Unit {0}
AllNarrow k (r ∷ rs) = Narrow k r.instruction × AllNarrow k rs

narrow-++ : (k : ℕ) (rs ts : List Row) → AllNarrow k rs → AllNarrow k ts → AllNarrow k (rs ++ ts)
narrow-++ k [] ts a b = b
narrow-++ k (r ∷ rs) ts a b = (a.0, narrow-++ k rs ts a.1 b)

read_one : (k n : ℕ) (d : Declared) → Narrow k (read_declared n d)
read_one k n (Constant v) = tt
read_one k n _ = tt

read_narrow : (k : ℕ) (o : Option (Found Declared)) → Narrow k (read_of o)
read_narrow k None = tt
read_narrow k (Some f) = read_one k f.level f.declared

store_one : (k n : ℕ) (d : Declared) → Narrow k (store_declared n d)
store_one k n (Constant v) = tt
store_one k n _ = tt

store_narrow : (k : ℕ) (o : Option (Found Declared)) → Narrow k (store_of o)
store_narrow k None = tt
store_narrow k (Some f) = store_one k f.level f.declared

call_one : (k n : ℕ) (d : Declared) → Narrow k (call_declared n d)
call_one k n (Constant v) = tt
call_one k n _ = tt

call_narrow : (k : ℕ) (o : Option (Found Declared)) → Narrow k (call_of o)
call_narrow k None = tt
call_narrow k (Some f) = call_one k f.level f.declared

module _ (k : ℕ) (r : Resolver) where
  expression_narrow : (e : Expression) (begins : Option ℕ) → AllNarrow k (expression_rows r e begins)
  expression_narrow (Number n) begins = (tt, tt)
  expression_narrow (Named x) begins = (read_narrow k (r x.word), tt)
  expression_narrow (Negate e) begins = narrow-++ k (expression_rows r e begins) _ (expression_narrow e begins) (tt, tt)
  expression_narrow (Binary op left right) begins =
      narrow-++ k _ _ (expression_narrow left begins) (narrow-++ k _ _ (expression_narrow right None) (tt, tt))

  condition_narrow : (c : Condition) (begins : Option ℕ) → AllNarrow k (condition_rows r c begins)
  condition_narrow (Odd e) begins = narrow-++ k (expression_rows r e begins) _ (expression_narrow e begins) (tt, tt)
  condition_narrow (Compare c left right) begins = grind (arith, common_steps, narrow-++, expression_narrow)

  statement_narrow : (s : Statement) (from n : ℕ) → AllNarrow k (statement_rows r s from n)
  statement_narrow Empty from n = tt
  statement_narrow (Then s t) from n =
      narrow-++ k _ _ (statement_narrow s from n) (statement_narrow t (from + length _) _)
  statement_narrow (Assign x e) from n = narrow-++ k _ _ (expression_narrow e _) (store_narrow k _, tt)
  statement_narrow (Call p x) from n = (call_narrow k (r x.word), tt)
  statement_narrow (Write p e) from n = narrow-++ k _ _ (expression_narrow e _) (tt, tt)
  statement_narrow (If p c s) from n =
      narrow-++ k _ _ (condition_narrow c _) (tt, statement_narrow s (from + length _ + 1) _)
  statement_narrow (While p c s) from n =
      let at = from + length _ + 1 in
      narrow-++ k _ _ (condition_narrow c _) (tt, narrow-++ k _ _ (statement_narrow s at _) (tt, tt))

module _ (k : ℕ) (main : Block) where
  mutual
    block_narrow : (q : Path) (b : Block) (from n : ℕ) → 3 + variable_count b ≤ k
        → AllNarrow k (block_rows main q b from n)
    block_narrow q (ABlock cs xs ps s end) from n few =
        let at = n + length (procedures_steps ps 0 q) in (
          tt,
          narrow-++ k (procedures_rows main q 0 ps (from + 1) n) _
              (procedures_narrow q 0 ps (from + 1) n (omega (arith, few))) (
                omega (arith, few),
                narrow-++ k (statement_rows (resolver main q) s (from + 1 + procedures_length ps + 1) at)
                    _ (statement_narrow k (resolver main q) s (from + 1 + procedures_length ps + 1) at) (tt, tt),
              ),
        )

    procedures_narrow : (q : Path) (i : ℕ) (ps : Procedures) (from n : ℕ) → 3 + variables_count ps ≤ k
        → AllNarrow k (procedures_rows main q i ps from n)
    procedures_narrow q i NoMore from n few = tt
    procedures_narrow q i (AndProcedure x b more) from n few =
        narrow-++ k _ _ (block_narrow _ b from n (omega (arith, few))) (procedures_narrow q _ more _ (n + length _)
        (omega (arith, few)))

narrow_one : (k n : ℕ) (i : Instruction) → Narrow k i → Some i ≡ Some (Enter n) → n ≤ k
narrow_one k n i narrow is = let same : i ≡ Enter n = cc in subst (Narrow k) same narrow

narrow_at : (k : ℕ) (rs : List Row) → AllNarrow k rs → (a n : ℕ)
    → slice_get (map (λ (r : Row). r.instruction) rs) a ≡ Some (Enter n) → n ≤ k
narrow_at k [] narrow a n is = cc
narrow_at k (r ∷ rs) narrow zero n is = narrow_one k n r.instruction narrow.0 is
narrow_at k (r ∷ rs) narrow (suc a) n is = narrow_at k rs narrow.1 a n is

pub program_narrow : (k : ℕ) (main : Block) → 3 + variable_count main ≤ k → (a n : ℕ)
    → slice_get (map (λ (r : Row). r.instruction) (block_rows main [] main 0 0)) a ≡ Some (Enter n) → n ≤ k
program_narrow k main few = narrow_at k (block_rows main [] main 0 0) (block_narrow k main [] main 0 0 few)

-- a block has three instructions of its own
pub three_at_least : (b : Block) → 3 ≤ block_length b
three_at_least (ABlock cs xs ps s end) = omega arith
