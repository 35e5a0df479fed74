-- A program has one code: two listings that are code of it agree at each address.
use Rattle.pl0_code.proofs.Common.{[], ABlock, AConstant, ap, AProcedure, arith, Assign, AVariable, Binary, Block, block_at, block_length, Call, cell, Coded, CodedBlock, CodedCondition, CodedExpression, CodedProcedures, CodedStatement, common_steps, Compare, Condition, condition_length, Empty, Enter, Expression, expression_length, Home, home, If, inl, inr, Instruction, IsBefore, Jump, JumpIfZero, Lays, LaysCall, LaysDeclaredCall, LaysDeclaredRead, LaysDeclaredStore, LaysRead, LaysStore, length, level, List, Listing, map, Meaning, Negate, NoMore, None, Number, Odd, Operate, operator_operation, Option, option_and_then, option_map, Path, Place, Procedure, procedure_at, procedure_list, Procedures, procedures, procedures_length, refl, relation_operation, same_Some, slice_get, slice_get-map, Some, Statement, statement_length, StepAt, steps, subst, suc, sym, Then, While, Write, zero, ℕ, ◌+◌, ◌<◌, ◌∙◌, ◌∷◌, ◌≡◌, ◌≤◌, ◌⊎◌}
use Rattle.pl0_tree.specs.Tree.{Variable, AProcedure as AndProcedure}
use Rattle.pl0_tree.specs.Ascending.{Ascend}
use Rattle.pl0_meaning.proofs.Homes.{IsDeclaredBy, home_is}
use Rattle.pl0_unit.specs.declared.instruction.Operation.TheVariants as operation

-- ---- how many instructions code comes to

module _ (u : Listing) where
  expression_long : (q : Path) (e : Expression) (b : Option ℕ) (from to : ℕ) → CodedExpression u q e b from to
      → to ≡ from + expression_length e
  expression_long q (Negate e) b from to h = omega (arith, expression_long q e b from h.0 h.1, h.3)
  expression_long q (Binary op left right) b from to h =
      omega (arith, expression_long q left b from h.0 h.2, expression_long q right None h.0 h.1 h.3, h.5)
  expression_long q _ b from to h = h.1

  condition_long : (q : Path) (c : Condition) (b : Option ℕ) (from to : ℕ) → CodedCondition u q c b from to
      → to ≡ from + condition_length c
  condition_long q (Odd e) b from to h = omega (arith, expression_long q e b from h.0 h.1, h.3)
  condition_long q (Compare r left right) b from to h = grind (arith, common_steps, expression_long) steps 1500000

  module _ (entry : Path → ℕ) where
    statement_long : (q : Path) (s : Statement) (from to : ℕ) → CodedStatement u entry q s from to
        → to ≡ from + statement_length s
    statement_long q Empty from to h = omega (arith, h)
    statement_long q (Then s t) from to h =
        omega (arith, statement_long q s from h.0 h.1, statement_long q t h.0 to h.2)
    statement_long q (Assign x e) from to h = omega (arith, expression_long q e _ from h.last h.value, h.behind)
    statement_long q (Call p x) from to h = h.3
    statement_long q (Write p e) from to h = omega (arith, expression_long q e _ from h.last h.value, h.behind)
    statement_long q (If p c s) from to h =
        omega (arith, condition_long q c (Some h.step) from h.last h.test, statement_long q s (h.last + 1) to h.body)
    statement_long q (While p c s) from to h =
        grind (arith, common_steps, statement_long q s (h.last + 1) h.back h.body, condition_long)

    mutual
      block_long : (q : Path) (b : Block) (from to : ℕ) → CodedBlock u entry q b from to → to ≡ from + block_length b
      block_long q (ABlock cs xs ps s end) from to h =
          grind (arith, common_steps, procedures_long q 0 ps (from + 1) h.start h.procedures, statement_long)

      procedures_long : (q : Path) (i : ℕ) (ps : Procedures) (from to : ℕ) → CodedProcedures u entry q i ps from to
          → to ≡ from + procedures_length ps
      procedures_long q i NoMore from to h = omega (arith, h)
      procedures_long q i (AndProcedure x b more) from to h =
          omega (arith, block_long (i ∷ q) b from h.0 h.1, procedures_long q (i + 1) more h.0 to h.2)

-- ---- lists, numbers

side : (a b : ℕ) → (a < b) ⊎ (b ≤ a)
side a zero = inr (omega arith)
side zero (suc b) = inl (omega arith)
side (suc a) (suc b) = grind (arith, common_steps, side a b)

cons_same : {A : Type 0} (x y : A) (xs ys : List A) → x ≡ y → xs ≡ ys → x ∷ xs ≡ y ∷ ys
cons_same x y xs ys p q = cc

each_same : {A : Type 0} (xs ys : List A) → length xs ≡ length ys
    → ((i : ℕ) → i < length xs → slice_get xs i ≡ slice_get ys i) → xs ≡ ys
each_same [] [] long at = refl
each_same [] (y ∷ ys) long at = absurd (omega (arith, long))
each_same (x ∷ xs) [] long at = absurd (omega (arith, long))
each_same (x ∷ xs) (y ∷ ys) long at =
    cons_same x y xs ys (same_Some x y (at 0 (omega arith)))
    (each_same xs ys (omega (arith, long)) (λ i lt. at (suc i) (omega (arith, lt))))

not_before : (p : Place) → IsBefore p p → ⊥
not_before p (inl lt) = omega (arith, lt)
not_before p (inr lt) = omega (arith, lt.1)

module _ (main : Block) (ascend : Ascend (map (λ (s : StepAt). s.place) (steps main))) where
  -- a step has one number
  number_once : (i j : ℕ) (s : StepAt) → slice_get (steps main) i ≡ Some s → slice_get (steps main) j ≡ Some s → i ≡ j
  number_once i j s here there = go (side i j) (side j i)
    where
      placed : (n : ℕ) → slice_get (steps main) n ≡ Some s → slice_get (map (λ (s : StepAt). s.place) (steps main))
          n ≡ Some s.place
      placed n is = cc (slice_get-map (λ (s : StepAt). s.place) (steps main) n)

      go : (i < j) ⊎ (j ≤ i) → (j < i) ⊎ (i ≤ j) → i ≡ j
      go (inl lt) other = absurd (not_before s.place (ascend i j s.place s.place lt (placed i here) (placed j there)))
      go (inr le) (inl lt) =
          absurd (not_before s.place (ascend j i s.place s.place lt (placed j there) (placed i here)))
      go (inr le) (inr ge) = omega (arith, le, ge)

  -- ---- two listings

  module _ (c d : List Instruction) (l m : List (Option ℕ)) where
    abbrev u : Listing
    u = record { main = main; code = c; begun_steps = l }

    abbrev v : Listing
    v = record { main = main; code = d; begun_steps = m }

    -- they agree at an address
    abbrev Agrees : ℕ → Type 0
    Agrees a = (slice_get c a ≡ slice_get d a) × (slice_get l a ≡ slice_get m a)

    -- and from one address to another
    abbrev Agree : ℕ → ℕ → Type 0
    Agree from to = (a : ℕ) → from ≤ a → a < to → Agrees a

    one : (a to : ℕ) → to ≡ a + 1 → Agrees a → Agree a to
    one a to is at b le lt = let same : a ≡ b = omega (arith, is, le, lt) in subst Agrees same at

    agree_on : (from mid to : ℕ) → Agree from mid → Agree mid to → Agree from to
    agree_on from mid to first second a le lt = grind (arith, common_steps, side)

    none_between : (from to : ℕ) → to ≡ from → Agree from to
    none_between from to is a le lt = absurd (omega (arith, is, le, lt))

    laid : (a a' : ℕ) (i i' : Instruction) (b b' : Option ℕ) → a ≡ a' → i ≡ i' → b ≡ b' → Lays u a i b → Lays v a' i' b'
        → Agrees a
    laid a a' i i' b b' p r s x y = grind (arith, common_steps, slice_get) steps 1500000

    declared_read : (q h : Path) (k : Meaning) (b b' : Option ℕ) (a a' : ℕ) → a ≡ a' → b ≡ b'
        → LaysDeclaredRead u q h k b a → LaysDeclaredRead v q h k b' a' → Agrees a
    declared_read q h (AConstant k) b b' a a' p s x y = grind (arith, common_steps, laid, same_Some) steps 1500000
    declared_read q h (AVariable k) b b' a a' p s x y = grind (arith, common_steps, laid, level, cell) steps 1500000
    declared_read q h (AProcedure k) b b' a a' p s x y = absurd x

    read : (q : Path) (o : Option Home) (b b' : Option ℕ) (a a' : ℕ) → a ≡ a' → b ≡ b' → LaysRead u q o b a
        → LaysRead v q o b' a' → Agrees a
    read q None b b' a a' p s x y = absurd x
    read q (Some h) b b' a a' p s x y = declared_read q h.path h.declaration.meaning b b' a a' p s x y

    declared_store : (q h : Path) (k : Meaning) (a a' : ℕ) → a ≡ a' → LaysDeclaredStore u q h k a
        → LaysDeclaredStore v q h k a' → Agrees a
    declared_store q h (AVariable k) a a' p x y = grind (arith, common_steps, laid, level, cell) steps 1500000
    declared_store q h _ a a' p x y = absurd x

    store : (q : Path) (o : Option Home) (a a' : ℕ) → a ≡ a' → LaysStore u q o a → LaysStore v q o a' → Agrees a
    store q None a a' p x y = absurd x
    store q (Some h) a a' p x y = declared_store q h.path h.declaration.meaning a a' p x y

    expression_same : (q : Path) (e : Expression) (b b' : Option ℕ) (from from' to to' : ℕ) → b ≡ b' → from ≡ from'
        → CodedExpression u q e b from to → CodedExpression v q e b' from' to' → Agree from to
    expression_same q (Number n) b b' from from' to to' s p x y = grind (arith, common_steps, one, laid) steps 1500000
    expression_same q (Variable w) b b' from from' to to' s p x y = grind (arith, common_steps, one, read) steps 1500000
    expression_same q (Negate e) b b' from from' to to' s p x y =
        grind (arith, expression_same q e b b' from from' x.0 y.0 s p x.1 y.1, expression_long, agree_on, laid)
    expression_same q (Binary op left right) b b' from from' to to' s p x y =
        let mids : x.0 ≡ y.0 = grind (arith, expression_long) in
        let ends : x.1 ≡ y.1 = grind (arith, expression_long) in
        let i = Operate (operator_operation op) in
        agree_on from x.1 to (agree_on from x.0 x.1 (expression_same q left b b' from from' x.0 y.0 s p x.2 y.2)
        (expression_same q right None None x.0 y.0 x.1 y.1 refl mids x.3 y.3))
        (one x.1 to x.5 (laid x.1 y.1 i i None None ends refl refl x.4 y.4))

    condition_same : (q : Path) (e : Condition) (b b' : Option ℕ) (from from' to to' : ℕ) → b ≡ b' → from ≡ from'
        → CodedCondition u q e b from to → CodedCondition v q e b' from' to' → Agree from to
    condition_same q (Odd e) b b' from from' to to' s p x y =
        let mids : x.0 ≡ y.0 = grind (arith, expression_long) in
        agree_on from x.0 to (expression_same q e b b' from from' x.0 y.0 s p x.1 y.1) (one x.0 to x.3 (laid x.0 y.0 _ _
        None None mids refl refl x.2 y.2))
    condition_same q (Compare r left right) b b' from from' to to' s p x y =
        let mids : x.0 ≡ y.0 = grind (arith, expression_long) in
        let ends : x.1 ≡ y.1 = grind (arith, expression_long) in
        let i = Operate (relation_operation r) in
        agree_on from x.1 to (agree_on from x.0 x.1 (expression_same q left b b' from from' x.0 y.0 s p x.2 y.2)
        (expression_same q right None None x.0 y.0 x.1 y.1 refl mids x.3 y.3))
        (one x.1 to x.5 (laid x.1 y.1 i i None None ends refl refl x.4 y.4))

    module _ (e f : Path → ℕ) where
      -- ---- where blocks begin

      abbrev mutual
        EntriesAgree : Path → Block → Type 0
        EntriesAgree q (ABlock cs xs ps s end) = (e q ≡ f q) × ProceduresAgree q 0 ps

        ProceduresAgree : Path → ℕ → Procedures → Type 0
        ProceduresAgree q i NoMore = Unit {0}
        ProceduresAgree q i (AndProcedure x b more) = EntriesAgree (i ∷ q) b × ProceduresAgree q (i + 1) more

      mutual
        block_entries : (q : Path) (b : Block) (from from' to to' : ℕ) → from ≡ from' → CodedBlock u e q b from to
            → CodedBlock v f q b from' to' → EntriesAgree q b
        block_entries q (ABlock cs xs ps s end) from from' to to' p x y = (
          sym x.here ∙ p ∙ y.here,
          procedures_entries q 0 ps (from + 1) (from' + 1) x.start y.start
              (omega (arith, p)) x.procedures y.procedures,
        )

        procedures_entries : (q : Path) (i : ℕ) (ps : Procedures) (from from' to to' : ℕ) → from ≡ from'
            → CodedProcedures u e q i ps from to → CodedProcedures v f q i ps from' to' → ProceduresAgree q i ps
        procedures_entries q i NoMore from from' to to' p x y = tt
        procedures_entries q i (AndProcedure w b more) from from' to to' p x y =
            let mids : x.0 ≡ y.0 = grind (arith, block_long) in
            (block_entries _ b from from' x.0 y.0 p x.1 y.1, procedures_entries q _ more x.0 y.0 to to' mids x.2 y.2)

      in_procedures : (q : Path) (j : ℕ) (ps : Procedures) → ProceduresAgree q j ps → (i : ℕ) (b : Block)
          → option_map (λ (p : Procedure). p.block) (slice_get (procedure_list ps) i) ≡ Some b
          → EntriesAgree ((j + i) ∷ q) b
      in_procedures q j NoMore h i b is = cc
      in_procedures q j (AndProcedure x c more) h zero b is = grind (arith, common_steps, EntriesAgree)
      in_procedures q j (AndProcedure x c more) h (suc i) b is =
          grind (arith, common_steps, in_procedures q (j + 1) more h.1 i b is) steps 1500000

      in_block : (q : Path) (c : Block) → EntriesAgree q c → (i : ℕ) (b : Block) → procedure_at i c ≡ Some b
          → EntriesAgree (i ∷ q) b
      in_block q (ABlock cs xs ps s end) h i b is =
          let same : 0 + i ≡ i = omega arith in subst (λ k. EntriesAgree (k ∷ q) b) same
          (in_procedures q 0 ps h.1 i b is)

      entries_at : EntriesAgree [] main → (q : Path) (b : Block) → block_at main q ≡ Some b → EntriesAgree q b
      entries_at all [] b is = subst (EntriesAgree []) (same_Some main b is) all
      entries_at all (i ∷ q) b is = inner (block_at main q) (entries_at all q) is
        where
          inner : (o : Option Block) → ((c : Block) → o ≡ Some c → EntriesAgree q c)
              → option_and_then (procedure_at i) o ≡ Some b → EntriesAgree (i ∷ q) b
          inner None outer is = cc
          inner (Some c) outer is = in_block q c (outer c refl) i b is

      entry_same : (q : Path) (b : Block) → EntriesAgree q b → e q ≡ f q
      entry_same q (ABlock cs xs ps s end) h = h.0

      procedure_there : (ps : List Procedure) (k : ℕ) → k < length ps → (b : Block)
          × (option_map (λ (p : Procedure). p.block) (slice_get ps k) ≡ Some b)
      procedure_there [] k lt = absurd (omega (arith, lt))
      procedure_there (p ∷ ps) zero lt = (p.block, refl)
      procedure_there (p ∷ ps) (suc k) lt = procedure_there ps k (omega (arith, lt))

      -- ---- statements and blocks

      module _ (all : EntriesAgree [] main) where
        declared_call : (q h : Path) (k : Meaning) (block : Block) (n n' a a' : ℕ) → block_at main h ≡ Some block
            → IsDeclaredBy block k → a ≡ a' → n ≡ n' → LaysDeclaredCall u e q h k n a → LaysDeclaredCall v f q h k n' a'
            → Agrees a
        declared_call q h (AProcedure k) block n n' a a' there declared p s x y =
            let inner = procedure_there (procedures block) k declared in
            let at : block_at main (k ∷ h) ≡ Some inner.0 = ap (option_and_then (procedure_at k)) there ∙ inner.1 in
            let same = entry_same (k ∷ h) inner.0 (entries_at all (k ∷ h) inner.0 at) in
            grind (arith, common_steps, laid, level) steps 1500000
        declared_call q h _ block n n' a a' there declared p s x y = absurd x

        call : (q : Path) (w : List ℕ) (o : Option Home) (n n' a a' : ℕ) → home main q w ≡ o → a ≡ a' → n ≡ n'
            → LaysCall u e q o n a → LaysCall v f q o n' a' → Agrees a
        call q w None n n' a a' is p s x y = absurd x
        call q w (Some h) n n' a a' is p s x y =
            let here = home_is main q w h is in
            declared_call q h.path h.declaration.meaning here.block n n' a a' here.there here.declared p s x y

        statement_same : (q : Path) (s : Statement) (from from' to to' : ℕ) → from ≡ from'
            → CodedStatement u e q s from to → CodedStatement v f q s from' to' → Agree from to
        statement_same q Empty from from' to to' p x y = none_between from to x
        statement_same q (Then s t) from from' to to' p x y =
            let mids : x.0 ≡ y.0 = grind (arith, statement_long) in
            agree_on from x.0 to (statement_same q s from from' x.0 y.0 p x.1 y.1)
            (statement_same q t x.0 y.0 to to' mids x.2 y.2)
        statement_same q (Assign w t) from from' to to' p x y =
            let steps = number_once x.step y.step _ x.numbered y.numbered in
            let lasts : x.last ≡ y.last = grind (arith, expression_long) in
            agree_on from x.last to (expression_same q t _ _ from from' x.last y.last (ap Some steps) p x.value y.value)
            (one x.last to x.behind (store q _ x.last y.last lasts x.store y.store))
        statement_same q (Call r w) from from' to to' p x y =
            one from to x.3 (call q w.word _ x.0 y.0 from from' refl p (number_once x.0 y.0 _ x.1 y.1) x.2 y.2)
        statement_same q (Write r t) from from' to to' p x y =
            let steps = number_once x.step y.step _ x.numbered y.numbered in
            let lasts : x.last ≡ y.last = grind (arith, expression_long) in
            let i = Operate operation.Write in
            agree_on from x.last to (expression_same q t _ _ from from' x.last y.last (ap Some steps) p x.value y.value)
            (one x.last to x.behind (laid x.last y.last i i None None lasts refl refl x.write y.write))
        statement_same q (If r t s) from from' to to' p x y =
            let steps = number_once x.step y.step _ x.numbered y.numbered in
            let lasts : x.last ≡ y.last = grind (arith, condition_long) in
            let ends : to ≡ to' = grind (arith, statement_long) in
            agree_on from _ to (agree_on from x.last _ (condition_same q t _ _ from from' x.last y.last (ap Some steps)
            p x.test y.test) (one x.last _ refl (laid x.last y.last _ _ None None lasts (ap JumpIfZero ends) refl x.jump
            y.jump))) (statement_same q s _ _ to to' (omega (arith, lasts)) x.body y.body)
        statement_same q (While r t s) from from' to to' p x y =
            let steps = number_once x.step y.step _ x.numbered y.numbered in
            let lasts : x.last ≡ y.last = grind (arith, condition_long) in
            let backs : x.back ≡ y.back = grind (arith, statement_long) in
            let ends : to ≡ to' = omega (arith, backs, x.behind, y.behind) in
            agree_on from x.back to (agree_on from _ x.back (agree_on from x.last _ (condition_same q t _ _ from from'
            x.last y.last (ap Some steps) p x.test y.test) (one x.last _ refl (laid x.last y.last _ _ None None lasts
            (ap JumpIfZero ends) refl x.jump y.jump))) (statement_same q s _ _ x.back y.back (omega (arith, lasts))
            x.body y.body)) (one x.back to x.behind (laid x.back y.back _ _ None None backs (ap Jump p) refl x.again
            y.again))

        mutual
          block_same : (q : Path) (b : Block) (from from' to to' : ℕ) → from ≡ from' → CodedBlock u e q b from to
              → CodedBlock v f q b from' to' → Agree from to
          block_same q (ABlock cs xs ps s end) from from' to to' p x y =
              let starts : x.start ≡ y.start = grind (arith, procedures_long) in
              let lasts : x.last ≡ y.last = grind (arith, statement_long) in
              let steps = number_once x.step y.step _ x.numbered y.numbered in
              let i = Enter (cell (length xs)) in
              let r = Operate operation.Return in
              agree_on from x.last to (agree_on from _ x.last (agree_on from x.start _ (agree_on from _ x.start (one
              from _ refl (laid from from' _ _ None None p (ap Jump starts) refl x.jump y.jump)) (procedures_same q 0 ps
              _ _ x.start y.start (omega (arith, p)) x.procedures y.procedures)) (one x.start _ refl (laid x.start
              y.start i i None None starts refl refl x.enter y.enter))) (statement_same q s _ _ x.last y.last
              (omega (arith, starts)) x.body y.body)) (one x.last to x.behind (laid x.last y.last r r _ _ lasts refl (ap
              Some steps) x.return y.return))

          procedures_same : (q : Path) (i : ℕ) (ps : Procedures) (from from' to to' : ℕ) → from ≡ from'
              → CodedProcedures u e q i ps from to → CodedProcedures v f q i ps from' to' → Agree from to
          procedures_same q i NoMore from from' to to' p x y = none_between from to x
          procedures_same q i (AndProcedure w b more) from from' to to' p x y =
              let mids : x.0 ≡ y.0 = grind (arith, block_long) in
              agree_on from x.0 to (block_same (i ∷ q) b from from' x.0 y.0 p x.1 y.1)
              (procedures_same q (i + 1) more x.0 y.0 to to' mids x.2 y.2)

    both_same : Coded u → Coded v → (c ≡ d) × (l ≡ m)
    both_same x y =
        let longs : length c ≡ length d = grind (arith, block_long) in
        let all = block_entries x.entry y.entry [] main 0 0 (length c) (length d) refl x.blocks y.blocks in
        let agree = block_same x.entry y.entry all [] main 0 0 (length c) (length d) refl x.blocks y.blocks in
        grind (arith, common_steps, each_same) steps 1500000

pub coded_once : (main : Block) (c d : List Instruction) (l m : List (Option ℕ))
    → Ascend (map (λ (s : StepAt). s.place) (steps main)) →
    Coded (record { main = main; code = c; begun_steps = l })
    → Coded (record { main = main; code = d; begun_steps = m }) → (c ≡ d) × (l ≡ m)
coded_once main c d l m ascend x y = both_same main ascend c d l m x y
