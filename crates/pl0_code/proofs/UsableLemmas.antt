-- The words of a lawful program are found as what they are used for.
use Rattle.pl0_code.proofs.Common.{[], AConstant, Allows, AProcedure, AreDeclaredBefore, arith, Assign, AVariable, Binary, Block, block_at, body, Call, CanBeAssigned, CanBeCalled, CanBeRead, CanDo, CanEvaluate, CanTest, common_steps, Compare, Condition, condition_uses, Constant, Declared, declared_as, Empty, entry, Expression, expression_uses, Found, get_or, If, IsAssigned, IsCalled, IsFoundTo, IsLawful, IsRead, joined, length, List, Meaning, Name, Negate, None, Number, Odd, Option, Path, plain_statement, Resolver, resolver, Some, Statement, statement_uses, subst, suc, sym, Then, use_of, UseKind, Variable, While, Write, zero, ℕ, ◌<◌, ◌∷◌, ◌≡◌}
use Rattle.std.specs.Coded.{×_prop, Unit-prop}
use Rattle.pl0_tree.specs.declared.tree.Statement.{Statement as DeclaredStatement}
use Rattle.pl0_tree.specs.Tree.{Variable as Named}
use Rattle.pl0_code.specs.declared.scope.Declared.TheVariants.{Procedure as AnEntry}
use Rattle.pl0_code.proofs.Coding.{IsMeant, AreMeant, meant_first, meant_second, meant_each, meant_found}

-- what a name that is used so is declared as
abbrev CanBe : UseKind → Declared → Type 0
CanBe IsRead = CanBeRead
CanBe IsAssigned = CanBeAssigned
CanBe IsCalled = CanBeCalled

declared_for : (o : Option Block) (from : ℕ) (use_kind : UseKind) (m : Meaning) → Allows m use_kind
    → CanBe use_kind (declared_as o from m)
declared_for o from IsRead (AConstant k) ok = tt
declared_for o from IsRead (AProcedure k) ok = absurd ok
declared_for o from IsCalled (AConstant k) ok = absurd ok
declared_for o from IsCalled (AVariable k) ok = absurd ok
declared_for o from IsCalled (AProcedure k) ok = tt
declared_for o from _ (AVariable k) ok = tt
declared_for o from IsAssigned _ ok = absurd ok

module _ (main : Block) (q : Path) where
  found_for : (use_kind : UseKind) (x : Name) → IsMeant main q (use_of use_kind x)
      → IsFoundTo (CanBe use_kind) (resolver main q x.word)
  found_for use_kind x meant =
      let h = meant.at in
      subst (λ o. IsFoundTo (CanBe use_kind) o) (sym (meant_found main q x.word h meant.early))
      (declared_for (block_at main h.path) (entry main h.path) use_kind h.declaration.meaning meant.allowed)

  can_evaluate : (e : Expression) → AreMeant main q (expression_uses e) → CanEvaluate (resolver main q) e
  can_evaluate (Number n) meant = tt
  can_evaluate (Named x) meant = found_for IsRead x meant.0
  can_evaluate (Negate e) meant = can_evaluate e meant
  can_evaluate (Binary op left right) meant =
      (can_evaluate left (meant_first main q _ _ meant), can_evaluate right (meant_second main q _ _ meant))

  can_test : (c : Condition) → AreMeant main q (condition_uses c) → CanTest (resolver main q) c
  can_test (Odd e) meant = can_evaluate e meant
  can_test (Compare c left right) meant =
      (can_evaluate left (meant_first main q _ _ meant), can_evaluate right (meant_second main q _ _ meant))

  can_do : (s : Statement) → AreMeant main q (statement_uses s) → CanDo (resolver main q) s
  can_do Empty meant = tt
  can_do (Then s t) meant = (can_do s (meant_first main q _ _ meant), can_do t (meant_second main q _ _ meant))
  can_do (Assign x e) meant = (found_for IsAssigned x meant.0, can_evaluate e meant.1)
  can_do (Call p x) meant = found_for IsCalled x meant.0
  can_do (Write p e) meant = can_evaluate e meant
  can_do (If p c s) meant = (can_test c (meant_first main q _ _ meant), can_do s (meant_second main q _ _ meant))
  can_do (While p c s) meant = (can_test c (meant_first main q _ _ meant), can_do s (meant_second main q _ _ meant))

  -- the statement of a block
  pub can_do_body : (b : Block) → IsLawful main → AreDeclaredBefore main → block_at main q ≡ Some b
      → CanDo (resolver main q) (body b)
  can_do_body b lawful early at = grind (arith, common_steps, can_do, meant_each)

-- one of several statements
pub can_do_part : (r : Resolver) (xs : List DeclaredStatement) (i : ℕ) (s : DeclaredStatement) → i < length xs
    → s ≡ get_or xs i s → CanDo r (joined xs) → CanDo r (plain_statement s)
can_do_part r [] i s lt is can = absurd (omega arith)
can_do_part r (x ∷ xs) zero s lt is can = subst (λ y. CanDo r (plain_statement y)) (sym is) can.0
can_do_part r (x ∷ xs) (suc i) s lt is can = can_do_part r xs i s (omega arith) is can.1

-- ---- that they are is known once it is known under ∥ ∥₁

none_prop : IsProp ⊥
none_prop a b = absurd a

declared_prop : (use_kind : UseKind) (d : Declared) → IsProp (CanBe use_kind d)
declared_prop IsRead (Constant v) = Unit-prop
declared_prop IsRead (AnEntry a) = none_prop
declared_prop IsCalled (Constant v) = none_prop
declared_prop IsCalled (Variable a) = none_prop
declared_prop IsCalled (AnEntry a) = Unit-prop
declared_prop _ (Variable a) = Unit-prop
declared_prop IsAssigned _ = none_prop

found_prop : (use_kind : UseKind) (o : Option (Found Declared)) → IsProp (IsFoundTo (CanBe use_kind) o)
found_prop use_kind None = none_prop
found_prop use_kind (Some f) = declared_prop use_kind f.declared

module _ (r : Resolver) where
  evaluate_prop : (e : Expression) → IsProp (CanEvaluate r e)
  evaluate_prop (Number n) = Unit-prop
  evaluate_prop (Named x) = found_prop IsRead (r x.word)
  evaluate_prop (Negate e) = evaluate_prop e
  evaluate_prop (Binary op left right) = ×_prop (evaluate_prop left) (evaluate_prop right)

  test_prop : (c : Condition) → IsProp (CanTest r c)
  test_prop (Odd e) = evaluate_prop e
  test_prop (Compare c left right) = ×_prop (evaluate_prop left) (evaluate_prop right)

  pub do_prop : (s : Statement) → IsProp (CanDo r s)
  do_prop Empty = Unit-prop
  do_prop (Then s t) = ×_prop (do_prop s) (do_prop t)
  do_prop (Assign x e) = ×_prop (found_prop IsAssigned (r x.word)) (evaluate_prop e)
  do_prop (Call p x) = found_prop IsCalled (r x.word)
  do_prop (Write p e) = evaluate_prop e
  do_prop (If p c s) = ×_prop (test_prop c) (do_prop s)
  do_prop (While p c s) = ×_prop (test_prop c) (do_prop s)
