-- No text is without both a program and a first fault, nor is an editor's.
use Rattle.pl0_tree.specs.Faults.{level_limit}
use Rattle.pl0_syntax.proofs.Common.{AreLawfulOutside, arith, Block, condition_uses, declarations, expression_uses, IsConditionNameFault, IsExpressionNameFault, IsFirstIn, IsNameFaultOutside, IsReadAs, Reading, ReadsConditionText, ReadsExpressionText, get_or, Home, inl, inr, IsBefore, IsFirstOf, IsLawful, IsNameFault, IsTokenFault, IsText, length, limit, List, Option, order, Path, Place, ReadsProgram, refl, Some, suc, tokens_of, Use, zero, ℕ, ◌<◌, ◌∙◌, ◌≡◌, ◌≤◌, ◌⊎◌, Allows, TooManyNames, Twice, Unknown, TooEarly, WrongKind}
use Rattle.std.specs.Prelude.{None, slice_get}
use Rattle.std.proofs.lemmas.Option.{slice_get_cases}
use Rattle.std.proofs.lemmas.Bool.{cases_order, cases_lt}
use Rattle.pl0_tree.specs.declared.fault.FaultKind.{FaultKind}
use Rattle.pl0_tree.specs.Scope.{block_at, body_uses, home, declaration_limit, Declaration, IsLawfulUse, IsLawfulOutside, Meaning, AConstant, AVariable, AProcedure, UseKind, IsRead, IsAssigned, IsCalled}
use Rattle.pl0_tree.specs.Faults.{too_long, in_tokens, in_names}
use Rattle.pl0_parser.specs.Laws.{IsReadOrFaulty}
use Rattle.pl0_syntax.specs.Laws.{NotNeither, TextsHaveOne, ConditionsHaveOne, ExpressionsHaveOne}

-- ---- where there are faults of names, one is the first

module _ (Fault : FaultKind → Place → Type 0) (none_first : (k : FaultKind) (p : Place) → ¬ IsFirstOf Fault k p) where
  abbrev NoneAbove : ℕ → Type 0
  NoneAbove l = (k : FaultKind) (p : Place) → p.line < l → ¬ Fault k p

  abbrev NoneLeft : ℕ → ℕ → Type 0
  NoneLeft l c = (k : FaultKind) (p : Place) → p.line ≡ l → p.column < c → ¬ Fault k p

  abbrev NoneLess : ℕ → ℕ → ℕ → Type 0
  NoneLess l c o = (k : FaultKind) (p : Place) → p.line ≡ l → p.column ≡ c → order k < o → ¬ Fault k p

  -- a number below the next is below, or is it
  below_or_is : (m n : ℕ) → m < suc n → (m < n) ⊎ (m ≡ n)
  below_or_is m n less = by_order (cases_lt m n)
    where
      by_order : (m < n) ⊎ (n ≤ m) → (m < n) ⊎ (m ≡ n)
      by_order (inl is) = inl is
      by_order (inr is) = inr (omega (arith, less, is))

  least_of : (l c o : ℕ) → NoneAbove l → NoneLeft l c → NoneLess l c o
  least_of l c zero above left k p line column less fault = absurd (omega (arith, less))
  least_of l c (suc o) above left k p line column less fault =
      by_order (below_or_is (order k) o less) (least_of l c o above left)
    where
      before_none : (j : FaultKind) (q : Place) → Fault j q → ¬ IsBefore q p
      before_none j q other (inl higher) = above j q (omega (arith, higher, line)) other
      before_none j q other (inr same) = left j q (same.0 ∙ line) (omega (arith, same.1, column)) other

      least : NoneLess l c o → (j : FaultKind) → Fault j p → order k ≤ order j
      least none_less j other = by_less (cases_lt (order j) (order k))
        where
          by_less : (order j < order k) ⊎ (order k ≤ order j) → order k ≤ order j
          by_less (inl smaller) = absurd (none_less j p line column (omega (arith, smaller, less)) other)
          by_less (inr is) = is

      by_order : (order k < o) ⊎ (order k ≡ o) → NoneLess l c o → ⊥
      by_order (inl smaller) none_less = none_less k p line column smaller fault
      by_order (inr same) none_less =
          none_first k p (record { fault = fault; first = before_none; least = least none_less })

  leftmost : (l c : ℕ) → NoneAbove l → NoneLeft l c
  leftmost l zero above k p line less fault = absurd (omega (arith, less))
  leftmost l (suc c) above k p line less fault = by_column (below_or_is p.column c less) (leftmost l c above)
    where
      by_column : (p.column < c) ⊎ (p.column ≡ c) → NoneLeft l c → ⊥
      by_column (inl smaller) left = left k p line smaller fault
      by_column (inr same) left = least_of l c (suc (order k)) above left k p line same (omega arith) fault

  topmost : (l : ℕ) → NoneAbove l
  topmost zero k p less fault = absurd (omega (arith, less))
  topmost (suc l) k p less fault = by_line (below_or_is p.line l less) (topmost l)
    where
      by_line : (p.line < l) ⊎ (p.line ≡ l) → NoneAbove l → ⊥
      by_line (inl smaller) above = above k p smaller fault
      by_line (inr same) above = leftmost l (suc p.column) above k p same (omega arith) fault

  no_fault : (k : FaultKind) (p : Place) → ¬ Fault k p
  no_fault k p fault = topmost (suc p.line) k p (omega arith) fault

-- ---- a program without a fault of names is lawful

before_or_not : (p q : Place) → IsBefore p q ⊎ ¬ IsBefore p q
before_or_not p q = by_line (cases_order p.line q.line)
  where
    by_column : p.line ≡ q.line → (p.column < q.column) ⊎ (q.column ≤ p.column) → IsBefore p q ⊎ ¬ IsBefore p q
    by_column same (inl less) = inl (inr (same, less))
    by_column same (inr not) = inr never
      where
        never : ¬ IsBefore p q
        never (inl less) = absurd (omega (arith, less, same))
        never (inr both) = let less = both.1 in absurd (omega (arith, less, not))

    by_line : (p.line ≡ q.line) ⊎ ((p.line < q.line) ⊎ (q.line < p.line)) → IsBefore p q ⊎ ¬ IsBefore p q
    by_line (inl same) = by_column same (cases_lt p.column q.column)
    by_line (inr (inl less)) = inl (inl less)
    by_line (inr (inr more)) = inr never
      where
        never : ¬ IsBefore p q
        never (inl less) = absurd (omega (arith, less, more))
        never (inr both) = let same = both.0 in absurd (omega (arith, same, more))

allows_or_not : (m : Meaning) (u : UseKind) → Allows m u ⊎ ¬ Allows m u
allows_or_not (AConstant i) IsRead = inl tt
allows_or_not (AConstant i) IsAssigned = inr (λ is. is)
allows_or_not (AConstant i) IsCalled = inr (λ is. is)
allows_or_not (AVariable i) IsRead = inl tt
allows_or_not (AVariable i) IsAssigned = inl tt
allows_or_not (AVariable i) IsCalled = inr (λ is. is)
allows_or_not (AProcedure i) IsRead = inr (λ is. is)
allows_or_not (AProcedure i) IsAssigned = inr (λ is. is)
allows_or_not (AProcedure i) IsCalled = inl tt

holds : {P : Type 0} → P ⊎ (¬ P) → ¬ (¬ P) → P
holds (inl is) not = is
holds (inr isnt) not = absurd (not isnt)

module _ (main : Block) (none : (k : FaultKind) (p : Place) → ¬ IsNameFault main k p) where
  get_there : (ds : List Declaration) (i : ℕ) → i < length ds → (d : Declaration) × (slice_get ds i ≡ Some d)
  get_there ds i less = by_case (slice_get_cases ds i).1
    where
      by_case : ((d : Declaration) × (i < length ds) × (slice_get ds i ≡ Some d) × (get_or ds i d ≡ d))
          ⊎ ((length ds ≤ i) × (slice_get ds i ≡ None)) → (d : Declaration) × (slice_get ds i ≡ Some d)
      by_case (inl is) = (is.0, is.2)
      by_case (inr past) = let after = past.0 in absurd (omega (arith, less, after))

  few : (q : Path) (b : Block) → block_at main q ≡ Some b → length (declarations b) ≤ declaration_limit
  few q b at = by_length (cases_lt declaration_limit (length (declarations b)))
    where
      by_length : (declaration_limit < length (declarations b)) ⊎ (length (declarations b) ≤ declaration_limit)
          → length (declarations b) ≤ declaration_limit
      by_length (inr is) = is
      by_length (inl more) =
          let there = get_there (declarations b) declaration_limit more in
          absurd (none TooManyNames there.0.name.place (IsNameFault.too_many_names q b there.0 at there.1))

  use_lawful : (q : Path) (b : Block) (i : ℕ) (u : Use) → block_at main q ≡ Some b
      → slice_get (body_uses b) i ≡ Some u → (o : Option Home) → home main q u.name.word ≡ o
      → IsLawfulUse main q u
  use_lawful q b i u at is None found = absurd (none Unknown u.name.place (IsNameFault.unknown q b i u at is found))
  use_lawful q b i u at is (Some h) found = record {
    at = h;
    found = found;
    behind = holds (before_or_not h.declaration.name.place u.name.place)
        (λ late. none TooEarly u.name.place (IsNameFault.too_early q b i u h at is found late));
    allowed = holds (allows_or_not h.declaration.meaning u.use_kind)
        (λ wrong. none WrongKind u.name.place (IsNameFault.wrong_kind q b i u h at is found wrong));
  }

  lawful : IsLawful main
  lawful = record {
    declares = λ q b at. record {
      few = few q b at;
      once = λ i j d e less first second same. none Twice e.name.place
          (IsNameFault.twice q b i j d e at first second less same);
    };
    uses = λ q b i u at is. use_lawful q b i u at is (home main q u.name.word) refl;
  }

-- ---- an editor's text without a fault of names is lawful

module _ (main : Block) (q : Path) (uses : List Use)
    (none : (k : FaultKind) (p : Place) → ¬ IsNameFaultOutside main q uses k p) where
  use_lawful_outside : (i : ℕ) (u : Use) → slice_get uses i ≡ Some u → (o : Option Home)
      → home main q u.name.word ≡ o → IsLawfulOutside main q u
  use_lawful_outside i u is None found =
      absurd (none Unknown u.name.place (IsNameFaultOutside.unknown i u is found))
  use_lawful_outside i u is (Some h) found = record {
    at = h;
    found = found;
    allowed = holds (allows_or_not h.declaration.meaning u.use_kind)
        (λ wrong. none WrongKind u.name.place (IsNameFaultOutside.wrong_kind i u h is found wrong));
  }

  names_lawful : AreLawfulOutside main q uses
  names_lawful i u is = use_lawful_outside i u is (home main q u.name.word) refl

-- ---- the laws

module _ {T : Type 0} (Reads : Reading T) (IsWrong : T → FaultKind → Place → Type 0) (IsRight : T → Type 0)
    (right : (t : T) → ((k : FaultKind) (p : Place) → ¬ IsWrong t k p) → IsRight t)
    (read_or_faulty : IsReadOrFaulty Reads) where
  has_one : (text : List ℕ) → NotNeither (IsFirstIn Reads IsWrong text) (IsReadAs Reads IsRight text)
  has_one text (no_tree, no_fault_of) = by_length (cases_lt limit (length text))
    where
      by_tokens : length text ≤ limit → ((tree : T) × Reads level_limit (tokens_of text) tree)
          ⊎ ((kind : FaultKind) × (place : Place) × IsTokenFault (IsText Reads) (tokens_of text) kind place) → ⊥
      by_tokens short (inr fault) = no_fault_of fault.0 fault.1 (in_tokens short fault.2)
      by_tokens short (inl (tree, reads)) =
          no_tree tree (record {
            short = short;
            reads = reads;
            lawful = right tree (no_fault (IsWrong tree) (λ k p first. no_fault_of k p
                (in_names short reads first)));
          })

      by_length : (limit < length text) ⊎ (length text ≤ limit) → ⊥
      by_length (inl long) = no_fault_of _ _ (too_long long)
      by_length (inr short) = by_tokens short (read_or_faulty text)

pub texts_have_one : IsReadOrFaulty ReadsProgram → TextsHaveOne
texts_have_one = has_one ReadsProgram IsNameFault IsLawful lawful

pub conditions_have_one : IsReadOrFaulty ReadsConditionText → ConditionsHaveOne
conditions_have_one read_or_faulty main q =
    has_one ReadsConditionText (IsConditionNameFault main q) (λ c. AreLawfulOutside main q (condition_uses c))
    (λ c. names_lawful main q (condition_uses c)) read_or_faulty

pub expressions_have_one : IsReadOrFaulty ReadsExpressionText → ExpressionsHaveOne
expressions_have_one read_or_faulty main q =
    has_one ReadsExpressionText (IsExpressionNameFault main q) (λ e. AreLawfulOutside main q (expression_uses e))
    (λ e. names_lawful main q (expression_uses e)) read_or_faulty
