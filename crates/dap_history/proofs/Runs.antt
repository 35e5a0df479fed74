-- Runs in order, each with a number; and what positions give, one after another.
use Rattle.dap_history.proofs.Common.{Heading, None, Option, Some, [], ap, arith, cons_option, filter_map, flat_map, last_such, length, or_else, range_with_len, refl, suc, zero, ℕ, ◌++◌, ◌+◌, ◌<◌, ◌∙◌, ◌∷◌, ◌≡◌, ◌≤◌}
use Rattle.std.proofs.Common.{List}
use Rattle.dap_history.proofs.Passing.{none_left}
use Rattle.std.proofs.lemmas.Grind.{common_steps}

-- ---- the last of its kind is the last of all that are

cons_append : {B : Type 0} (o : Option B) (xs ys : List B) → cons_option o (xs ++ ys) ≡ cons_option o xs ++ ys
cons_append o xs ys = grind (arith, common_steps) steps 200000

module _ (A B : Type 0) (f : A → Option B) where
  pub none_such : (xs : List A) → last_such f xs ≡ None → filter_map f xs ≡ []
  none_such [] none = refl
  none_such (x ∷ xs) none =
      let parts = none_left (last_such f xs) (f x) none in
      ap (λ o. cons_option o (filter_map f xs)) parts.1 ∙ none_such xs parts.0

  abbrev EndsWith : List A → B → Type 0
  EndsWith xs y = (front : List B) × (filter_map f xs ≡ front ++ y ∷ [])

  pub last_front : (xs : List A) (y : B) → last_such f xs ≡ Some y → EndsWith xs y
  last_front [] y is = absurd cc
  last_front (x ∷ xs) y is = by_rest (last_such f xs) refl is (λ z there. last_front xs z there)
    where
      by_rest : (o : Option B) → last_such f xs ≡ o → or_else o (f x) ≡ Some y
          → ((z : B) → last_such f xs ≡ Some z → EndsWith xs z) → EndsWith (x ∷ xs) y
      by_rest None none is more = ([], ap (cons_option (f x)) (none_such xs none) ∙ ap (λ o. cons_option o []) is)
      by_rest (Some z) there is more =
          let same : z ≡ y = cc in
          let rest = more y (there ∙ ap Some same) in
          (cons_option (f x) rest.0, ap (cons_option (f x)) rest.1 ∙ cons_append (f x) rest.0 (y ∷ []))

-- ---- numbers of runs

abbrev pub AreNumbered : ℕ → List Heading → Type 0
AreNumbered n [] = Unit {0}
AreNumbered n (run ∷ runs) = (run.run ≡ n) × AreNumbered (n + 1) runs

-- the runs have numbers below n
abbrev pub AreBelow : ℕ → List Heading → Type 0
AreBelow n [] = Unit {0}
AreBelow n (run ∷ runs) = (run.run < n) × AreBelow n runs

pub numbered-snoc : (n : ℕ) (runs : List Heading) (run : Heading) → AreNumbered n runs → run.run ≡ n + length runs
    → AreNumbered n (runs ++ run ∷ [])
numbered-snoc n [] run are is = (is ∙ omega arith, tt)
numbered-snoc n (r ∷ runs) run are is = (are.0, numbered-snoc (n + 1) runs run are.1 (omega (arith, is)))

pub last_number : (n : ℕ) (front : List Heading) (run : Heading) → AreNumbered n (front ++ run ∷ [])
    → run.run ≡ n + length front
last_number n [] run are = omega (arith, are.0)
last_number n (r ∷ front) run are = let h = last_number (n + 1) front run are.1 in omega (arith, h)

pub before_last : (n : ℕ) (front : List Heading) (run : Heading) → AreNumbered n (front ++ run ∷ [])
    → AreBelow run.run front
before_last n [] run are = tt
before_last n (r ∷ front) run are =
    let h = last_number (n + 1) front run are.1 in
    let first = are.0 in
    (omega (arith, h, first), before_last (n + 1) front run are.1)

-- ---- positions one after another

pub ranges_join : (a m n : ℕ) → range_with_len a (m + n) ≡ range_with_len a m ++ range_with_len (a + m) n
ranges_join a zero n = grind (arith, common_steps, range_with_len) steps 200000
ranges_join a (suc m) n =
    let e : suc m + n ≡ suc (m + n) = omega arith in
    let f : a + 1 + m ≡ a + suc m = omega arith in
    cc (ranges_join (a + 1) m n)

-- where f gives nothing
pub none_between : {B : Type 0} (f : ℕ → List B) (a n : ℕ) → ((m : ℕ) → a ≤ m → m < a + n → f m ≡ [])
    → flat_map f (range_with_len a n) ≡ []
none_between f a zero none = refl
none_between f a (suc n) none =
    ap (λ l. l ++ flat_map f (range_with_len (a + 1) n)) (none a (omega arith) (omega arith))
    ∙ none_between f (a + 1) n (λ m above below. none m (omega (arith, above)) (omega (arith, below)))
