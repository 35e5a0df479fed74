-- Two plans have the same table exactly where they have the same breakpoints.
use Rattle.std.proofs.Common.{◌≡◌, ◌≢◌, ◌⊎◌, inl, inr, ℕ, zero, suc, ◌+◌, ◌<◌, ◌≤◌, ◌==◌, Bool, true, false, cond, nat_eq, List, [], ◌∷◌, length, map, filter, get_or, slice_get, vec_len, Option, Some, None, Decides, refl, sym, ap, ◌∙◌, arith}
use Rattle.std.specs.Prelude.{find, option_map}
use Rattle.std.specs.List.Sorted.{IsNonDecreasingBy}
use Rattle.std.proofs.lemmas.Bool.{cases_lt}
use Rattle.std.proofs.lemmas.Bool.Decides.{nat_tests, eqb_tells, Decides-like}
use Rattle.std.proofs.lemmas.List.{length-map}
use Rattle.std.proofs.lemmas.Option.{slice_get-map, slice_get-get_or, same_Some}
use Rattle.dbg_plan.specs.declared.breakpoint.Breakpoint.{Breakpoint}
use Rattle.dbg_plan.specs.Breakpoints.{Breakpoint as PlainBreakpoint, plain_breakpoint, plain_breakpoints}
use Rattle.dbg_plan.specs.Plans.{is_of, those_of, AreNumbered}
use Rattle.dbg_plan.specs.declared.plan.Plan.TheInside.{Inside}
use Rattle.dbg_plan.specs.Table.{prepended, by_number, Numbered, numbered_of, listed, IsTable}
use Rattle.dbg_plan.proofs.Parts.{Rises, rises_sorted}
use Rattle.std.proofs.lemmas.Grind.{common_steps}

-- ---- the same table gives the same breakpoints

abbrev next_numbered : Option Numbered → List Numbered → List Numbered
next_numbered None es = es
next_numbered (Some e) es = e ∷ es

map_prepended : (o : Option Breakpoint) (bs : List Breakpoint)
    → map numbered_of (prepended o bs) ≡ next_numbered (option_map numbered_of o) (map numbered_of bs)
map_prepended None bs = refl
map_prepended (Some b) bs = refl

find_map : (n : ℕ) (bs : List Breakpoint) → option_map numbered_of (find (λ b. nat_eq b.number n) bs) ≡ find
    (λ e. nat_eq e.number n) (map numbered_of bs)
find_map n [] = refl
find_map n (b ∷ bs) = grind (arith, common_steps, find_map n bs, find, map, true, false)

numbers_same : (xs ys : List Breakpoint) (n k : ℕ) → map numbered_of xs ≡ map numbered_of ys
    → map numbered_of (by_number xs n k) ≡ map numbered_of (by_number ys n k)
numbers_same xs ys n zero e = refl
numbers_same xs ys n (suc k) e =
    map_prepended (find (λ b. nat_eq b.number n) xs) (by_number xs (n + 1) k)
    ∙ ap (λ o. next_numbered o (map numbered_of (by_number xs (n + 1) k)))
    (find_map n xs ∙ ap (λ es. find (λ e. nat_eq e.number n) es) e ∙ sym (find_map n ys))
    ∙ ap (λ l. next_numbered (option_map numbered_of (find (λ b. nat_eq b.number n) ys)) l)
    (numbers_same xs ys (n + 1) k e)
    ∙ sym (map_prepended (find (λ b. nat_eq b.number n) ys) (by_number ys (n + 1) k))

unnumbered : (bs : List Breakpoint) → map (λ (e : Numbered). e.breakpoint) (map numbered_of bs) ≡ plain_breakpoints bs
unnumbered [] = refl
unnumbered (b ∷ bs) = ap (λ l. plain_breakpoint b ∷ l) (unnumbered bs)

abbrev pub listed_by : List Breakpoint → List Breakpoint
listed_by ordered = by_number ordered 0 (length ordered)

pub listed_same : (xs ys : List Breakpoint) → map numbered_of xs ≡ map numbered_of ys
    → plain_breakpoints (listed_by xs) ≡ plain_breakpoints (listed_by ys)
listed_same xs ys e =
    let long : length xs ≡ length ys = omega (arith, ap length e, length-map xs numbered_of, length-map ys numbered_of)
    in
    cc (unnumbered (listed_by xs), numbers_same xs ys 0 (length xs) e, unnumbered (listed_by ys))

-- ---- the same breakpoints have the same table

same_numbered : (n : ℕ) (xs ys : List Breakpoint) → AreNumbered n xs → AreNumbered n ys
    → plain_breakpoints xs ≡ plain_breakpoints ys → map numbered_of xs ≡ map numbered_of ys
same_numbered n [] [] first second e = refl
same_numbered n [] (y ∷ ys) first second e = cc
same_numbered n (x ∷ xs) [] first second e = cc
same_numbered n (x ∷ xs) (y ∷ ys) first second e =
    let parts = both (plain_breakpoint x) (plain_breakpoint y) (plain_breakpoints xs) (plain_breakpoints ys) e in
    grind (arith, common_steps, map, same_numbered (n + 1) xs ys first.2 second.2 parts.1)
  where
    both : (p q : PlainBreakpoint) (ps qs : List PlainBreakpoint) → p ∷ ps ≡ q ∷ qs → (p ≡ q) × (ps ≡ qs)
    both p q ps qs e = (cc, cc)

abbrev step_of : Numbered → ℕ
step_of e = e.breakpoint.step

abbrev of : ℕ → Numbered → Bool
of s e = nat_eq s (step_of e)

abbrev Rising : ℕ → List Numbered → Type 0
Rising n [] = Unit {0}
Rising n (e ∷ es) = (n ≤ step_of e) × Rising (step_of e) es

rising : (n : ℕ) (bs : List Breakpoint) → Rises n bs → Rising n (map numbered_of bs)
rising n [] r = tt
rising n (b ∷ bs) r = (r.0, rising b.step bs r.1)

those_map : (s : ℕ) (bs : List Breakpoint) → filter (of s) (map numbered_of bs) ≡ map numbered_of (those_of s bs)
those_map s [] = refl
those_map s (b ∷ bs) = grind (arith, common_steps, is_of, those_map s bs, filter, map, true, false)

of_own : (s : ℕ) (e : Numbered) → s ≡ step_of e → of s e ≡ true
of_own s e same = grind (arith, nat_tests)

of_other : (s : ℕ) (e : Numbered) → s ≢ step_of e → of s e ≡ false
of_other s e other = grind (arith, nat_tests)

filter_yes : (s : ℕ) (e : Numbered) (es : List Numbered) → s ≡ step_of e → filter (of s) (e ∷ es) ≡ e ∷ filter (of s) es
filter_yes s e es same = ap (λ t. cond t (e ∷ filter (of s) es) (filter (of s) es)) (of_own s e same)

filter_no : (s : ℕ) (e : Numbered) (es : List Numbered) → s ≢ step_of e → filter (of s) (e ∷ es) ≡ filter (of s) es
filter_no s e es other = ap (λ t. cond t (e ∷ filter (of s) es) (filter (of s) es)) (of_other s e other)

none_below : (s n : ℕ) (es : List Numbered) → s < n → Rising n es → filter (of s) es ≡ []
none_below s n [] lt r = refl
none_below s n (e ∷ es) lt r = grind (arith, common_steps, filter_no, none_below s (step_of e) es (omega arith) r.1)

nothing : (e : Numbered) (es : List Numbered) → ◌≡◌ {A = List Numbered} [] (e ∷ es) → ⊥
nothing e es is = cc

heads : (a b : Numbered) (es fs : List Numbered) → a ∷ es ≡ b ∷ fs → (a ≡ b) × (es ≡ fs)
heads a b es fs e = (cc, cc)

-- a list in the order of the steps is known by what it has of each step
sorted_once : (n m : ℕ) (es fs : List Numbered) → Rising n es → Rising m fs
    → ((s : ℕ) → filter (of s) es ≡ filter (of s) fs) → es ≡ fs
sorted_once n m [] [] r q same = refl
sorted_once n m [] (b ∷ fs) r q same = absurd (nothing b (filter _ fs) (same (step_of b) ∙ filter_yes _ b fs refl))
sorted_once n m (a ∷ es) [] r q same =
    absurd (nothing a (filter (of (step_of a)) es) (sym (same (step_of a)) ∙ filter_yes (step_of a) a es refl))
sorted_once n m (a ∷ es) (b ∷ fs) r q same = by_order (sorted_once _ _ es fs r.1 q.1) (eqb_tells _ _)
  where
    lower : (c d : Numbered) (cs ds : List Numbered) → Rising (step_of d) ds → step_of c < step_of d
        → filter (of (step_of c)) (c ∷ cs) ≡ filter (of (step_of c)) (d ∷ ds) → ⊥
    lower c d cs ds r lt e = grind (arith, common_steps, filter, none_below, nothing, filter_yes)

    rest : step_of a ≡ step_of b → (s : ℕ) → filter (of s) es ≡ filter (of s) fs
    rest is s = grind (arith, common_steps, eqb_tells, true, false, filter, heads, filter_yes, filter_no)

    equal : (((s : ℕ) → filter (of s) es ≡ filter (of s) fs) → es ≡ fs) → step_of a ≡ step_of b → a ∷ es ≡ b ∷ fs
    equal once is =
        let first : a ≡ b = (heads a b (filter (of (step_of a)) es) (filter (of (step_of a)) fs) (sym (filter_yes
        (step_of a) a es refl) ∙ same (step_of a) ∙ filter_yes (step_of a) b fs is)).0 in
        cc (once (rest is))

    by_order : (((s : ℕ) → filter (of s) es ≡ filter (of s) fs) → es ≡ fs)
        → ((nat_eq (step_of a) (step_of b) ≡ true) × (step_of a ≡ step_of b))
        ⊎ ((nat_eq (step_of a) (step_of b) ≡ false) × (step_of a ≢ step_of b)) → a ∷ es ≡ b ∷ fs
    by_order once (inl is) = equal once is.1
    by_order once (inr other) = by_less (cases_lt (step_of a) (step_of b))
      where
        by_less : (step_of a < step_of b) ⊎ (step_of b ≤ step_of a) → a ∷ es ≡ b ∷ fs
        by_less (inl lt) = absurd (lower a b es fs q.1 lt (same (step_of a)))
        by_less (inr le) = absurd (lower b a fs es r.1 (let ne = other.1 in omega (arith, ne)) (sym (same (step_of b))))

-- what is known of a plan's table
pub record IsArranged (ordered bs : List Breakpoint) : Type 0 where
  pub numbers : AreNumbered 0 bs
  pub sorted : IsNonDecreasingBy (λ (b : Breakpoint). b.step) ordered
  pub whole : (s : ℕ) → those_of s ordered ≡ those_of s bs

rises : (ordered bs : List Breakpoint) → IsArranged ordered bs → Rising 0 (map numbered_of ordered)
rises ordered bs is = rising 0 ordered (rises_sorted 0 ordered is.sorted (λ d some. omega arith))

of_listed : (ordered bs : List Breakpoint) → IsArranged ordered bs → (s : ℕ)
    → filter (of s) (map numbered_of ordered) ≡ filter (of s) (map numbered_of bs)
of_listed ordered bs is s = those_map s ordered ∙ ap (map numbered_of) (is.whole s) ∙ sym (those_map s bs)

pub ordered_same : (xs ys us vs : List Breakpoint) → IsArranged xs us → IsArranged ys vs
    → plain_breakpoints us ≡ plain_breakpoints vs → map numbered_of xs ≡ map numbered_of ys
ordered_same xs ys us vs first second e =
    let same = same_numbered 0 us vs first.numbers second.numbers e in
    sorted_once 0 0 (map numbered_of xs) (map numbered_of ys) (rises xs us first) (rises ys vs second)
    (λ s. of_listed xs us first s ∙ ap (λ es. filter (of s) es) same ∙ sym (of_listed ys vs second s))

-- an empty table has no breakpoints, and no other
pub none_listed : (ordered all : List Breakpoint) → IsArranged ordered all → all ≡ [] → ordered ≡ []
none_listed [] all is e = refl
none_listed (b ∷ bs) all is e =
    absurd (nothing (numbered_of b) (filter (of b.step) (map numbered_of bs))
    (cc (of_listed (b ∷ bs) all is b.step, filter_yes b.step (numbered_of b) (map numbered_of bs) refl)))

-- ---- the walk along two lists

pub same_there : (xs ys : List Breakpoint) (i : ℕ) (x y : Breakpoint) → i < length xs → i < length ys
    → x ≡ get_or xs i x → y ≡ get_or ys i y → map numbered_of xs ≡ map numbered_of ys → numbered_of x ≡ numbered_of y
same_there xs ys i x y lt lt' is is' same = same_Some _ _ (cc (there xs i x lt is, there ys i y lt' is'))
  where
    there : (xs : List Breakpoint) (i : ℕ) (x : Breakpoint) → i < length xs → x ≡ get_or xs i x
        → slice_get (map numbered_of xs) i ≡ Some (numbered_of x)
    there xs i x lt is = cc (slice_get-map numbered_of xs i, slice_get-get_or xs i x lt)

-- ---- plans

arranged : (p : Inside) → IsTable p → IsArranged p.ordered.items (listed p).breakpoints
arranged p is = record { numbers = is.numbered.numbers; sorted = is.sorted; whole = is.whole }

pub plans_told : (p q : Inside) → IsTable p → IsTable q → (r : Bool)
    → Decides r (map numbered_of p.ordered.items ≡ map numbered_of q.ordered.items)
    → Decides r (plain_breakpoints (listed p).breakpoints ≡ plain_breakpoints (listed q).breakpoints)
plans_told p q first second r told =
    grind (arith, common_steps, Decides-like, listed_same, ordered_same, listed, arranged)

pub empty_told : (p : Inside) → IsTable p → (r : Bool) → r ≡ (vec_len p.ordered == 0)
    → Decides r ((listed p).breakpoints ≡ [])
empty_told p is r e =
    let long : vec_len p.ordered ≡ length p.ordered.items = omega (arith, p.ordered.ok) in
    let f = e ∙ ap (λ n. n == 0) long in (
      λ yes'. ap listed_by (none p.ordered.items (sym f ∙ yes')),
      λ nothing. f
          ∙ ap (λ l. length l == 0) (none_listed p.ordered.items (listed p).breakpoints (arranged p is) nothing),
    )
  where
    none : (bs : List Breakpoint) → (length bs == 0) ≡ true → bs ≡ []
    none [] e = refl
    none (b ∷ bs) e = by_length (eqb_tells (length (b ∷ bs)) 0)
      where
        by_length : ((nat_eq (length (b ∷ bs)) 0 ≡ true) × (length (b ∷ bs) ≡ 0))
            ⊎ ((nat_eq (length (b ∷ bs)) 0 ≡ false) × (length (b ∷ bs) ≢ 0)) → b ∷ bs ≡ []
        by_length (inl is) = let n = is.1 in absurd (omega (arith, n))
        by_length (inr is) = let never : false ≡ true = sym is.0 ∙ e in cc
