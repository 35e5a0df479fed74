-- The order asked, found again by the numbers.
use Rattle.std.proofs.Common.{◌≡◌, ◌⊎◌, inl, inr, ℕ, zero, suc, ◌+◌, ◌<◌, ◌≤◌, Bool, true, false, List, [], ◌∷◌, length, cond, get_or, refl, ap, sym, ◌∙◌, subst, arith, nat_eq, Option, Some, None, slice_get}
use Rattle.std.specs.Prelude.{find, Contains, option_and_then}
use Rattle.std.specs.Option.{option_map_or}
use Rattle.std.specs.Ordering.{nat_cmp, is_lt}
use Rattle.std.specs.List.Sorted.{IsPermutation, IsStableByKey, ties}
use Rattle.std.proofs.lemmas.Bool.Decides.{nat_tests}
use Rattle.std.proofs.lemmas.List.Elements.{filter_agree}
use Rattle.std.proofs.lemmas.Option.{slice_get-map, slice_get_past}
use Rattle.std.proofs.lemmas.Bool.{cases_lt}
use Rattle.std.proofs.lemmas.List.Sorted.{Contains-permutation, IsPermutation-sym, length_permutation}
use Rattle.dbg_plan.specs.declared.breakpoint.Breakpoint.{Breakpoint}
use Rattle.dbg_plan.specs.Messages.{Message}
use Rattle.dbg_plan.specs.Breakpoints.{plain_breakpoint, plain_breakpoints}
use Rattle.dbg_plan.specs.Plans.{Listed, is_of, those_of, parts_at, AreNumbered}
use Rattle.dbg_plan.specs.declared.plan.Plan.TheInside.{Inside}
use Rattle.dbg_plan.specs.Table.{prepended, by_number, listed, IsTable, IsPart}
use Rattle.std.proofs.lemmas.Grind.{common_steps}

-- ---- a stable sort by step leaves those of a step in the order asked

tie : (s : ℕ) (b : Breakpoint) → is_of s b ≡ ties (λ x y. is_lt (nat_cmp x y)) s b.step
tie s b = grind (arith, nat_tests)

pub stays_in_order : (bs ordered : List Breakpoint) → IsStableByKey (λ (b : Breakpoint). b.step) nat_cmp bs ordered
    → (s : ℕ) → those_of s ordered ≡ those_of s bs
stays_in_order bs ordered stable s =
    let any : Breakpoint = record { number = 0; step = s; condition = None; rule = None; message = None } in
    filter_agree (is_of s) _ (tie s) ordered ∙ stable any ∙ sym (filter_agree (is_of s) _ (tie s) bs)

-- ---- the first with a number is the one that has it

abbrev pub has : ℕ → Breakpoint → Bool
has n b = nat_eq b.number n

has_true : (n : ℕ) (b : Breakpoint) → b.number ≡ n → has n b ≡ true
has_true n b e = grind (arith, nat_tests)

has_number : (n : ℕ) (b : Breakpoint) → has n b ≡ true → b.number ≡ n
has_number n b e = grind (arith, nat_tests)

-- what is found stands in the list and has the number
record IsFound (n : ℕ) (bs : List Breakpoint) : Type 0 where
  pub first : Breakpoint
  pub found : find (has n) bs ≡ Some first
  pub at : ℕ
  pub within : at < length bs
  pub there : get_or bs at first ≡ first
  pub number : first.number ≡ n

found_here : (n : ℕ) (x : Breakpoint) (xs : List Breakpoint) → has n x ≡ true → IsFound n (x ∷ xs)
found_here n x xs e =
    record { first = x; found = cc; at = 0; within = omega arith; there = refl; number = has_number n x e }

found_later : (n : ℕ) (x : Breakpoint) (xs : List Breakpoint) → has n x ≡ false → IsFound n xs → IsFound n (x ∷ xs)
found_later n x xs e more =
    let lt = more.within in
    record {
      first = more.first;
      found = cc more.found;
      at = suc more.at;
      within = omega arith;
      there = more.there;
      number = more.number;
    }

found : (n : ℕ) (bs : List Breakpoint) (k : ℕ) (b : Breakpoint) → k < length bs → get_or bs k b ≡ b → b.number ≡ n
    → IsFound n bs
found n [] k b lt at is = absurd (omega arith)
found n (x ∷ xs) zero b lt at is = found_here n x xs (has_true n x (ap (λ (c : Breakpoint). c.number) at ∙ is))
found n (x ∷ xs) (suc k) b lt at is = by_test (has n x) refl (found n xs k b (omega arith) at is)
  where
    by_test : (v : Bool) → has n x ≡ v → IsFound n xs → IsFound n (x ∷ xs)
    by_test true e more = found_here n x xs e
    by_test false e more = found_later n x xs e more

number_at : (n : ℕ) (bs : List Breakpoint) (k : ℕ) (b : Breakpoint) → AreNumbered n bs → k < length bs
    → get_or bs k b ≡ b → b.number ≡ n + k
number_at n [] k b numbered lt at = absurd (omega arith)
number_at n (x ∷ xs) zero b numbered lt at = grind (arith, common_steps)
number_at n (x ∷ xs) (suc k) b numbered lt at =
    let e = number_at (n + 1) xs k b numbered.2 (omega arith) at in omega arith

same_place : (bs : List Breakpoint) (k : ℕ) (b c : Breakpoint) → k < length bs → get_or bs k b ≡ b → get_or bs k c ≡ c
    → b ≡ c
same_place [] k b c lt at is = absurd (omega arith)
same_place (x ∷ xs) zero b c lt at is = sym at ∙ is
same_place (x ∷ xs) (suc k) b c lt at is = same_place xs k b c (omega arith) at is

finds : (bs ordered : List Breakpoint) → AreNumbered 0 bs → IsPermutation bs ordered → (b : Breakpoint) → Contains bs b
    → find (has b.number) ordered ≡ Some b
finds bs ordered numbered moved b in_bs =
    let there = Contains-permutation bs ordered b moved in_bs in
    let first = found b.number ordered there.0 b there.1 there.2 refl in
    let back = Contains-permutation ordered bs first.first (IsPermutation-sym bs ordered moved) (
      first.at,
      first.within,
      first.there,
    ) in
    grind (arith, common_steps, number_at, same_place, get_or)

listed_from : (ordered bs : List Breakpoint) (n : ℕ) → AreNumbered n bs
    → ((b : Breakpoint) → Contains bs b → find (has b.number) ordered ≡ Some b) → by_number ordered n (length bs) ≡ bs
listed_from ordered [] n numbered all = refl
listed_from ordered (b ∷ bs) n numbered all =
    let head : find (has n) ordered ≡ Some b =
    ap (λ k. find (has k) ordered) (sym numbered.0) ∙ all b (0, omega arith, refl) in
    ap (λ o. prepended o (by_number ordered (n + 1) (length bs))) head
    ∙ ap (λ l. b ∷ l) (listed_from ordered bs (n + 1) numbered.2
    (λ c at. all c (suc at.0, (let lt = at.1 in omega arith), at.2)))

pub by_number_is : (bs ordered : List Breakpoint) → AreNumbered 0 bs → IsPermutation bs ordered
    → by_number ordered 0 (length ordered) ≡ bs
by_number_is bs ordered numbered moved =
    cc (length_permutation bs ordered moved, listed_from ordered bs 0 numbered (finds bs ordered numbered moved))

-- ---- the table of a plan

pub part_is : (bs ordered read : List Breakpoint) (starts : List ℕ) (s : ℕ) → read ≡ ordered
    → by_number ordered 0 (length ordered) ≡ bs → those_of s ordered ≡ those_of s bs →
    IsPart read starts s (those_of s read) → IsPart ordered starts s (those_of s (by_number ordered 0 (length ordered)))
part_is bs ordered read starts s same is stays part = rw (← (stays ∙ ap (λ l. those_of s l) (sym is)), ← same) part

pub listed_is : (a b : ℕ) (xs ys : List Breakpoint) (us vs : List Bool) → a ≡ b → xs ≡ ys → us ≡ vs
    → ◌≡◌ {A = Listed} (record { steps = a; breakpoints = xs; marked = us })
    (record { steps = b; breakpoints = ys; marked = vs })
listed_is a b xs ys us vs e f g = cc

-- ---- the breakpoint with a number

find_number : (n : ℕ) (bs : List Breakpoint) (b : Breakpoint) → find (has n) bs ≡ Some b → b.number ≡ n
find_number n [] b e = cc
find_number n (x ∷ xs) b e = grind (arith, common_steps, find_number n xs b, find, true, has_number, false)

-- the first of the list has at least the number from which it was found
first_number : (ordered : List Breakpoint) (n k : ℕ) (b : Breakpoint) (bs : List Breakpoint) → by_number ordered n k ≡ b
    ∷ bs → n ≤ b.number
first_number ordered n zero b bs e = cc
first_number ordered n (suc k) b bs e =
    grind (arith, common_steps, first_number ordered (n + 1) k b bs, find, by_number, find_number)

not_first : (ordered : List Breakpoint) (n k : ℕ) → AreNumbered n (by_number ordered (n + 1) k)
    → by_number ordered (n + 1) k ≡ []
not_first ordered n k numbered = by_list (by_number ordered (n + 1) k) refl numbered
  where
    by_list : (bs : List Breakpoint) → by_number ordered (n + 1) k ≡ bs → AreNumbered n bs
        → by_number ordered (n + 1) k ≡ []
    by_list [] e numbered = e
    by_list (b ∷ bs) e numbered = let le = first_number ordered (n + 1) k b bs e in absurd (omega (arith, numbered.0))

-- the breakpoint that has the number n + i is the one at i
found_at : (ordered : List Breakpoint) (n k : ℕ) → AreNumbered n (by_number ordered n k) → (i : ℕ)
    → i < length (by_number ordered n k) → find (has (n + i)) ordered ≡ slice_get (by_number ordered n k) i
found_at ordered n zero numbered i lt = absurd (omega arith)
found_at ordered n (suc k) numbered i lt =
    grind (arith, common_steps, found_at ordered (n + 1) k, find, by_number, length, slice_get, not_first)

-- ---- no other has a number

kept : (s : ℕ) (xs : List Breakpoint) (k : ℕ) (b : Breakpoint) → k < length xs → get_or xs k b ≡ b → is_of s b ≡ true
    → Contains (those_of s xs) b
kept s [] k b lt at is = absurd (omega arith)
kept s (x ∷ xs) zero b lt at is = grind (arith, common_steps, is_of, true, Contains)
kept s (x ∷ xs) (suc k) b lt at is = by_test (is_of s x) (kept s xs k b (omega arith) at is)
  where
    by_test : (v : Bool) → Contains (those_of s xs) b → Contains (cond v (x ∷ those_of s xs) (those_of s xs)) b
    by_test true more = (suc more.0, (let lt = more.1 in omega arith), more.2)
    by_test false more = more

was_in : (s : ℕ) (xs : List Breakpoint) (b : Breakpoint) → Contains (those_of s xs) b → Contains xs b
was_in s [] b at = at
was_in s (x ∷ xs) b at = by_test (was_in s xs b) (is_of s x) at
  where
    later : Contains xs b → Contains (x ∷ xs) b
    later more = (suc more.0, (let lt = more.1 in omega arith), more.2)

    by_test : (Contains (those_of s xs) b → Contains xs b) → (v : Bool)
        → Contains (cond v (x ∷ those_of s xs) (those_of s xs)) b → Contains (x ∷ xs) b
    by_test more true (zero, lt, at) = (0, omega arith, at)
    by_test more true (suc k, lt, at) = later (more (k, omega arith, at))
    by_test more false at = later (more at)

found_in : (n : ℕ) (xs : List Breakpoint) (b : Breakpoint) → find (has n) xs ≡ Some b → Contains xs b
found_in n [] b e = cc
found_in n (x ∷ xs) b e = by_test (found_in n xs b) (has n x) refl
  where
    by_test : (find (has n) xs ≡ Some b → Contains xs b) → (v : Bool) → has n x ≡ v → Contains (x ∷ xs) b
    by_test more true is = grind (arith, common_steps, find)
    by_test more false is =
        let there = more (sym (ap (λ v. cond v (Some x) (find (has n) xs)) is) ∙ e) in
        (suc there.0, (let lt = there.1 in omega arith), there.2)

own_step : (b : Breakpoint) → is_of b.step b ≡ true
own_step b = grind (arith, nat_tests)

-- what is found by its number in the table is one of the breakpoints
found_within : (ordered bs : List Breakpoint) (n : ℕ) (b : Breakpoint) → ((s : ℕ) → those_of s ordered ≡ those_of s bs)
    → AreNumbered 0 bs → find (has n) ordered ≡ Some b → n < length bs
found_within ordered bs n b whole numbered is =
    let there = found_in n ordered b is in
    let listed = was_in b.step bs b (subst (λ l. Contains l b) (whole b.step) (kept b.step ordered there.0 b there.1
    there.2 (own_step b))) in
    grind (arith, common_steps, number_at, find_number)

-- the breakpoint with a number, if there is one
at_number : (ordered bs : List Breakpoint) → by_number ordered 0 (length ordered) ≡ bs
    → ((s : ℕ) → those_of s ordered ≡ those_of s bs) → AreNumbered 0 bs → (n : ℕ)
    → find (has n) ordered ≡ slice_get bs n
at_number ordered bs listed whole numbered n = by_order (cases_lt n (length bs))
  where
    first : n ≡ 0 + n
    first = omega arith

    past : length bs ≤ n → (o : Option Breakpoint) → find (has n) ordered ≡ o → o ≡ slice_get bs n
    past le None e = sym (slice_get_past bs n le)
    past le (Some b) e = let lt = found_within ordered bs n b whole numbered e in absurd (omega arith)

    by_order : (n < length bs) ⊎ (length bs ≤ n) → find (has n) ordered ≡ slice_get bs n
    by_order (inl lt) = grind (arith, common_steps, listed, length, by_number, find, found_at, slice_get)
    by_order (inr le) = past le (find (has n) ordered) refl

-- the parts of a breakpoint's message, found by its number
pub parts_found : (p : Inside) → IsTable p → (number : ℕ) (o : Option Breakpoint)
    → find (has number) p.ordered.items ≡ o →
    option_map_or (λ (m : Message). m.parts) (option_and_then (λ (b : Breakpoint). (plain_breakpoint b).message) o)
    [] ≡ parts_at (plain_breakpoints (listed p).breakpoints) number
parts_found p table number o is = grind (arith, common_steps, listed, slice_get, at_number, slice_get-map)
