-- The machine's counters of breakpoints: of other breakpoints, read by a step, and counted.
use Rattle.std.proofs.Common.{◌≡◌, ℕ, zero, suc, ◌+◌, ◌<◌, ◌⊎◌, inl, inr, ⊎_elim, Bool, true, false, nat_lt, if◌then◌else◌, List, [], ◌∷◌, ◌++◌, length, length-append, get_or, slice_get, Option, Some, None, refl, sym, ap, ◌∙◌, subst, arith}
use Rattle.std.specs.Prelude.{◌&&◌, ◌||◌, nat_le, is_none, slice_index, slice_set}
use Rattle.std.specs.List.{list_any}
use Rattle.std.specs.declared.alloc.Global.{Global}
use Rattle.std.specs.declared.vec.Vec.{Vec}
use Rattle.std.proofs.lemmas.Bool.Decides.{nat_tests}
use Rattle.std.proofs.lemmas.Option.{same_Some, slice_get-get_or}
use Rattle.pl0_machine.specs.declared.mark.Counter.{Counter}
use Rattle.pl0_machine.specs.declared.mark.Proviso.{Proviso}
use Rattle.pl0_machine.specs.Counting.{counters_of, is_due, any_due, passed_at, passed, counted_on, noted_at, noted, any_stops as any_stops_there}
use Rattle.dbg_plan.specs.declared.breakpoint.Breakpoint.{Breakpoint}
use Rattle.dbg_plan.specs.declared.breakpoint.Rule.{Rule}
use Rattle.dbg_plan.specs.declared.breakpoint.Rule.TheVariants.{From, Every}
use Rattle.dbg_plan.specs.Counting.{passes, starts_over, increased, counted, counted_at, due_at, those_due, any_stops}
use Rattle.dbg_plan.specs.Plans.{those_of}
use Rattle.dbg_plan.specs.Table.{IsCounterOf, AreCountersOf, AreCounters}
use Rattle.std.proofs.lemmas.Grind.{common_steps}

-- the table of other breakpoints that are the same at each step
pub of_all : (ordered bs : List Breakpoint) (steps : ℕ) (counters : List (Vec Counter Global))
    → ((s : ℕ) → those_of s ordered ≡ those_of s bs) → AreCounters ordered steps counters
    → AreCounters bs steps counters
of_all ordered bs steps counters same are =
    record { long = are.long; each = λ s v e. rw (← (same s)) (are.each s v e) }

-- the table of one more step
last_or : {A : Type 0} (xs : List A) (v w : A) (s : ℕ) → slice_get (xs ++ (v ∷ [])) s ≡ Some w
    → (slice_get xs s ≡ Some w) ⊎ ((s ≡ length xs) × (v ≡ w))
last_or [] v w zero e = inr (refl, same_Some v w e)
last_or [] v w (suc s) e = absurd cc
last_or (x ∷ xs) v w zero e = inl e
last_or (x ∷ xs) v w (suc s) e = grind (arith, common_steps, last_or xs v w s e)

pub pushed : (bs : List Breakpoint) (step : ℕ) (xs : List (Vec Counter Global)) (v : Vec Counter Global)
    → AreCounters bs step xs → AreCountersOf (those_of step bs) v.items → AreCounters bs (step + 1) (xs ++ (v ∷ []))
pushed bs step xs v are of =
    let long = are.long in
    record {
      long = omega (arith, long, length-append xs (v ∷ []));
      each = λ s w e. ⊎_elim
          (λ before. are.each s w before)
          (λ last. rw (← last.1) (rw (last.0 ∙ long) of)) (last_or xs v w s e);
    }

-- the counters of one more breakpoint
pub counter_pushed : (bs : List Breakpoint) (cs new : List Counter) (i : ℕ) (b : Breakpoint) (c : Counter)
    → length cs ≡ i → i < length bs → b ≡ get_or bs i b → new ≡ cs ++ c ∷ [] → IsCounterOf b c
    → ((k : ℕ) (x : Breakpoint) (y : Counter) → slice_get bs k ≡ Some x → slice_get cs k ≡ Some y → IsCounterOf x y)
    → (length new ≡ i + 1)
    × ((k : ℕ) (x : Breakpoint) (y : Counter) → slice_get bs k ≡ Some x → slice_get new k ≡ Some y → IsCounterOf x y)
counter_pushed bs cs new i b c long lt is new_is of each = (
  (let more = ap length new_is in omega (arith, more, length-append cs (c ∷ []), long)),
  λ k x y here there.
      ⊎_elim (λ before. each k x y here before)
      (λ last.
      let at : slice_get bs i ≡ Some b = slice_get-get_or bs i b lt ∙ ap (λ z. Some z) (sym is) in
      let same : b ≡ x =
      same_Some b x (sym at ∙ ap (λ n. slice_get bs n) (sym (last.0 ∙ long)) ∙ here) in
      subst (λ z. IsCounterOf z y) same (subst (λ z. IsCounterOf b z) last.1 of))
      (last_or cs c y k (ap (λ l. slice_get l k) (sym new_is) ∙ there)),
)

-- what is read of the table
pub read_is : (bs : List Breakpoint) (xs : List (Vec Counter Global)) (s : ℕ) → s < length xs
    → ((v : Vec Counter Global) → slice_get xs s ≡ Some v → AreCountersOf bs v.items)
    → AreCountersOf bs (counters_of xs s)
read_is bs [] s lt each = absurd (omega (arith, lt))
read_is bs (x ∷ xs) zero lt each = each x refl
read_is bs (x ∷ xs) (suc s) lt each = read_is bs xs s (omega (arith, lt)) each

-- ---- counters and breakpoints that are counted alike

-- f says of a counter's proviso, and g of a breakpoint, whether there is an arrival
module _ (f : Proviso → Bool) (g : Breakpoint → Bool) where
  pub record IsAlike (b : Breakpoint) (c : Counter) : Type 0 where
    pub holds : f c.proviso ≡ g b
    pub number : c.number ≡ b.number
    pub rule : c.passes ≡ passes b.rule
    pub starts_over : c.starts_over ≡ starts_over b.rule
    pub stops : c.stops ≡ is_none b.message

  pub record AreAlike (bs : List Breakpoint) (cs : List Counter) : Type 0 where
    pub long : length cs ≡ length bs
    pub each : (k : ℕ) (b : Breakpoint) (c : Counter) → slice_get bs k ≡ Some b → slice_get cs k ≡ Some c → IsAlike b c

  rest : (b : Breakpoint) (bs : List Breakpoint) (c : Counter) (cs : List Counter) → AreAlike (b ∷ bs) (c ∷ cs)
      → AreAlike bs cs
  rest b bs c cs are =
      let long = are.long in
      record { long = omega (arith, long); each = λ k x y here there. are.each (suc k) x y here there }

  one_due : (b : Breakpoint) (c : Counter) → IsAlike b c → (counts : List ℕ) → is_due f counts c ≡ due_at g b counts
  one_due b c is counts = cc (is.holds, is.number, is.rule)

  pub same_due : (bs : List Breakpoint) (cs : List Counter) (counts : List ℕ) → AreAlike bs cs
      → any_due f cs counts ≡ list_any (λ b. due_at g b counts) bs
  same_due [] [] counts are = refl
  same_due [] (c ∷ cs) counts are = let long = are.long in absurd (omega (arith, long))
  same_due (b ∷ bs) [] counts are = let long = are.long in absurd (omega (arith, long))
  same_due (b ∷ bs) (c ∷ cs) counts are =
      cc (one_due b c (are.each 0 b c refl refl) counts, same_due bs cs counts (rest b bs c cs are))

  not_yet : (rule : Option Rule) (n : ℕ) → nat_lt n (passes rule) ≡ true → increased rule n ≡ n + 1
  not_yet None n lt = grind (arith, nat_tests)
  not_yet (Some (From k)) n lt = ap (λ (v : Bool). if v then n + 1 else n) lt
  not_yet (Some (Every k)) n lt = ap (λ (v : Bool). if v then n + 1 else 0) lt

  short : (p n : ℕ) → nat_le p n ≡ false → nat_lt n p ≡ true
  short p n e = grind (arith, nat_tests)

  one_passed : (b : Breakpoint) (c : Counter) → IsAlike b c → (counts : List ℕ) → due_at g b counts ≡ false
      → passed_at f c counts ≡ counted_at g b counts
  one_passed b c is counts undue = grind (arith, common_steps, passes, false, true, short, not_yet)

  not_due : (v : Bool) (b : Breakpoint) (more : List Breakpoint) → (if v then b ∷ more else more) ≡ []
      → (v ≡ false) × (more ≡ [])
  not_due true b more e = absurd cc
  not_due false b more e = (refl, e)

  -- where none is due, the machine counts as the plan does
  pub same_passed : (bs : List Breakpoint) (cs : List Counter) (counts : List ℕ) → AreAlike bs cs
      → those_due g bs counts ≡ [] → passed f cs counts ≡ counted g bs counts
  same_passed [] [] counts are none = refl
  same_passed [] (c ∷ cs) counts are none = let long = are.long in absurd (omega (arith, long))
  same_passed (b ∷ bs) [] counts are none = let long = are.long in absurd (omega (arith, long))
  same_passed (b ∷ bs) (c ∷ cs) counts are none =
      let both = not_due (due_at g b counts) b (those_due g bs (counted_at g b counts)) none in
      cc (one_passed b c (are.each 0 b c refl refl) counts both.0, same_passed bs cs _ (rest b bs c cs are) both.1)

  -- ---- past those that are due

  not_below : (n : ℕ) → nat_lt n 0 ≡ false
  not_below n = grind (arith, nat_tests)

  counted_as : (rule : Option Rule) (n : ℕ)
      → (if nat_lt n (passes rule) then n + 1 else (if starts_over rule then 0 else n)) ≡ increased rule n
  counted_as None n = ap (λ (v : Bool). if v then n + 1 else n) (not_below n)
  counted_as (Some (From k)) n = refl
  counted_as (Some (Every k)) n = refl

  one_noted : (b : Breakpoint) (c : Counter) → IsAlike b c → (counts : List ℕ)
      → noted_at f c counts ≡ counted_at g b counts
  one_noted b c is counts =
      ap (λ (v : Bool). if v then slice_set counts c.number (counted_on c (slice_index counts c.number)) else counts)
      is.holds
      ∙ ap (λ n. if g b then slice_set counts n (counted_on c (slice_index counts n)) else counts) is.number
      ∙ ap (λ p. if g b then slice_set counts b.number (if nat_lt (slice_index counts b.number) p
      then slice_index counts b.number + 1 else (if c.starts_over then 0 else slice_index counts b.number)) else counts)
      is.rule
      ∙ ap (λ (s : Bool). if g b then slice_set counts b.number (if nat_lt (slice_index counts b.number) (passes b.rule)
      then slice_index counts b.number + 1 else (if s then 0 else slice_index counts b.number)) else counts)
      is.starts_over
      ∙ ap (λ k. if g b then slice_set counts b.number k else counts) (counted_as b.rule (slice_index counts b.number))

  stops_first : (due : Bool) (b : Breakpoint) (more : List Breakpoint)
      → any_stops (if due then b ∷ more else more) ≡ ((due && is_none b.message) || any_stops more)
  stops_first true b more = refl
  stops_first false b more = refl

  -- there the machine counts as the plan does, and says whether one stops the program
  pub same_noted : (bs : List Breakpoint) (cs : List Counter) (counts : List ℕ) → AreAlike bs cs
      → (any_stops_there f cs counts ≡ any_stops (those_due g bs counts)) × (noted f cs counts ≡ counted g bs counts)
  same_noted [] [] counts are = (refl, refl)
  same_noted [] (c ∷ cs) counts are = let long = are.long in absurd (omega (arith, long))
  same_noted (b ∷ bs) [] counts are = let long = are.long in absurd (omega (arith, long))
  same_noted (b ∷ bs) (c ∷ cs) counts are =
      let is = are.each 0 b c refl refl in
      let here = one_noted b c is counts in
      let next = counted_at g b counts in
      let more = same_noted bs cs next (rest b bs c cs are) in (
        ap (λ v. (v && c.stops) || any_stops_there f cs (noted_at f c counts)) (one_due b c is counts)
            ∙ ap (λ v. (due_at g b counts && v) || any_stops_there f cs (noted_at f c counts)) is.stops
            ∙ ap (λ l. (due_at g b counts && is_none b.message) || any_stops_there f cs l) here
            ∙ ap (λ v. (due_at g b counts && is_none b.message) || v) more.0
            ∙ sym (stops_first (due_at g b counts) b (those_due g bs next)),
        ap (λ l. noted f cs l) here ∙ more.1,
      )
