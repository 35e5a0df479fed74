-- The parts of a list of breakpoints that stand in the order of their steps.
use Rattle.std.proofs.Common.{◌≡◌, ◌≢◌, ℕ, suc, ◌+◌, ◌<◌, ◌≤◌, Bool, true, false, inl, inr, List, [], ◌∷◌, ◌++◌, length, take, drop, cond, slice_index, get_or, refl, ap, sym, ◌∙◌, subst, arith}
use Rattle.std.specs.List.{prefix_len}
use Rattle.std.specs.List.Sorted.{IsNonDecreasingBy}
use Rattle.std.proofs.lemmas.Bool.Decides.{nat_tests}
use Rattle.std.proofs.lemmas.Bool.{cases_eq}
use Rattle.std.proofs.lemmas.List.{drop-drop, get_or_append_left, get_or_push, length-drop, length-append}
use Rattle.dbg_plan.specs.declared.breakpoint.Breakpoint.{Breakpoint}
use Rattle.dbg_plan.specs.Plans.{is_of, those_of}
use Rattle.dbg_plan.specs.Table.{IsPart}
use Rattle.std.proofs.lemmas.Grind.{common_steps}

-- the steps rise from n on
abbrev pub Rises : ℕ → List Breakpoint → Type 0
Rises n [] = Unit {0}
Rises n (b ∷ bs) = (n ≤ b.step) × Rises b.step bs

pub rises_sorted : (n : ℕ) (bs : List Breakpoint) → IsNonDecreasingBy (λ (b : Breakpoint). b.step) bs
    → ((d : Breakpoint) → 0 < length bs → n ≤ (get_or bs 0 d).step) → Rises n bs
rises_sorted n [] sorted low = tt
rises_sorted n (b ∷ bs) sorted low = (
  low b (omega arith),
  rises_sorted b.step bs (λ i j d le lt. sorted (suc i) (suc j) d (omega arith) (omega arith))
      (λ d some. sorted 0 1 d (omega arith) (omega arith)),
)

rises_lower : (m n : ℕ) (bs : List Breakpoint) → m ≤ n → Rises n bs → Rises m bs
rises_lower m n [] le rises = tt
rises_lower m n (b ∷ bs) le rises = let low = rises.0 in (omega arith, rises.1)

is_of_above : (i : ℕ) (b : Breakpoint) → i < b.step → is_of i b ≡ false
is_of_above i b lt = grind (arith, nat_tests)

is_of_step : (i : ℕ) (b : Breakpoint) → is_of i b ≡ true → i ≡ b.step
is_of_step i b e = grind (arith, nat_tests)

is_of_other : (i : ℕ) (b : Breakpoint) → is_of i b ≡ false → i ≢ b.step
is_of_other i b e = grind (arith, nat_tests)

not_of : (s : ℕ) (b : Breakpoint) → b.step < s → is_of s b ≡ false
not_of s b lt = grind (arith, nat_tests)

none_below : (s n : ℕ) (bs : List Breakpoint) → s < n → Rises n bs → those_of s bs ≡ []
none_below s n [] lt rises = refl
none_below s n (b ∷ bs) lt rises =
    let low = rises.0 in
    cc (is_of_above s b (omega arith), none_below s b.step bs (omega arith) rises.1)

-- what a walk from step i on finds: those of the step, and after them the later ones
pub record Splits (i : ℕ) (bs : List Breakpoint) : Type 0 where
  pub here : take (prefix_len (is_of i) bs) bs ≡ those_of i bs
  pub rises : Rises (i + 1) (drop (prefix_len (is_of i) bs) bs)
  pub same : (s : ℕ) → i < s → those_of s (drop (prefix_len (is_of i) bs) bs) ≡ those_of s bs
  pub within : prefix_len (is_of i) bs ≤ length bs

module _ (i : ℕ) (b : Breakpoint) (bs : List Breakpoint) where
  length_is : (v : Bool) → is_of i b ≡ v → prefix_len (is_of i) (b ∷ bs) ≡ cond v (1 + prefix_len (is_of i) bs) 0
  length_is v e = ap (λ t. cond t (1 + prefix_len (is_of i) bs) 0) e

  those_are : (s : ℕ) (v : Bool) → is_of s b ≡ v → those_of s (b ∷ bs) ≡ cond v (b ∷ those_of s bs) (those_of s bs)
  those_are s v e = ap (λ t. cond t (b ∷ those_of s bs) (those_of s bs)) e

  goes_past : is_of i b ≡ true → Splits i bs → Splits i (b ∷ bs)
  goes_past e more =
      let at : i ≡ b.step = is_of_step i b e in
      let k = prefix_len (is_of i) bs in
      let one : prefix_len (is_of i) (b ∷ bs) ≡ suc k = length_is true e ∙ omega arith in
      let fits : k ≤ length bs = more.within in
      grind (arith, common_steps, take, those_are, true, drop, false, not_of)

  stays : is_of i b ≡ false → Rises i (b ∷ bs) → Splits i (b ∷ bs)
  stays e rises =
      let low = rises.0 in
      let other = is_of_other i b e in
      let none : prefix_len (is_of i) (b ∷ bs) ≡ 0 = length_is false e in
      grind (arith, common_steps, take, those_are, false, none_below, drop)

splits : (i : ℕ) (bs : List Breakpoint) → Rises i bs → Splits i bs
splits i [] rises = record { here = refl; rises = tt; same = λ s lt. refl; within = omega arith }
splits i (b ∷ bs) rises =
    by_test (is_of i b) refl (λ e. let at : i ≡ b.step = is_of_step i b e in splits i bs
    (rises_lower i b.step bs (omega arith) rises.1))
  where
    by_test : (v : Bool) → is_of i b ≡ v → (is_of i b ≡ true → Splits i bs) → Splits i (b ∷ bs)
    by_test true e more = goes_past i b bs e (more e)
    by_test false e more = stays i b bs e rises

-- where the walk over the steps has come to step i: the parts of the steps below it are known
pub record Reached (ordered : List Breakpoint) (i : ℕ) (starts : List ℕ) (start : ℕ) : Type 0 where
  pub long : length starts ≡ i + 1
  pub last : slice_index starts i ≡ start
  pub within : start ≤ length ordered
  pub parts : (s : ℕ) → s < i → IsPart ordered starts s (those_of s ordered)
  pub rises : Rises i (drop start ordered)
  pub same : (s : ℕ) → i ≤ s → those_of s (drop start ordered) ≡ those_of s ordered

pub begins : (ordered : List Breakpoint) (starts : List ℕ) → IsNonDecreasingBy (λ (b : Breakpoint). b.step) ordered
    → starts ≡ 0 ∷ [] → Reached ordered 0 starts 0
begins ordered starts sorted is = record {
  long = ap length is;
  last = ap (λ l. slice_index l 0) is;
  within = omega arith;
  parts = λ s lt. absurd (omega arith);
  rises = rises_sorted 0 ordered sorted (λ d some. omega arith);
  same = λ s le. refl;
}

kept : (ordered : List Breakpoint) (starts : List ℕ) (x s : ℕ) (part : List Breakpoint) → s + 1 < length starts
    → IsPart ordered starts s part → IsPart ordered (starts ++ x ∷ []) s part
kept ordered starts x s part lt is = grind (arith, common_steps, get_or_append_left)

-- the next step
pub goes_on : (ordered : List Breakpoint) (i : ℕ) (starts : List ℕ) (start end : ℕ) (new : List ℕ)
    → Reached ordered i starts start →
    end ≡ start + prefix_len (is_of i) (drop start ordered) → new ≡ starts ++ end ∷ [] → Reached ordered (i + 1) new end
goes_on ordered i starts start end new was end_is new_is =
    let long = was.long in
    let rest = drop start ordered in
    let k = prefix_len (is_of i) rest in
    let split = splits i rest was.rises in
    let fits : k ≤ length rest = split.within in
    let fits_all = was.within in
    let more : drop k rest ≡ drop end ordered = drop-drop k start ordered ∙ ap (λ n. drop n ordered) (sym end_is) in
    let old_start : slice_index new i ≡ start = ap (λ l. slice_index l i) new_is ∙ get_or_append_left starts (end ∷ [])
    0 i (omega arith) ∙ was.last in
    let new_start : slice_index new (i + 1) ≡ end = ap (λ l. slice_index l (i + 1)) new_is ∙ get_or_push starts end 0 (i
    + 1) long in
    let below : end ≤ length ordered = omega (arith, length-drop start ordered) in
    let here : IsPart ordered new i (those_of i ordered) = grind (arith, common_steps, take) in
    record {
      long = ap length new_is ∙ length-append starts (end ∷ []) ∙ ap (λ n. n + 1) long;
      last = new_start;
      within
          = below;
      parts = λ s lt. elim (cases_eq s i) [
        | inl e ↦ subst (λ n. IsPart ordered new n (those_of n ordered)) (sym
            e) here
        | inr other ↦ subst (λ l. IsPart ordered l s (those_of s ordered)) (sym new_is) (kept ordered starts end s
            (those_of s ordered) (omega arith) (was.parts s (omega arith)))
      ];
      rises = subst (λ l. Rises (i + 1) l) more
          split.rises;
      same = λ s le. ap (λ l. those_of s l) (sym more) ∙ split.same s (omega arith) ∙ was.same s (omega
          arith);
    }
