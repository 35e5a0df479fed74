-- Marks of places: a program arrives only at breakpoints that share a mark with its place.
use Rattle.std.proofs.Common.{◌≡◌, ◌≢◌, ◌⊎◌, ◌≤◌, ◌<◌, subst, inl, inr, ℕ, ◌+◌, ◌-◌, ◌%◌, zero, suc, Bool, true, false, nat_eq, List, [], ◌∷◌, ◌∙◌, refl, sym, ap, map, length, get_or, slice_set, None, Some, arith}
use Rattle.std.specs.Prelude.{if◌then◌else◌}
use Rattle.std.proofs.Math.ListN.{get_or-map}
use Rattle.std.proofs.lemmas.Bool.Decides.{eqb_tells}
use Rattle.std.proofs.lemmas.List.{length-map, get_or-set_other}
use Rattle.std.proofs.lemmas.Grind.{get_or-set_at, common_steps}
use Rattle.debuggee.specs.Plain.{PlainBreakpoint, PlainOutput}
use Rattle.debuggee.specs.Due.{Sight, arrives, counted, next_arrival}
use Rattle.debuggee.specs.Marks.{AreMarked, AreChained, IsNext, mark_at, mark_count, places_of}
use Rattle.debuggee.proofs.Counting.{Through, through_other}

abbrev nowhere : PlainBreakpoint
nowhere = record { place = 0; condition = None; rule = None; arrivals = 0; message = None }

-- ---- marks are made from the last breakpoint on

-- those of the breakpoints from an index on
pub record ChainedFrom (places first next : List ℕ) (i : ℕ) : Type 0 where
  pub heads : (mark : ℕ) → mark < mark_count → IsNext places mark i (get_or first mark 0)
  pub others : (j : ℕ) → i ≤ j → j < length places → IsNext places (mark_at places j) (j + 1) (get_or next j 0)

module _ (places : List ℕ) where
  pub nothing_more : (mark i : ℕ) → length places ≡ i → IsNext places mark i i
  nothing_more mark i end = grind (arith, common_steps)

  here_next : (mark i : ℕ) → i < length places → mark ≡ mark_at places i → IsNext places mark i i
  here_next mark i inside same = record {
    reaches = omega arith;
    within = omega (arith, inside);
    between = λ j low high. absurd (omega (arith, low, high));
    there = λ lt. sym same;
  }

  one_before : (mark i to : ℕ) → mark ≢ mark_at places i → IsNext places mark (i + 1) to → IsNext places mark i to
  one_before mark i to other next = record {
    reaches = omega (arith, next.reaches);
    within = next.within;
    between = λ j low high. by_index j low high (eqb_tells j i);
    there = next.there;
  }
    where
      by_index : (j : ℕ) → i ≤ j → j < to → ((nat_eq j i ≡ true) × (j ≡ i)) ⊎ ((nat_eq j i ≡ false) × (j ≢ i))
          → mark_at places j ≢ mark
      by_index j low high (inl same) = λ is. other (sym (sym (ap (mark_at places) same.1) ∙ is))
      by_index j low high (inr apart) = next.between j (omega (arith, low, apart.1)) high

  pub one_back : (first next : List ℕ) (i : ℕ) → i < length places → length first ≡ mark_count
      → length next ≡ length places → mark_at places i < mark_count → ChainedFrom places first next (i + 1)
      → ChainedFrom places (slice_set first (mark_at places i) i)
      (slice_set next i (get_or first (mark_at places i) 0)) i
  one_back first next i inside firsts nexts less later =
      record {
        heads = λ mark lt. by_mark mark lt (eqb_tells mark (mark_at places i));
        others = λ j low lt. by_index j low lt (eqb_tells j i);
      }
    where
      by_mark : (mark : ℕ) → mark < mark_count
          → ((nat_eq mark (mark_at places i) ≡ true) × (mark ≡ mark_at places i))
          ⊎ ((nat_eq mark (mark_at places i) ≡ false) × (mark ≢ mark_at places i))
          → IsNext places mark i (get_or (slice_set first (mark_at places i) i) mark 0)
      by_mark mark lt (inl same) = grind (arith, common_steps, get_or-set_at, here_next)
      by_mark mark lt (inr apart) =
          subst (IsNext places mark i) (sym (get_or-set_other first (mark_at places i) mark i 0 apart.1))
          (one_before mark i (get_or first mark 0) apart.1 (later.heads mark lt))

      by_index : (j : ℕ) → i ≤ j → j < length places
          → ((nat_eq j i ≡ true) × (j ≡ i)) ⊎ ((nat_eq j i ≡ false) × (j ≢ i))
          → IsNext places (mark_at places j) (j + 1)
          (get_or (slice_set next i (get_or first (mark_at places i) 0)) j 0)
      by_index j low lt (inl same) =
          rw (get_or-set_at next i j (get_or first (mark_at places i) 0) 0 same.1 (omega (arith, nexts, inside))) (rw
          same.1 (later.heads (mark_at places i) less))
      by_index j low lt (inr apart) =
          rw (get_or-set_other next i j _ 0 apart.1) (later.others j (omega (arith, low, apart.1)) lt)

-- ---- arrivals change no place

module _ {S : Type 0} (see : Sight S) (s : S) where
  same_place : (here : Bool) (b : PlainBreakpoint)
      → (if here then record b { arrivals = next_arrival b } else b).place ≡ b.place
  same_place true b = refl
  same_place false b = refl

  same_places : (bs : List PlainBreakpoint) → places_of (map (counted see s) bs) ≡ places_of bs
  same_places [] = refl
  same_places (b ∷ bs) = cc (same_place (arrives see s b) b, same_places bs)

  pub marked_still : (first next : List ℕ) (bs : List PlainBreakpoint) → AreMarked first next bs
      → AreMarked first next (map (counted see s) bs)
  marked_still first next bs set = subst (AreChained first next) (sym (same_places bs)) set

  -- ---- a program is only where the mark is its place's

  -- where it isn't to stop it arrives at none
  pub through_nowhere : see.place_of s ≡ None → (old : List PlainBreakpoint) (n : ℕ) (stop : Bool)
      (now : List PlainBreakpoint) (before after : List PlainOutput) → n ≤ length old
      → Through see s old 0 stop now before after → Through see s old n stop now before after
  through_nowhere none old zero stop now before after within so = so
  through_nowhere none old (suc n) stop now before after within so =
      let end : n + 1 ≡ suc n = omega arith in
      rw (← end) (through_other see s old n (omega (arith, within)) stop now nowhere before after (through_nowhere none
      old n stop now before after (omega (arith, within)) so) (cc))

  -- it has arrived at those before an index, which has the mark of the place, or is the end
  pub record Reaches (here : ℕ) (old : List PlainBreakpoint) (i : ℕ) (stop : Bool) (now : List PlainBreakpoint)
      (before after : List PlainOutput) : Type 0 where
    pub through : Through see s old i stop now before after
    pub within : i ≤ length old
    pub there : i < length old → mark_at (places_of old) i ≡ here % mark_count

  module _ (here : ℕ) (at : see.place_of s ≡ Some here) (old : List PlainBreakpoint) where
    elsewhere : (i : ℕ) → mark_at (places_of old) i ≢ here % mark_count
        → arrives see s (get_or old i nowhere) ≡ false
    elsewhere i other = grind (arith, common_steps, eqb_tells, get_or-map)

    through_rest : (k i : ℕ) (stop : Bool) (now : List PlainBreakpoint) (before after : List PlainOutput)
        → i + k ≤ length old
        → ((j : ℕ) → i ≤ j → j < i + k → mark_at (places_of old) j ≢ here % mark_count)
        → Through see s old i stop now before after → Through see s old (i + k) stop now before after
    through_rest zero i stop now before after within none so = grind (arith, common_steps)
    through_rest (suc k) i stop now before after within none so =
        let inside : i < length old = omega (arith, within) in
        let end : (i + 1) + k ≡ i + suc k = omega arith in
        rw (← end) (through_rest k _ stop now before after (omega (arith, within)) (λ j low high. none j
        (omega (arith, low)) (omega (arith, high))) (through_other see s old i inside stop now nowhere before after so
        (elsewhere i (none i (omega arith) (omega arith)))))

    pub reach_next : (i to : ℕ) (stop : Bool) (now : List PlainBreakpoint) (before after : List PlainOutput)
        → IsNext (places_of old) (here % mark_count) i to → Through see s old i stop now before after
        → Reaches here old to stop now before after
    reach_next i to stop now before after next so =
        let end : i + (to - i) ≡ to = omega (arith, next.reaches) in
        let long = length-map old (λ (b : PlainBreakpoint). b.place) in
        let within : to ≤ length old = omega (arith, next.within, long) in
        record {
          through = subst (λ n. Through see s old n stop now before after) end
              (through_rest (to - i) i stop now before after (omega (arith, end, within))
              (λ j low high. next.between j low (omega (arith, high, end))) so);
          within = within;
          there = λ lt. next.there (omega (arith, lt, long));
        }
