-- Where lines end, by places.
use Rattle.dap_frame.proofs.Common.{arith, cases_lt, drop, EndsAt, eqb-true, get_or, get_or-drop, HasNoEnd, inl, inr, length, length-drop, List, subst, sym, ℕ, ◌+◌, ◌-◌, ◌<◌, ◌∙◌, ◌≡◌, ◌≢◌, ◌≤◌}
use Rattle.memchr.specs.Find.{Nowhere, Passes, is_byte}
use Rattle.std.proofs.lemmas.Grind.{common_steps}

at_offset : (bytes : List ℕ) (i k : ℕ) → i ≤ k → get_or (drop i bytes) (k - i) 0 ≡ get_or bytes k 0
at_offset bytes i k h = grind (arith, common_steps, get_or-drop, get_or)

-- no LF stands in the next m places
no_feed : (bytes : List ℕ) (i m k : ℕ) → Nowhere (Passes (is_byte 10) (drop i bytes)) 0 m → i ≤ k → k < i + m
    → get_or bytes k 0 ≢ 10
no_feed bytes i m k none low high e = grind (arith, common_steps, at_offset)

-- where none does, no line ends there either
pub no_end_more : (bytes : List ℕ) (j i m : ℕ) → HasNoEnd bytes j i → Nowhere (Passes (is_byte 10) (drop i bytes)) 0 m
    → HasNoEnd bytes j (i + m)
no_end_more bytes j i m before none k low high ends = elim (cases_lt (k + 1) i) [
  | inl behind ↦ before k low behind ends
  | inr more ↦ no_feed bytes i m (k + 1) none more high ends.1
]

pub no_end_to_end : (bytes : List ℕ) (j i : ℕ) → i ≤ length bytes → HasNoEnd bytes j i
    → Nowhere (Passes (is_byte 10) (drop i bytes)) 0 (length (drop i bytes)) → HasNoEnd bytes j (length bytes)
no_end_to_end bytes j i there before none =
    let e : i + length (drop i bytes) ≡ length bytes = omega (arith, length-drop i bytes) in
    subst (HasNoEnd bytes j) e (no_end_more bytes j i (length (drop i bytes)) before none)

pub feed_at : (bytes : List ℕ) (i found : ℕ) → Passes (is_byte 10) (drop i bytes) found
    → get_or bytes (i + found) 0 ≡ 10
feed_at bytes i found h = sym (get_or-drop i bytes found 0) ∙ eqb-true (get_or (drop i bytes) found 0) 10 h

-- one place more, where an LF has no CR before it
pub no_end_at : (bytes : List ℕ) (j i : ℕ) → HasNoEnd bytes j i → (j < i → get_or bytes (i - 1) 0 ≢ 13)
    → HasNoEnd bytes j (i + 1)
no_end_at bytes j i before alone k low high ends = grind (arith, common_steps, cases_lt, get_or)

-- an end before which none stands
pub first_end : (bytes : List ℕ) (j i : ℕ) → j < i → i < length bytes → HasNoEnd bytes j i → get_or bytes (i - 1) 0 ≡ 13
    → get_or bytes i 0 ≡ 10
    → (j ≤ i - 1) × (i - 1 + 1 < length bytes) × EndsAt bytes (i - 1) × HasNoEnd bytes j (i - 1 + 1)
first_end bytes j i low high before cr lf = grind (arith, common_steps, get_or)
