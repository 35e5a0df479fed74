-- Where a text is cut, and what fits; for `cutting` and `values`.
use Rattle.std.proofs.Common.{◌≡◌, ◌∙◌, ◌++◌, ◌-◌, ◌+◌, ◌<◌, ◌≤◌, ℕ, zero, suc, true, false, List, [], ◌∷◌, refl, sym, ap, subst, ◌⊎◌, ⊎_elim, inl, inr, arith, codes, cond, length, take}
use Rattle.std.specs.Str.{IsCharBoundary, IsUtf8}
use Rattle.std.specs.Fmt.{is_char_start}
use Rattle.std.specs.Fmt.Cut.{cut_to, floor_char_boundary}
use Rattle.std.specs.Char.{len_utf8}
use Rattle.std.proofs.lemmas.Bool.{le-leb, le-ltb, lt-leb, lt-ltb}
use Rattle.std.proofs.lemmas.Str.{IsCharBoundary-past_char, len_utf8_bounds}
use Rattle.dap_bodies.specs.Sizes.{fit_of, shown_text, text_limit}

-- the last place up to i where a text may be cut
abbrev pub IsLastBoundary : List ℕ → ℕ → ℕ → Type 0
IsLastBoundary bs i kept = (kept ≤ i) × IsCharBoundary bs kept × ((j : ℕ) → kept < j → j ≤ i → ¬ IsCharBoundary bs j)

order : (a b : ℕ) → (a < b) ⊎ (b ≤ a)
order a zero = inr (omega arith)
order zero (suc b) = inl (omega arith)
order (suc a) (suc b) = ⊎_elim (λ less. inl (omega (arith, less))) (λ more. inr (omega (arith, more))) (order a b)

starts : (b : ℕ) → (128 ≤ b → 192 ≤ b) → is_char_start b ≡ true
starts b is =
    ⊎_elim (λ low. rw (lt-ltb b 128 low) refl) (λ high. rw (le-ltb b 128 high, le-leb 192 b (is high)) refl)
    (order b 128)

continues : (b : ℕ) → ¬ (128 ≤ b → 192 ≤ b) → is_char_start b ≡ false
continues b not = ⊎_elim (λ low. absurd (not (λ high. omega (arith, low, high))))
    (λ high. ⊎_elim (λ mid. rw (le-ltb b 128 high, lt-leb 192 b mid) refl) (λ top. absurd (not (λ _. top)))
    (order b 192))
    (order b 128)

-- the method's clauses fix its result
floor_is : (bs : List ℕ) (i kept : ℕ) → i < length bs → IsLastBoundary bs i kept → floor_char_boundary bs i ≡ kept
unfolding floor_char_boundary
floor_is bs zero kept within last = omega (arith, last.0)
floor_is bs (suc i) kept within last = ⊎_elim
    (λ below. ap (λ t. cond t (suc i) (floor_char_boundary bs i))
    (continues _ (λ is. last.2 (suc i) below (omega arith) (omega (arith, within), λ _. is)))
    ∙ floor_is bs i kept (omega (arith, within)) (omega (arith, below), last.1, λ j p q. last.2 j p (omega (arith, q))))
    (λ above. let same : kept ≡ suc i = omega (arith, above, last.0) in
    ap (λ t. cond t (suc i) (floor_char_boundary bs i)) (starts _ ((subst (IsCharBoundary bs) same last.1).1 within))
    ∙ sym same) (order kept (suc i))

-- there is one behind the first character
pub some_fits : (bs : List ℕ) (kept : ℕ) → IsUtf8 bs → text_limit < length bs → IsLastBoundary bs text_limit kept
    → 0 < kept
some_fits bs kept ([], is) long last = let none = ap length is.1 in absurd (omega (arith, none, long))
some_fits bs kept (c ∷ cs, is) long last =
    let some = len_utf8_bounds c in
    ⊎_elim (λ none. absurd (last.2 (0 + len_utf8 c) (omega (arith, some.0, none)) (omega (arith, some.1))
    (IsCharBoundary-past_char bs _ 0 c (omega arith) (c ∷ cs, is) (sym is.1)))) (λ is. is) (zero_or kept)
  where
    zero_or : (n : ℕ) → (n ≡ 0) ⊎ (0 < n)
    zero_or zero = inl refl
    zero_or (suc n) = inr (omega arith)

-- what is cut there has the characters that fit
pub fit_is : (bs : List ℕ) (kept : ℕ) → text_limit < length bs → IsLastBoundary bs text_limit kept → kept ≡ fit_of bs
fit_is bs kept long last = sym (floor_is bs text_limit kept long last)

-- the two cases of a text that is shown
pub shown_whole : (text : List ℕ) → length text ≤ text_limit → text ≡ shown_text text
unfolding cut_to
shown_whole text short = rw (le-leb (length text) text_limit short) refl

pub shown_cut : (text : List ℕ) (kept : ℕ) → text_limit < length text → IsLastBoundary text (text_limit - 3) kept
    → take kept text ++ codes "..." ≡ shown_text text
unfolding cut_to
shown_cut text kept long last =
    rw (lt-leb (length text) text_limit long, floor_is text (text_limit - 3) kept (omega (arith, long)) last) refl
