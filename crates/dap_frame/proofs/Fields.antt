-- A field's line is cut at its first colon.
use Rattle.dap_frame.proofs.Common.{[], ap, arith, cases_lt, drop, drop_at, eqb-true, false, Field, field_text, get_or, get_or_append_left, get_or_at, inl, inr, IsField, length, length-append, List, refl, subst, suc, sym, take, take_at, zero, ℕ, ◌<◌, ◌∙◌, ◌∷◌, ◌≡◌, ◌≢◌}
use Rattle.std.specs.Str.{bytes_eq}
use Rattle.memchr.specs.Find.{Nowhere, NoneBefore, Passes, is_byte}
use Rattle.dap_frame.proofs.Lines.{HasNo, name_no_colon}
use Rattle.std.proofs.lemmas.Grind.{common_steps}

has_no_at : (x : ℕ) (ys : List ℕ) (i : ℕ) → HasNo x ys → i < length ys → get_or ys i 0 ≢ x
has_no_at x [] i h l e = absurd (omega (arith, l))
has_no_at x (y ∷ ys) zero h l e = h.0 e
has_no_at x (y ∷ ys) (suc i) h l e = has_no_at x ys i h.1 (omega (arith, l)) e

colon_passes : (f : Field) → Passes (is_byte 58) (field_text f) (length f.name)
colon_passes f = ap (is_byte 58) (get_or_at f.name 58 (32 ∷ f.value) 0 (length f.name) refl)

name_shorter : (f : Field) → length f.name < length (field_text f)
name_shorter f = omega (arith, length-append f.name (58 ∷ 32 ∷ f.value))

-- a line without a colon is no field
pub no_colon : (line : List ℕ) (f : Field) → line ≡ field_text f → Nowhere (Passes (is_byte 58) line) 0 (length line)
    → ⊥
no_colon line f e none =
    let there = subst (λ l. Nowhere (Passes (is_byte 58) l) 0 (length l)) e none in
    there (length f.name) (omega arith) (name_shorter f) (colon_passes f)

colon_place : (f : Field) (i : ℕ) → IsField f → NoneBefore (Passes (is_byte 58) (field_text f)) 0
    (length (field_text f)) i → Passes (is_byte 58) (field_text f) i → i ≡ length f.name
colon_place f i is first at =
    elim (cases_lt i (length f.name)) [
      | inl low ↦ absurd (has_no_at 58 f.name i (name_no_colon f is) low
          (sym (get_or_append_left f.name (58 ∷ 32 ∷ f.value) 0 i low) ∙ eqb-true (get_or (field_text f) i 0) 58 at))
      | inr high ↦ elim (cases_lt (length f.name) i) [
        | inl more ↦ absurd (first.before (length f.name) (omega arith) more (colon_passes f))
        | inr same ↦ omega (arith, high, same)
      ]
    ]

-- the first colon ends the name
pub at_colon : (line : List ℕ) (f : Field) (i : ℕ) → IsField f → line ≡ field_text f
    → NoneBefore (Passes (is_byte 58) line) 0 (length line) i → Passes (is_byte 58) line i
    → (take i line ≡ f.name) × (drop i line ≡ 58 ∷ 32 ∷ f.value)
at_colon line f i is e first at = grind (arith, common_steps, length, colon_place, take, take_at, drop, drop_at)

-- after the colon stand one space and the value
pub no_prefix : (rest prefix : List ℕ) (f : Field) → rest ≡ 58 ∷ 32 ∷ f.value → prefix ≡ 58 ∷ 32 ∷ []
    → bytes_eq (take (length prefix) rest) prefix ≡ false → ⊥
no_prefix rest prefix f e p h = grind (arith, common_steps, bytes_eq, take, length, false)
