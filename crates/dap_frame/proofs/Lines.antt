-- Bytes cut into lines, and lines into fields: there is one way only.
use Rattle.dap_frame.proofs.Common.{[], and_parts, ap, arith, Bool, false, Field, field_text, HasNoLineEnd, is_name_byte, IsField, length, length-append, line_end, List, list_all, refl, subst, sym, true, ℕ, ◌&&◌, ◌++◌, ◌∙◌, ◌∷◌, ◌≡◌, ◌≢◌}
use Rattle.std.proofs.lemmas.Grind.{common_steps}

-- no byte is x
abbrev pub HasNo : ℕ → List ℕ → Type 0
HasNo x [] = Unit {0}
HasNo x (y ∷ ys) = (y ≢ x) × HasNo x ys

has_no-append : (x : ℕ) (ys zs : List ℕ) → HasNo x ys → HasNo x zs → HasNo x (ys ++ zs)
has_no-append x [] zs h k = k
has_no-append x (y ∷ ys) zs h k = (h.0, has_no-append x ys zs h.1 k)

-- bytes that pass a test have none that fails it
pub passing : (p : ℕ → Bool) (x : ℕ) → p x ≡ false → (ys : List ℕ) → list_all p ys ≡ true → HasNo x ys
passing p x fails [] h = tt
passing p x fails (y ∷ ys) h = (
  λ e. absurd (let bad : (p x && list_all p ys) ≡ true = subst (λ z. (p z && list_all p ys) ≡ true) e h in
      let no : (false && list_all p ys) ≡ true = subst (λ b. (b && list_all p ys) ≡ true) fails bad in cc),
  passing p x fails ys (and_parts (p y) (list_all p ys) h).1,
)

pub name_no_colon : (f : Field) → IsField f → HasNo 58 f.name
name_no_colon f is = passing is_name_byte 58 refl f.name is.name

field_no_return : (f : Field) → IsField f → HasNo 13 (field_text f)
field_no_return f is = grind (arith, common_steps, has_no-append, passing)

-- ---- ends of lines

no_end_after : (x : ℕ) (xs : List ℕ) → HasNoLineEnd (x ∷ xs) → HasNoLineEnd xs
no_end_after x xs none before after e = none (x ∷ before) after (ap (λ l. x ∷ l) e)

pub no_return_no_end : (xs : List ℕ) → HasNo 13 xs → HasNoLineEnd (xs ++ 13 ∷ [])
no_return_no_end (x ∷ xs) h [] after e = absurd (h.0 cc)
no_return_no_end (x ∷ xs) h (b ∷ before) after e = no_return_no_end xs h.1 before after cc
no_return_no_end [] h [] after e = absurd cc
no_return_no_end [] h (b ∷ []) after e = absurd cc
no_return_no_end [] h (b ∷ c ∷ before) after e = absurd cc

-- the line of a field ends nowhere before its end
pub field_one_line : (f : Field) → IsField f → HasNoLineEnd (field_text f ++ 13 ∷ [])
field_one_line f is = no_return_no_end (field_text f) (field_no_return f is)

pub empty_one_line : HasNoLineEnd ([] ++ 13 ∷ [])
empty_one_line = no_return_no_end [] tt

-- two lines that begin the same bytes, each up to its first CR LF, are one
pub same_line : (a b x y : List ℕ) → HasNoLineEnd (a ++ 13 ∷ []) → HasNoLineEnd (b ++ 13 ∷ []) → a
    ++ (line_end ++ x) ≡ b ++ (line_end ++ y) → (a ≡ b) × (x ≡ y)
same_line [] [] x y h k e = (refl, cc)
same_line [] (b ∷ []) x y h k e = absurd cc
same_line [] (b ∷ c ∷ bs) x y h k e =
    let first : b ≡ 13 = cc in let second : c ≡ 10 = cc in
    absurd (k [] (bs ++ 13 ∷ []) cc)
same_line (a ∷ []) [] x y h k e = absurd cc
same_line (a ∷ c ∷ as_) [] x y h k e =
    let first : a ≡ 13 = cc in let second : c ≡ 10 = cc in
    absurd (h [] (as_ ++ 13 ∷ []) cc)
same_line (a ∷ as_) (b ∷ bs) x y h k e =
    let rest = same_line as_ bs x y (no_end_after a (as_ ++ 13 ∷ []) h) (no_end_after b (bs ++ 13 ∷ []) k) cc in
    let first : a ≡ b = cc in
    (ap (λ l. a ∷ l) rest.0 ∙ ap (λ c. c ∷ bs) first, rest.1)

-- ---- fields

pub same_name : (a b v w : List ℕ) → HasNo 58 a → HasNo 58 b → a ++ (58 ∷ v) ≡ b ++ (58 ∷ w) → (a ≡ b) × (v ≡ w)
same_name [] [] v w h k e = (refl, cc)
same_name [] (b ∷ bs) v w h k e = absurd (k.0 (sym cc))
same_name (a ∷ as_) [] v w h k e = absurd (h.0 cc)
same_name (a ∷ as_) (b ∷ bs) v w h k e = grind (arith, common_steps, same_name as_ bs v w h.1 k.1 cc)

-- a line is one field
pub same_field : (f g : Field) → IsField f → IsField g → field_text f ≡ field_text g → f ≡ g
same_field f g is so e = grind (arith, common_steps, same_name, name_no_colon)

pub text_not_empty : (f : Field) → IsField f → [] ≡ field_text f → ⊥
text_not_empty f is e =
    let l = ap length e in let n = is.named in let b = length-append f.name (58 ∷ 32 ∷ f.value) in omega
    (arith, l, n, b)
