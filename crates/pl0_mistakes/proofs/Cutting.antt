-- What a token leaves is cut as it stands.
use Rattle.std.proofs.Common.{ℕ, zero, suc, pred, ◌≡◌, ◌-◌, ◌<◌, ◌≤◌, ◌∙◌, false, List, [], ◌∷◌, length, drop, get_or, cond, ap, subst, sym, refl, arith}
use Rattle.std.proofs.lemmas.List.{length-drop}
use Rattle.pl0_tree.specs.Tokens.{is_space}
use Rattle.pl0_mistakes.specs.Found.{cut, cut_from, front_token}

cut_dropped : (k : ℕ) (bytes : List ℕ) → cut_from k bytes ≡ cut (drop k bytes)
cut_dropped zero bytes = refl
cut_dropped (suc k) [] = refl
cut_dropped (suc k) (b ∷ bytes) = cut_dropped k bytes

pred_is : (n : ℕ) → pred n ≡ n - 1
pred_is zero = refl
pred_is (suc n) = omega arith

pub cut_visible : (bytes : List ℕ) → 0 < length bytes → is_space (get_or bytes 0 0) ≡ false
    → cut bytes ≡ front_token bytes ∷ cut (drop (length (front_token bytes) - 1) (drop 1 bytes))
cut_visible [] some visible = absurd (omega arith)
cut_visible (b ∷ bytes) some visible =
    let token = front_token (b ∷ bytes) in
    ap (λ v. cond v (cut bytes) (token ∷ cut_from (pred (length token)) bytes)) visible
    ∙ (ap (λ k. token ∷ cut_from k bytes) (pred_is (length token))
    ∙ ap (λ ts. token ∷ ts) (cut_dropped (length token - 1) bytes))

shorter_after : (rest bytes : List ℕ) (k : ℕ) → 1 ≤ length rest → length rest ≤ length bytes
    → length (drop k (drop 1 rest)) < length bytes
shorter_after rest bytes k some shorter =
    let all : length (drop k (drop 1 rest)) ≡ length (drop 1 rest) - k = length-drop k (drop 1 rest) in
    let tail : length (drop 1 rest) ≡ length rest - 1 = length-drop 1 rest in
    omega (arith, all, tail)

-- what stands before is white space, and then a token is split off
pub next_is : (bytes rest token after : List ℕ) → cut rest ≡ cut bytes → length rest ≤ length bytes → 1 ≤ length rest
    → is_space (get_or rest 0 0) ≡ false → token ≡ front_token rest
    → after ≡ drop (length (front_token rest) - 1) (drop 1 rest)
    → (cut bytes ≡ token ∷ cut after) × (length after < length bytes)
next_is bytes rest token after same shorter some visible token_is after_is = (
  sym same ∙ (cut_visible rest (omega arith) visible
      ∙ (ap (λ t. t ∷ cut (drop (length (front_token rest) - 1) (drop 1 rest))) (sym token_is)
      ∙ ap (λ xs. token ∷ cut xs) (sym after_is))),
  subst (λ xs. length xs < length bytes) (sym after_is) (shorter_after rest bytes _ some shorter),
)
