-- Tokens are their symbols at their places.
use Rattle.std.proofs.lemmas.Bool.{eqb-true, eq-eqb}
use Rattle.pl0_parser.proofs.Common.{[], ap, arith, Bool, false, if◌then◌else◌, length, List, nat_eq, Place, refl, start_place, suc, symbols, Token, true, ℕ, ◌<◌, ◌∙◌, ◌∷◌, ◌≡◌, token_at}
use Rattle.pl0_parser.proofs.Readable.{placed}

-- the place of the token after which so many come
abbrev pub place_of : List Token → ℕ → Place
place_of [] n = start_place
place_of (t ∷ ts) n = if nat_eq (length ts) n then t.place else place_of ts n

symbols_length : (ts : List Token) → length (symbols ts) ≡ length ts
symbols_length [] = refl
symbols_length (t ∷ ts) = ap suc (symbols_length ts)

here : (t : Token) (ts : List Token) → place_of (t ∷ ts) (length ts) ≡ t.place
here t ts = ap (λ (b : Bool). if b then t.place else place_of ts (length ts)) (eq-eqb (length ts) (length ts) refl)

differs : (b : Bool) (m n : ℕ) → nat_eq m n ≡ b → n < m → nat_eq m n ≡ false
differs true m n is less = let same : m ≡ n = eqb-true m n is in absurd (omega (arith, less, same))
differs false m n is less = is

later : (t : Token) (ts : List Token) (n : ℕ) → n < length ts → place_of (t ∷ ts) n ≡ place_of ts n
later t ts n less = cc (differs (nat_eq (length ts) n) (length ts) n refl less)

places : (at : ℕ → Place) (ts : List Token) → ((n : ℕ) → n < length ts → at n ≡ place_of ts n)
    → placed at (symbols ts) ≡ ts
places at [] agrees = refl
places at (t ∷ ts) agrees =
    ap (λ us. token_at t.symbol (at (length (symbols ts))) ∷ us)
    (places at ts (λ n less. agrees n (omega (arith, less)) ∙ later t ts n less))
    ∙ ap (λ p. token_at t.symbol p ∷ ts)
    (ap at (symbols_length ts) ∙ agrees (length ts) (omega arith) ∙ here t ts)

pub placed_again : (ts : List Token) → placed (place_of ts) (symbols ts) ≡ ts
placed_again ts = places (place_of ts) ts (λ n less. refl)
