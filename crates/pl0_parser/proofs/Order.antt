-- The tokens of a text stand in the order of their places.
use Rattle.std.proofs.lemmas.Option.{same_Some}
use Rattle.pl0_tree.proofs.SharedLemmas.{before_trans}
use Rattle.pl0_parser.proofs.Common.{[], arith, behind, Bool, cond, eqb, false, front_piece, inl, inr, is_space, length, List, lit<, map, Place, pred, refl, slice_get, Some, start_place, subst, suc, Token, tokens_from, tokens_of, true, zero, ℕ, ◌+◌, ◌∷◌, ◌≡◌, ◌≤◌}
use Rattle.pl0_tree.specs.Scope.{IsBefore}
use Rattle.pl0_tree.specs.Ascending.{Ascend}

-- after a place, each token stands after the one before
abbrev pub AscendBehind : Place → List Token → Type 0
AscendBehind p [] = Unit {0}
AscendBehind p (t ∷ ts) = IsBefore p t.place × AscendBehind t.place ts

behind_at : (p : Place) (b : ℕ) (v : Bool) → IsBefore p
    (cond v (record { line = p.line + 1; column = 1 }) (record { line = p.line; column = p.column + 1 }))
behind_at p b true = inl (omega arith)
behind_at p b false = inr (refl, omega arith)

-- a byte moves on
before_behind : (p : Place) (b : ℕ) → IsBefore p (behind p b)
before_behind p b = behind_at p b (eqb b 10)

abbrev next_tokens : Bool → Place → ℕ → List ℕ → List Token
next_tokens space p b bytes = cond space (tokens_from (behind p b) zero bytes)
    (record { symbol = (front_piece b (b ∷ bytes)).0; place = p }
    ∷ tokens_from (behind p b) (pred (front_piece b (b ∷ bytes)).1) bytes)

ascend_at : (space : Bool) (p q : Place) (b : ℕ) (bytes : List ℕ) → IsBefore q p →
    ((taken : ℕ) (r : Place) → IsBefore r (behind p b) → AscendBehind r (tokens_from (behind p b) taken bytes)) →
    AscendBehind q (next_tokens space p b bytes)
ascend_at true p q b bytes before rest = rest zero q (before_trans q p (behind p b) before (before_behind p b))
ascend_at false p q b bytes before rest = (before, rest (pred (front_piece b (b ∷ bytes)).1) p (before_behind p b))

tokens_ascend : (bytes : List ℕ) (p : Place) (taken : ℕ) (q : Place) → IsBefore q p
    → AscendBehind q (tokens_from p taken bytes)
tokens_ascend [] p taken q before = (before, tt)
tokens_ascend (b ∷ bytes) p (suc taken) q before =
    tokens_ascend bytes (behind p b) taken q (before_trans q p (behind p b) before (before_behind p b))
tokens_ascend (b ∷ bytes) p zero q before = ascend_at (is_space b) p q b bytes before (tokens_ascend bytes (behind p b))

-- the places of tokens
abbrev places : List Token → List Place
places ts = map (λ t. t.place) ts

each_behind : (ts : List Token) (p q : Place) (j : ℕ) → AscendBehind p ts → slice_get (places ts) j ≡ Some q
    → IsBefore p q
each_behind [] p q j ascend is = cc
each_behind (t ∷ ts) p q zero ascend is = subst (λ r. IsBefore p r) (same_Some t.place q is) ascend.0
each_behind (t ∷ ts) p q (suc j) ascend is = before_trans p t.place q ascend.0 (each_behind ts t.place q j ascend.1 is)

in_order : (ts : List Token) (p : Place) → AscendBehind p ts → Ascend (places ts)
in_order [] p ascend i j q r less first second = cc
in_order (t ∷ ts) p ascend i zero q r less first second = absurd (omega arith)
in_order (t ∷ ts) p ascend zero (suc j) q r less first second =
    subst (λ x. IsBefore x r) (same_Some t.place q first) (each_behind ts t.place r j ascend.1 second)
in_order (t ∷ ts) p ascend (suc i) (suc j) q r less first second =
    in_order ts t.place ascend.1 i j q r (omega arith) first second

pub tokens_in_order : (text : List ℕ) → Ascend (places (tokens_of text))
tokens_in_order text =
    in_order (tokens_of text) (record { line = 0; column = 0 })
    (tokens_ascend text start_place 0 (record { line = 0; column = 0 }) (inl (lit< tt)))

few_at : (space : Bool) (p : Place) (b : ℕ)
    (bytes : List ℕ) → ((taken : ℕ) → length (tokens_from (behind p b) taken bytes) ≤ length bytes + 1) →
    length (next_tokens space p b bytes) ≤ length (b ∷ bytes) + 1
few_at true p b bytes rest = let less = rest zero in omega (arith, less)
few_at false p b bytes rest = let less = rest (pred (front_piece b (b ∷ bytes)).1) in omega (arith, less)

tokens_few_from : (bytes : List ℕ) (p : Place) (taken : ℕ) → length (tokens_from p taken bytes) ≤ length bytes + 1
tokens_few_from [] p taken = omega arith
tokens_few_from (b ∷ bytes) p (suc taken) = let less = tokens_few_from bytes (behind p b) taken in omega (arith, less)
tokens_few_from (b ∷ bytes) p zero = few_at (is_space b) p b bytes (tokens_few_from bytes (behind p b))

pub tokens_few : (text : List ℕ) → length (tokens_of text) ≤ length text + 1
tokens_few text = tokens_few_from text start_place 0
