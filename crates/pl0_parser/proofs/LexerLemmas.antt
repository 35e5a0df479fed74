-- A token's bytes are skipped, and the lexer goes on after them.
use Rattle.std.proofs.lemmas.List.Sums.{take_while-cons}
use Rattle.pl0_parser.proofs.Common.{[], add-zero, ap, arith, common_steps, token_at, behind, Bool, cond, decimal_value, drop, eqb, false, Faulty, find, fold, front_piece, get_or, is_space, is_word_byte, length, List, lit<, Mark, nat_eq, nat_le, nat_lt, not, number_symbol, NumberTooLarge, Option, Place, pred, refl, sign_piece, signs, Some, subst, suc, sym, Symbol, symbol_of, take, take_while, tokens_from, true, word_symbol, zero, ℕ, ◌&&◌, ◌*◌, ◌+◌, ◌-◌, ◌<◌, ◌==◌, ◌^◌, ◌∙◌, ◌∷◌, ◌≡◌, ◌≤◌}
use Rattle.std.specs.Prelude.{◌≢◌}
use Rattle.std.specs.List.{starts_with}
use Rattle.std.specs.Str.{IsAscii}
use Rattle.std.specs.Cmp.Lexicographic.{pointwise}
use Rattle.std.specs.Char.{is_ascii_digit, is_ascii_alphabetic}
use Rattle.std.proofs.lemmas.Bool.{cond-false, cond-true, eqb-true, and_parts}
use Rattle.std.proofs.lemmas.Bool.Decides.{nat_tests}
use Rattle.pl0_tree.specs.declared.token.Symbol.{Symbol as Seen}
use Rattle.pl0_parser.specs.Cutting.{IsFront, IsSign, along}

-- the first k bytes are there, and none ends a line
abbrev pub StaysOnLine : ℕ → List ℕ → Type 0
StaysOnLine zero bytes = Unit {0}
StaysOnLine (suc k) [] = ⊥
StaysOnLine (suc k) (b ∷ bytes) = (b ≢ 10) × StaysOnLine k bytes

-- the piece at the front of bytes by the table of symbols, on one line
abbrev pub IsPiece : List ℕ → Seen → ℕ → Type 0
IsPiece [] s size = ⊥
IsPiece (b ∷ bytes) s size =
    (symbol_of s ≡ (front_piece b (b ∷ bytes)).0) × (size ≡ (front_piece b (b ∷ bytes)).1) × (0 < size)
    × StaysOnLine size (b ∷ bytes)

pub stays_le : (k : ℕ) (bytes : List ℕ) → StaysOnLine k bytes → k ≤ length bytes
stays_le zero bytes stays = omega arith
stays_le (suc k) [] stays = absurd stays
stays_le (suc k) (b ∷ bytes) stays = let more = stays_le k bytes stays.1 in omega arith

not_ten : (b : ℕ) (p : Place) → (b ≡ 10 → ⊥) → behind p b ≡ along p 1
not_ten b p other = let no : eqb b 10 ≡ false = grind (arith, nat_tests) in cond-false (eqb b 10) _ _ no

pub skip : (k : ℕ) (p : Place) (bytes : List ℕ) → StaysOnLine k bytes
    → tokens_from p k bytes ≡ tokens_from (along p k) 0 (drop k bytes)
skip zero p bytes stays = ap (λ c. tokens_from (record { line = p.line; column = c }) 0 bytes) (sym (add-zero p.column))
skip (suc k) p [] stays = absurd stays
skip (suc k) p (b ∷ bytes) stays = grind (arith, common_steps, skip k (along p 1) bytes stays.1, not_ten)

pub past_token : (p : Place) (b : ℕ) (bytes : List ℕ) (s : Seen) (size : ℕ) → is_space b ≡ false
    → IsPiece (b ∷ bytes) s size → tokens_from p 0 (b ∷ bytes) ≡ token_at (symbol_of s) p
    ∷ tokens_from (along p size) 0 (drop size (b ∷ bytes))
past_token p b bytes s zero visible (same, size_is, positive, stays) = absurd (omega arith)
past_token p b bytes s (suc k) visible (same, size_is, positive, stays) =
    let rest : pred (front_piece b (b ∷ bytes)).1 ≡ k = ap pred (sym size_is) in
    cc (cond-false (is_space b) _ _ visible, skip (suc k) p (b ∷ bytes) stays)

-- a piece at the front is the first token
pub front_is : (bytes : List ℕ) (s : Seen) (size : ℕ) → is_space (get_or bytes 0 0) ≡ false → IsPiece bytes s size
    → IsFront bytes s size
front_is [] s size visible piece = absurd piece
front_is (b ∷ bytes) s size visible piece = record {
  some = piece.2;
  within = stays_le size (b ∷ bytes) piece.3;
  first = λ p. past_token p b bytes s size visible piece;
}

-- A run of bytes that pass a test.

take_run_at : (v : Bool) (x : ℕ) (xs run : List ℕ) → take (length run) xs ≡ run
    → take (length (cond v (x ∷ run) [])) (x ∷ xs) ≡ cond v (x ∷ run) []
take_run_at true x xs run is = ap (λ ys. x ∷ ys) is
take_run_at false x xs run is = refl

pub take_run : (test : ℕ → Bool) (xs : List ℕ) → take (length (take_while test xs)) xs ≡ take_while test xs
take_run test [] = refl
take_run test (x ∷ xs) = grind (arith, common_steps, take_run test xs, take_while-cons, take_run_at)

stays_at : (v : Bool) (x : ℕ) (xs run : List ℕ) → (v ≡ true → x ≡ 10 → ⊥) → StaysOnLine (length run) xs
    → StaysOnLine (length (cond v (x ∷ run) [])) (x ∷ xs)
stays_at true x xs run visible stays = (visible refl, stays)
stays_at false x xs run visible stays = tt

run_stays : (test : ℕ → Bool) → ((b : ℕ) → test b ≡ true → b ≡ 10 → ⊥) → (xs : List ℕ)
    → StaysOnLine (length (take_while test xs)) xs
run_stays test visible [] = tt
run_stays test visible (x ∷ xs) = grind (arith, common_steps, run_stays test visible xs, take_while-cons, stays_at)

run_some : (test : ℕ → Bool) (x : ℕ) (xs : List ℕ) → test x ≡ true → 0 < length (take_while test (x ∷ xs))
run_some test x xs passes = grind (arith, common_steps, take_while-cons)

word_visible : (b : ℕ) → is_word_byte b ≡ true → b ≡ 10 → ⊥
word_visible b passes same = let other = ap is_word_byte same in cc

digit_visible : (b : ℕ) → is_ascii_digit b ≡ true → b ≡ 10 → ⊥
digit_visible b passes same = let other = ap is_ascii_digit same in cc

low : (b : ℕ) → b < 128 → nat_le 128 b ≡ false
low b small = grind (arith, nat_tests)

-- a run is a piece
run_piece : (b : ℕ) (bytes : List ℕ) (s : Seen) (size : ℕ) (test : ℕ → Bool) (symbol : List ℕ → Symbol) →
    ((c : ℕ) → test c ≡ true → c ≡ 10 → ⊥) → test b ≡ true →
    front_piece b (b ∷ bytes) ≡ (symbol (take_while test (b ∷ bytes)), length (take_while test (b ∷ bytes))) →
    size ≡ length (take_while test (b ∷ bytes)) → symbol_of s ≡ symbol (take size (b ∷ bytes))
    → IsPiece (b ∷ bytes) s size
run_piece b bytes s size test symbol visible passes piece size_is same = (
  same ∙ ap symbol (ap (λ n. take n (b ∷ bytes)) size_is ∙ take_run test (b ∷ bytes))
      ∙ sym (ap (λ (x : Symbol × ℕ). x.0) piece),
  size_is ∙ sym (ap (λ (x : Symbol × ℕ). x.1) piece),
  subst (λ n. 0 < n) (sym size_is) (run_some test b bytes passes),
  subst (λ n. StaysOnLine n (b ∷ bytes)) (sym size_is) (run_stays test visible (b ∷ bytes)),
)

pub word_front : (bytes : List ℕ) (s : Seen) (size : ℕ) → 0 < length bytes → is_space (get_or bytes 0 0) ≡ false
    → get_or bytes 0 0 < 128 → is_ascii_alphabetic (get_or bytes 0 0) ≡ true
    → size ≡ length (take_while is_word_byte bytes) → symbol_of s ≡ word_symbol (take size bytes) → IsFront bytes s size
word_front [] s size some visible small letter size_is same = absurd (omega arith)
word_front (b ∷ bytes) s size some visible small letter size_is same =
    front_is (b ∷ bytes) s size visible (run_piece b bytes s size is_word_byte word_symbol word_visible (cc) (cond-false
    (nat_le 128 b) _ _ (low b small) ∙ cond-true (is_ascii_alphabetic b) _ _ letter) size_is same)

pub number_front : (bytes : List ℕ) (s : Seen) (size : ℕ) → 0 < length bytes → is_space (get_or bytes 0 0) ≡ false
    → get_or bytes 0 0 < 128 → is_ascii_alphabetic (get_or bytes 0 0) ≡ false → is_ascii_digit (get_or bytes 0 0) ≡ true
    → size ≡ length (take_while is_ascii_digit bytes) → symbol_of s ≡ number_symbol (decimal_value (take size bytes))
    → IsFront bytes s size
number_front [] s size some visible small letter digit size_is same = absurd (omega arith)
number_front (b ∷ bytes) s size some visible small letter digit size_is same =
    front_is _ s size visible (run_piece b bytes s size is_ascii_digit (λ ds. number_symbol (decimal_value ds))
    digit_visible digit (cond-false _ _ _ (low b small) ∙ cond-false _ _ _ letter ∙ cond-true _ _ _ digit) size_is same)

-- each byte of a run passes the test
run_all_at : (test : ℕ → Bool) (v : Bool) (x : ℕ) (run : List ℕ) → (v ≡ true → test x ≡ true)
    → ((i : ℕ) → i < length run → test (get_or run i 0) ≡ true) → (i : ℕ) → i < length (cond v (x ∷ run) [])
    → test (get_or (cond v (x ∷ run) []) i 0) ≡ true
run_all_at test true x run first rest zero inside = first refl
run_all_at test true x run first rest (suc i) inside = rest i (omega arith)
run_all_at test false x run first rest i inside = absurd (omega arith)

nothing_inside : (test : ℕ → Bool) (i : ℕ) → i < 0 → test (get_or [] i 0) ≡ true
nothing_inside test i inside = absurd (omega arith)

run_all : (test : ℕ → Bool) (xs : List ℕ) (i : ℕ) → i < length (take_while test xs)
    → test (get_or (take_while test xs) i 0) ≡ true
run_all test [] = nothing_inside test
run_all test (x ∷ xs) = grind (arith, common_steps, run_all test xs, take_while-cons, run_all_at)

digit_bounds : (b : ℕ) → is_ascii_digit b ≡ true → (48 ≤ b) × (b < 58)
digit_bounds b is = grind (arith, common_steps)

pub digits_bounded : (xs : List ℕ) (size : ℕ) → size ≡ length (take_while is_ascii_digit xs) → (i : ℕ)
    → i < length (take size xs) → (48 ≤ get_or (take size xs) i 0) × (get_or (take size xs) i 0 < 58)
digits_bounded xs size is = grind (arith, common_steps, take_run, digit_bounds, run_all)

word_small : (b : ℕ) → is_word_byte b ≡ true → b < 128
word_small b passes = grind (arith, nat_tests)

ascii_at : (xs : List ℕ) (i : ℕ) → ((k : ℕ) → k < length xs → is_word_byte (get_or xs k 0) ≡ true) → get_or xs i 0 < 128
ascii_at [] i passes = omega arith
ascii_at (x ∷ xs) zero passes = word_small x (passes zero (omega arith))
ascii_at (x ∷ xs) (suc i) passes = ascii_at xs i (λ k inside. passes (suc k) (omega arith))

-- the bytes of a word are ASCII
pub word_ascii : (xs : List ℕ) (size : ℕ) → size ≡ length (take_while is_word_byte xs) → IsAscii (take size xs)
word_ascii xs size is = grind (arith, common_steps, take_run, ascii_at, run_all)

-- A value only grows with more digits.

abbrev pub with_digit : ℕ → ℕ → ℕ
with_digit n d = 10 * n + (d - 48)

grows : (n : ℕ) (xs : List ℕ) → n ≤ fold with_digit n xs
grows n [] = omega arith
grows n (x ∷ xs) = let more = grows (with_digit n x) xs in omega arith

large_from : (limit n i : ℕ) (xs : List ℕ) → i < length xs → limit ≤ 10 * fold with_digit n
    (take i xs) + (get_or xs i 0 - 48) → limit ≤ fold with_digit n xs
large_from limit n i [] inside large = absurd (omega arith)
large_from limit n zero (x ∷ xs) inside large = let more = grows (with_digit n x) xs in omega arith
large_from limit n (suc i) (x ∷ xs) inside large = large_from limit (with_digit n x) i xs (omega arith) large

below : (a b : ℕ) → b ≤ a → nat_lt a b ≡ false
below a b le = grind (arith, nat_tests)

pub too_large : (xs : List ℕ) (i : ℕ) → i < length xs → 2 ^ 63 ≤ 10 * decimal_value (take i xs) + (get_or xs i 0 - 48)
    → Faulty NumberTooLarge ≡ number_symbol (decimal_value xs)
too_large xs i inside large = grind (arith, common_steps, large_from, below, cond-false)

-- Signs stay on a line.

-- a text that is not empty and has no line feed
abbrev pub is_visible : List ℕ → Bool
is_visible [] = false
is_visible (b ∷ []) = not (b == 10)
is_visible (b ∷ c ∷ bytes) = not (b == 10) && is_visible (c ∷ bytes)

not_line_feed : (b : ℕ) → not (b == 10) ≡ true → b ≡ 10 → ⊥
not_line_feed b visible same = let other = ap (λ n. not (n == 10)) same in cc

-- bytes that begin with a visible text stay on the line as long as it goes
begins_stays : (ys xs : List ℕ) → is_visible ys ≡ true → starts_with nat_eq xs ys ≡ true → StaysOnLine (length ys) xs
begins_stays [] xs visible begins = tt
begins_stays (y ∷ []) (x ∷ xs) visible begins = grind (arith, common_steps, not_line_feed)
begins_stays (y ∷ z ∷ ys) (x ∷ xs) visible begins =
    let (first, rest) = and_parts (nat_eq y x) (pointwise nat_eq (z ∷ ys) (take (length (z ∷ ys)) xs)) begins in
    let (head, tail) = and_parts (not (y == 10)) (is_visible (z ∷ ys)) visible in
    (λ same. not_line_feed y head (eqb-true y x first ∙ same), begins_stays (z ∷ ys) xs tail rest)
begins_stays _ [] visible begins = cc

visible_some : (ys : List ℕ) → is_visible ys ≡ true → 0 < length ys
visible_some [] visible = cc
visible_some (y ∷ ys) visible = omega arith

abbrev pub all_visible : List (List ℕ × Mark) → Bool
all_visible [] = true
all_visible (entry ∷ entries) = is_visible entry.0 && all_visible entries

abbrev pub FitsOnLine : List ℕ → ℕ → Type 0
FitsOnLine xs size = (0 < size) × StaysOnLine size xs

found_at : (v : Bool) (xs : List ℕ) (entry : List ℕ × Mark) (later : Option (List ℕ × Mark)) → is_visible entry.0 ≡ true
    → starts_with nat_eq xs entry.0 ≡ v → FitsOnLine xs (sign_piece later).1
    → FitsOnLine xs (sign_piece (cond v (Some entry) later)).1
found_at true xs entry later visible begins rest =
    (visible_some entry.0 visible, begins_stays entry.0 xs visible begins)
found_at false xs entry later visible begins rest = rest

sign_fits : (entries : List (List ℕ × Mark)) (xs : List ℕ) → all_visible entries ≡ true → FitsOnLine xs 1
    → FitsOnLine xs (sign_piece (find (λ entry. starts_with nat_eq xs entry.0) entries)).1
sign_fits [] xs visible one = one
sign_fits (entry ∷ entries) xs visible one =
    let (head, tail) = and_parts _ _ visible in
    found_at _ xs entry (find (λ e. starts_with nat_eq xs e.0) entries) head refl (sign_fits entries xs tail one)

space_visible : (b : ℕ) → is_space b ≡ false → b ≡ 10 → ⊥
space_visible b visible same = let other = ap is_space same in cc

pub sign_front : (bytes : List ℕ) (s : Seen) (size : ℕ) → 0 < length bytes → is_space (get_or bytes 0 0) ≡ false
    → get_or bytes 0 0 < 128 → is_ascii_alphabetic (get_or bytes 0 0) ≡ false
    → is_ascii_digit (get_or bytes 0 0) ≡ false → IsSign bytes s size → IsFront bytes s size
sign_front [] s size some visible small letter digit sign = absurd (omega arith)
sign_front (b ∷ bytes) s size some visible small letter digit (same, size_is) =
    let piece : front_piece b (b ∷ bytes) ≡ sign_piece (find (λ entry. starts_with nat_eq (b ∷ bytes) entry.0) signs) =
    grind (arith, common_steps, cond-false, low) steps 1500000 in
    let fits : FitsOnLine (b ∷ bytes) size = subst (FitsOnLine (b ∷ bytes)) (sym size_is) (sign_fits signs (b ∷ bytes)
    refl (lit< tt, (space_visible b visible, tt))) in
    front_is (b ∷ bytes) s size visible (
      same ∙ sym (ap (λ (x : Symbol × ℕ). x.0) piece),
      size_is ∙ sym (ap (λ (x :
          Symbol × ℕ). x.1) piece),
      fits.0,
      fits.1,
    )
