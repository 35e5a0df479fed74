-- Decimal texts, and texts with expressions in braces.
use Rattle.std.proofs.Common.{◌≡◌, ◌≢◌, ◌==◌, ◌<◌, ◌++◌, ℕ, Bool, true, false, List, [], ◌∷◌, inl, inr, length, get_or, append_assoc, ap, sym, ◌∙◌, arith, eq-zero-or-pos}
use Rattle.std.specs.Prelude.{decimal, Result, Ok, Err, Option, Some, None}
use Rattle.std.specs.Bool.{Decides}
use Rattle.std.specs.Str.Parse.{AllDigits, digits_value, ParsesUnsigned}
use Rattle.std.proofs.lemmas.List.{get_or_default}
use Rattle.std.proofs.lemmas.Str.Parse.{IsNumeralModel, digit_at, numerals_by_value, tells_digits, parse_plain}
use Rattle.std.proofs.lemmas.Fmt.{decimal_digit, decimal_nonempty, decimal-digits_value, digits_decimal, first_decimal, parse-decimal}
use Rattle.debuggee.specs.Plain.{PlainPart, Text, Expression}
use Rattle.debuggee.specs.declared.breakpoint.Rule.{Rule}
use Rattle.debuggee.specs.declared.breakpoint.Rule.TheVariants.{From, Exactly, Every}
use Rattle.dap_debug.specs.Breakpoints.{Lacks, HasExpression, AreParts, IsCount, IsRule}

digits_model : IsNumeralModel (AllDigits 10) (digits_value 10)
digits_model = numerals_by_value (AllDigits 10) tells_digits

-- what parses and begins neither with a zero nor with a plus sign is the decimal text of its number, which isn't 0
pub decimal_of : (text : List ℕ) (n : ℕ) → ParsesUnsigned {E = ℕ} 64 10 text (Ok n) → get_or text 0 0 ≢ 48
    → get_or text 0 0 ≢ 43 → (text ≡ decimal n) × (0 < n)
decimal_of text n parses no_zero no_plus =
    let plain = parse_plain digits_model {E = ℕ} 64 text (Ok n) parses no_plus in
    let fits = plain.0.2 in
    let written : decimal (digits_value 10 text) ≡ text =
    decimal-digits_value digits_model text plain.0.0 plain.0.1 (λ zero. absurd (no_zero zero)) (omega arith) in
    let is : text ≡ decimal n = sym written ∙ ap decimal (sym plain.1) in (
      is,
      elim (eq-zero-or-pos n) [
        | inl zero ↦ absurd (no_zero (ap (λ t. get_or t 0 0) (is ∙ ap decimal zero ∙ decimal_digit 0 (omega arith))))
        | inr some ↦ some
      ],
    )

-- the decimal text of any number but 0 begins neither with a zero nor with a plus sign
pub not_begun_with : (text : List ℕ) (n c : ℕ) (r : Bool) → c < 49 → IsCount n → text ≡ decimal n
    → Decides r (get_or text 0 0 ≡ c) → r ≡ true → ⊥
not_begun_with text n c r low fits is decides begins =
    let first = first_decimal n fits.0 fits.1 in
    let at = decides.0 begins in
    absurd (omega (arith, ap (λ t. get_or t 0 0) is))

not_ok : (n : ℕ) → ◌≡◌ {A = Result ℕ ℕ} (Err 0) (Ok n) → ⊥
not_ok n is = cc

-- a decimal text parses
pub does_parse : (text : List ℕ) (n : ℕ) → IsCount n → text ≡ decimal n → ¬ ParsesUnsigned {E = ℕ} 64 10 text (Err 0)
does_parse text n fits is parses = not_ok n (parse-decimal {E = ℕ} 64 n text (Err 0) fits.1 fits.1 is parses)

-- ---- texts that are no rule

abbrev pub IsNoNumber : List ℕ → Type 0
IsNoNumber text = (n : ℕ) → IsCount n → text ≢ decimal n

-- a number alone begins with a digit
no_mark : (mark n : ℕ) (rest : List ℕ) → mark < 49 → IsCount n → mark ∷ rest ≢ decimal n
no_mark mark n rest low fits is =
    let first = first_decimal n fits.0 fits.1 in absurd (omega (arith, ap (λ t. get_or t 0 0) is))

no_equals : (n : ℕ) (rest : List ℕ) → IsCount n → 61 ∷ rest ≢ decimal n
no_equals n rest fits is =
    let digit = digit_at (decimal n) 0 (digits_decimal digits_model n fits.1) (decimal_nonempty n fits.1) in
    absurd (omega (arith, digit.1, ap (λ t. get_or t 0 0) is))

pub not_empty : (text : List ℕ) (r : Bool) → r ≡ (length text == 0) → r ≡ false → text ≢ []
not_empty text r is some empty = let e : true ≡ false = ap (λ t. length t == 0) (sym empty) ∙ sym is ∙ some in cc

same_tail : (mark : ℕ) (xs ys : List ℕ) → mark ∷ xs ≡ mark ∷ ys → xs ≡ ys
same_tail mark xs ys e = cc

pub not_nil : (mark : ℕ) (xs : List ℕ) → mark ∷ xs ≢ []
not_nil mark xs e = cc

other_mark : (xs ys : List ℕ) → 37 ∷ xs ≢ 61 ∷ ys
other_mark xs ys e = let heads : 37 ≡ 61 = ap (λ t. get_or t 0 0) e in absurd (omega (arith, heads))

pub no_divisor : (text divisor : List ℕ) → text ≡ 37 ∷ divisor → IsNoNumber divisor → (rule : Option Rule)
    → ¬ IsRule text rule
no_divisor text divisor is none rule has = by_rule rule has
  where
    by_rule : (rule : Option Rule) → IsRule text rule → ⊥
    by_rule None reads = not_nil 37 divisor (sym is ∙ reads)
    by_rule (Some (From n)) reads = no_mark 37 n divisor (omega arith) reads.1 (sym is ∙ reads.0)
    by_rule (Some (Exactly n)) reads = other_mark divisor (decimal n) (sym is ∙ reads.0)
    by_rule (Some (Every n)) reads = none n reads.1 (same_tail 37 divisor (decimal n) (sym is ∙ reads.0))

pub no_only : (text only : List ℕ) → text ≡ 61 ∷ only → IsNoNumber only → (rule : Option Rule) → ¬ IsRule text rule
no_only text only is none rule has = by_rule rule has
  where
    by_rule : (rule : Option Rule) → IsRule text rule → ⊥
    by_rule None reads = not_nil 61 only (sym is ∙ reads)
    by_rule (Some (From n)) reads = no_equals n only reads.1 (sym is ∙ reads.0)
    by_rule (Some (Exactly n)) reads = none n reads.1 (same_tail 61 only (decimal n) (sym is ∙ reads.0))
    by_rule (Some (Every n)) reads = other_mark (decimal n) only (sym reads.0 ∙ is)

pub no_number : (text : List ℕ) → text ≢ [] → ((rest : List ℕ) → text ≢ 37 ∷ rest)
    → ((rest : List ℕ) → text ≢ 61 ∷ rest) → IsNoNumber text → (rule : Option Rule) → ¬ IsRule text rule
no_number text some unmarked unlike none rule has = by_rule rule has
  where
    by_rule : (rule : Option Rule) → IsRule text rule → ⊥
    by_rule None reads = some reads
    by_rule (Some (From n)) reads = none n reads.1 reads.0
    by_rule (Some (Exactly n)) reads = unlike (decimal n) reads.0
    by_rule (Some (Every n)) reads = unmarked (decimal n) reads.0

-- a zero in front makes no number
pub zero_in_front : (rest : List ℕ) (rule : Option Rule) → ¬ IsRule (48 ∷ rest) rule
zero_in_front rest =
    no_number (48 ∷ rest) (not_nil 48 rest) (λ other is. no_zero_as 37 rest other (omega arith) is)
    (λ other is. no_zero_as 61 rest other (omega arith) is) (λ n fits. no_mark 48 n rest (omega arith) fits)
  where
    no_zero_as : (mark : ℕ) (xs ys : List ℕ) → 48 ≢ mark → 48 ∷ xs ≢ mark ∷ ys
    no_zero_as mark xs ys other is = other (ap (λ t. get_or t 0 0) is)

-- by what `split_once` says of the part before the byte
pub lacks : (byte : ℕ) (text : List ℕ) → ((i : ℕ) → i < length text → get_or text i 0 ≢ byte) → Lacks byte text
lacks byte text none = λ k d lt is. none k lt (get_or_default text k 0 d lt ∙ is)

-- the parts of a text, so far, and those of what is left
abbrev pub ReadTo : List ℕ → List PlainPart → List ℕ → Type 0
ReadTo text parts rest = (more : List PlainPart) → AreParts rest more → AreParts text (parts ++ more)

-- one expression more
pub read_on : (text : List ℕ) (parts new : List PlainPart) (rest before inner later : List ℕ) → ReadTo text parts rest
    → HasExpression rest before inner later → new ≡ parts ++ (Text before ∷ (Expression inner ∷ []))
    → ReadTo text new later
read_on text parts new rest before inner later was has grown =
    λ more are. rw (ap (λ l. l ++ more) grown ∙ append_assoc parts (Text before ∷ (Expression inner ∷ [])) more) (was
    (Text before ∷ (Expression inner ∷ more)) (later, has, are))
