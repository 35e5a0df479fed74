-- Decimal texts of the numbers of rules.
use Rattle.std.proofs.Common.{◌≡◌, ◌≢◌, ℕ, ◌<◌, ◌^◌, Bool, true, List, [], ◌∷◌, get_or, ap, sym, ◌∙◌, arith}
use Rattle.std.specs.Prelude.{decimal, Result, Ok, Err, Option, Some, None}
use Rattle.std.specs.Bool.{Decides}
use Rattle.std.specs.Str.Parse.{AllDigits, digits_value, ParsesUnsigned}
use Rattle.std.proofs.lemmas.Str.Parse.{IsNumeralModel, numerals_by_value, tells_digits, parse_plain}
use Rattle.std.proofs.lemmas.Fmt.{decimal_digit, decimal-digits_value, first_decimal, parse-decimal}
use Rattle.dbg_plan.specs.declared.breakpoint.Rule.{Rule}
use Rattle.dbg_plan.specs.declared.breakpoint.Rule.TheVariants.{From, Every}
use Rattle.dbg_plan.specs.Resolutions.{ReadsRule, HasRule}
use Rattle.std.proofs.lemmas.Grind.{common_steps}

digits_model : IsNumeralModel (AllDigits 10) (digits_value 10)
digits_model = numerals_by_value (AllDigits 10) tells_digits

-- what `parse` says of a text; what its error is doesn't matter
abbrev pub Parses : List ℕ → Result ℕ ℕ → Type 0
Parses text r = ParsesUnsigned 32 10 text r

-- what parses and begins neither with a zero nor with a plus sign is the decimal text of its number, which isn't 0
pub decimal_of : (text : List ℕ) (k : ℕ) → Parses text (Ok k) → get_or text 0 0 ≢ 48 → get_or text 0 0 ≢ 43
    → (text ≡ decimal k) × (0 < k)
decimal_of text k parses no_zero no_plus =
    let plain = parse_plain digits_model {E = ℕ} 32 text (Ok k) parses no_plus in
    let fits = plain.0.2 in
    let written : decimal (digits_value 10 text) ≡ text = decimal-digits_value digits_model text plain.0.0 plain.0.1 (λ
    zero. absurd (no_zero zero)) (omega arith) in
    grind (arith, common_steps, decimal, get_or, decimal_digit)

-- the decimal text of any number but 0 begins neither with a zero nor with a plus sign
pub not_begun_with : (text : List ℕ) (k c : ℕ) (r : Bool) → c < 49 → 0 < k → k < 2 ^ 31 → text ≡ decimal k
    → Decides r (get_or text 0 0 ≡ c) → r ≡ true → ⊥
not_begun_with text k c r low some fits is decides begins = grind (arith, common_steps, first_decimal, get_or)

same_ok : (m n : ℕ) → ◌≡◌ {A = Result ℕ ℕ} (Ok m) (Ok n) → m ≡ n
same_ok m n is = cc

not_ok : (n : ℕ) → ◌≡◌ {A = Result ℕ ℕ} (Err 0) (Ok n) → ⊥
not_ok n is = cc

-- a decimal text parses, to its number alone
pub parses_to : (text : List ℕ) (k n : ℕ) → k < 2 ^ 31 → text ≡ decimal k → Parses text (Ok n) → n ≡ k
parses_to text k n fits is parses =
    same_ok n k (parse-decimal {E = ℕ} 32 k text (Ok n) (omega arith) (omega arith) is parses)

pub does_parse : (text : List ℕ) (k : ℕ) → k < 2 ^ 31 → text ≡ decimal k → ¬ Parses text (Err 0)
does_parse text k fits is parses =
    not_ok k (parse-decimal {E = ℕ} 32 k text (Err 0) (omega arith) (omega arith) is parses)

-- ---- texts that are no rule

-- no number is written in the text
abbrev pub IsNoNumber : List ℕ → Type 0
IsNoNumber text = (k : ℕ) → 0 < k → k < 2 ^ 31 → text ≢ decimal k

-- k alone begins with no `%`
no_percent : (k : ℕ) (rest : List ℕ) → 0 < k → k < 2 ^ 31 → 37 ∷ rest ≢ decimal k
no_percent k rest some fits is =
    let first = first_decimal k some (omega arith) in absurd (omega (arith, ap (λ t. get_or t 0 0) is))

same_tail : (xs ys : List ℕ) → 37 ∷ xs ≡ 37 ∷ ys → xs ≡ ys
same_tail xs ys e = cc

pub no_divisor : (text divisor : List ℕ) → text ≡ 37 ∷ divisor → IsNoNumber divisor → ¬ HasRule text
no_divisor text divisor is none has = by_rule has.rule has.reads
  where
    by_rule : (rule : Option Rule) → ReadsRule text rule → ⊥
    by_rule None empty = let e : 37 ∷ divisor ≡ [] = sym is ∙ empty in cc
    by_rule (Some (From k)) reads = no_percent k divisor reads.1 reads.2 (sym is ∙ reads.0)
    by_rule (Some (Every k)) reads = none k reads.1 reads.2 (same_tail divisor (decimal k) (sym is ∙ reads.0))

pub no_number : (text : List ℕ) → text ≢ [] → ((rest : List ℕ) → text ≢ 37 ∷ rest) → IsNoNumber text → ¬ HasRule text
no_number text some unmarked none has = by_rule has.rule has.reads
  where
    by_rule : (rule : Option Rule) → ReadsRule text rule → ⊥
    by_rule None empty = some empty
    by_rule (Some (From k)) reads = none k reads.1 reads.2 reads.0
    by_rule (Some (Every k)) reads = unmarked (decimal k) reads.0
