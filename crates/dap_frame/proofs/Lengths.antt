-- A length as it is written: 1 to 7 digits, without a leading zero unless it is `0`.
use Rattle.dap_frame.proofs.Common.{AllDigits, arith, decimal, decimal-digits_value, decimal_digit, decimal_is_IsNumeral, decimal_nonempty, digits_value, first_decimal, get_or, IsLength, length, length-decimal-le, List, subst, sym, take, ℕ, ◌*◌, ◌+◌, ◌-◌, ◌<◌, ◌^◌, ◌≡◌, ◌≤◌}
use Rattle.std.specs.Int.{IsInRange}
use Rattle.std.specs.Char.{digit_value}
use Rattle.std.proofs.lemmas.Int.Digits.{digits_value_more}
use Rattle.std.proofs.lemmas.Str.{digit_value_digit}
use Rattle.std.proofs.lemmas.Str.Parse.{IsNumeralModel, digit_at, digits_value_short, numerals_by_value, tells_digits}
use Rattle.std.proofs.lemmas.Grind.{common_steps}

digits_model : IsNumeralModel (AllDigits 10) (digits_value 10)
digits_model = numerals_by_value (AllDigits 10) tells_digits

-- how a length is written
pub record IsShaped (value : List ℕ) : Type 0 where
  pub some : 0 < length value
  pub short : length value ≤ 7
  pub no_zero : get_or value 0 0 ≡ 48 → length value ≡ 1
  pub digits : AllDigits 10 value

zero_alone : (n : ℕ) → n < 2 ^ 64 → get_or (decimal n) 0 0 ≡ 48 → length (decimal n) ≡ 1
zero_alone n fits h = grind (arith, common_steps, length, decimal, decimal_digit, first_decimal)

pub shaped : (value : List ℕ) (n : ℕ) → IsLength value n → IsShaped value
shaped value n is =
    let small = is.1 in
    let fits : n < 2 ^ 64 = omega (arith, small) in
    subst IsShaped (sym is.0) (record {
      some = decimal_nonempty n fits;
      short = length-decimal-le 7 n (omega arith) small fits;
      no_zero = zero_alone n fits;
      digits = (decimal_is_IsNumeral n fits).0.1;
    })

pub shaped_digit : (value : List ℕ) (n i : ℕ) → IsLength value n → i < length value → IsInRange 48 57 (get_or value i 0)
shaped_digit value n i is l = digit_at value i (shaped value n is).digits l

-- digits of this shape are the length that they count
pub length_from_digits : (value : List ℕ) → IsShaped value → IsLength value (digits_value 10 value)
length_from_digits value is =
    let small = digits_value_short digits_model value 7 is.digits is.short in (
      sym (decimal-digits_value digits_model value is.digits is.some is.no_zero (omega (arith, small))),
      omega
          (arith, small),
    )

pub digits_small : (value : List ℕ) → AllDigits 10 value → length value ≤ 7 → digits_value 10 value < 10000000
digits_small value h l = let small = digits_value_short digits_model value 7 h l in omega (arith, small)

-- one digit more
pub number_more : (value : List ℕ) (i n : ℕ) → i < length value → 48 ≤ get_or value i 0 → get_or value i 0 ≤ 57
    → n ≡ digits_value 10 (take i value) → n * 10 + (get_or value i 0 - 48) ≡ digits_value 10 (take (i + 1) value)
number_more value i n l low high e =
    grind (arith, common_steps, digit_value_digit, get_or, digit_value, digits_value, take, digits_value_more)
