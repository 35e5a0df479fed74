-- Examples of faults: lines that are no fields, and lengths that are none.
use Rattle.dap_frame.proofs.Common.{[], ◌⊎◌, content_limit, suc, zero, take_all, length-append, length_values, and_parts, ap, append-nil, arith, BadField, BadLength, Bool, codes, decimal, false, Field, field_text, FramingFault, HasFaultyLine, HasNoLineEnd, header_limit, inl, inr, is_name_byte, is_value_byte, IsField, IsLength, IsTooLong, length, line_of, LineFault, list_all, List, NoLength, refl, sym, TooLarge, true, TwoLengths, ℕ, ◌++◌, ◌∷◌, ◌≡◌, ◌≢◌, ◌≤◌, subst}
use Rattle.std.specs.Prelude.{replicate, ◌||◌, ◌==◌}
use Rattle.std.proofs.lemmas.List.{length-replicate}
use Rattle.std.specs.Fmt.{digits}
use Rattle.dap_frame.proofs.Lengths.{shaped, shaped_digit}
use Rattle.dap_frame.proofs.Lines.{passing, no_return_no_end}
use Rattle.dap_frame.specs.WorkedFaults.{FaultsAreThese, OtherFieldsAreLawful}
use Rattle.std.proofs.lemmas.Grind.{common_steps}

-- what stands before the first byte that fails a test, that byte, and what stands after it
first_failing : (p : ℕ → Bool) (a b : ℕ) (xs ys rest more : List ℕ) → list_all p xs ≡ true → list_all p ys ≡ true
    → p a ≡ false → p b ≡ false → xs ++ a ∷ rest ≡ ys ++ b ∷ more → (xs ≡ ys) × (a ≡ b) × (rest ≡ more)
first_failing p a b [] [] rest more h k f g e = (refl, cc, cc)
first_failing p a b [] (y ∷ ys) rest more h k f g e = grind (arith, common_steps, and_parts, list_all, false)
first_failing p a b (x ∷ xs) [] rest more h k f g e = grind (arith, common_steps, and_parts, list_all, false)
first_failing p a b (x ∷ xs) (y ∷ ys) rest more h k f g e =
    let both = first_failing p a b xs ys rest more (and_parts (p x) (list_all p xs) h).1
    (and_parts (p y) (list_all p ys) k).1 f g cc in
    (let front = both.0 in let same : x ≡ y = cc in cc, both.1, both.2)

-- a field whose line is this: what stands before the first byte that no name has is its name
cut_so : (f : Field) (name more : List ℕ) (b : ℕ) → IsField f → list_all is_name_byte name ≡ true
    → is_name_byte b ≡ false → name ++ b ∷ more ≡ field_text f
    → (f.name ≡ name) × (58 ≡ b) × (32 ∷ f.value ≡ more)
cut_so f name more b is good bad e = first_failing is_name_byte 58 b f.name name _ more is.name good refl bad (sym e)

-- bytes among which is no CR
plain : (line : List ℕ) → list_all is_value_byte line ≡ true → HasNoLineEnd (line ++ 13 ∷ [])
plain line h = no_return_no_end line (passing is_value_byte 13 refl line h)

-- letters, among which is no end of a line
no_return_inside : (n : ℕ) → HasNoLineEnd (replicate n 97)
no_return_inside zero [] after e = absurd cc
no_return_inside zero (b ∷ before) after e = absurd cc
no_return_inside (suc n) [] after e = absurd cc
no_return_inside (suc n) (b ∷ before) after e = no_return_inside n before after cc

abbrev no_return : ℕ → Bool
no_return b = is_value_byte b || b == 9

-- the fault of the first line
first_line : (line more : List ℕ) (fault : FramingFault) → HasNoLineEnd (line ++ 13 ∷ [])
    → length (line_of line) ≤ header_limit → LineFault [] line fault → HasFaultyLine (line_of line ++ more) fault
first_line line more fault whole short faulty = grind (arith, common_steps, shaped)

only_line : (line : List ℕ) (fault : FramingFault) → HasNoLineEnd (line ++ 13 ∷ [])
    → length (line_of line) ≤ header_limit → LineFault [] line fault → HasFaultyLine (line_of line) fault
only_line line fault whole short faulty = grind (arith, common_steps, append-nil, first_line)

abbrev field : List ℕ → List ℕ → Field
field name value = record { name = name; value = value }

abbrev length_field : List ℕ → Field
length_field value = field (codes "Content-Length") value

-- a field of the length with a value that is no length
no_length_in : (value : List ℕ) → list_all is_value_byte value ≡ true → length value ≤ 8
    → ((n : ℕ) → ¬ IsLength value n) → HasFaultyLine (line_of (field_text (length_field value))) BadLength
no_length_in value shown short none =
    only_line (field_text (length_field value)) BadLength
    (plain (field_text (length_field value)) shown) (omega (arith, short, length-append value (13 ∷ 10 ∷ [])))
    (length_field value, record { named = omega arith; name = refl; value = shown }, refl, refl, refl, none)

-- a line that no field has
no_field_in : (line : List ℕ) → HasNoLineEnd (line ++ 13 ∷ []) → length (line_of line) ≤ header_limit → line ≢ []
    → ((f : Field) → IsField f → line ≢ field_text f) → HasFaultyLine (line_of line) BadField
no_field_in line whole short some none = only_line line BadField whole short (some, none)

too_long : IsTooLong (replicate header_limit 97)
too_long = record {
  fields = [];
  part = replicate header_limit 97;
  faultless = record { shaped = tt; lengths = inl refl };
  there = omega (arith, length-replicate {A = ℕ} header_limit 97);
  spelled = take_all header_limit (replicate header_limit 97) (omega (arith, length-replicate {A = ℕ} header_limit 97));
  incomplete = no_return_inside header_limit;
}

-- the fault of the second line, after one field
second_line : (f : Field) (line : List ℕ) (fault : FramingFault) → IsField f
    → (length_values (f ∷ []) ≡ []) ⊎ ((n : ℕ) × (n ≤ content_limit) × (length_values (f ∷ []) ≡ decimal n ∷ []))
    → HasNoLineEnd (line ++ 13 ∷ []) → length (line_of (field_text f) ++ line_of line) ≤ header_limit
    → LineFault (f ∷ []) line fault → HasFaultyLine (line_of (field_text f) ++ line_of line) fault
second_line f line fault is lengths whole short faulty = grind (arith, common_steps, shaped, append-nil, length)

abbrev lower : Field
lower = field (codes "content-length") (codes "2")

no_length : HasFaultyLine (line_of (field_text lower) ++ line_of []) NoLength
no_length =
    second_line lower [] NoLength (record { named = omega arith; name = refl; value = refl }) (inl refl) (plain [] refl)
    (omega arith) (refl, refl)

abbrev two : Field
two = length_field (codes "2")

is_two : IsField two
is_two = record { named = omega arith; name = refl; value = refl }

two_lengths : HasFaultyLine (line_of (field_text two) ++ line_of (field_text two)) TwoLengths
unfolding digits
two_lengths =
    second_line two (field_text two) TwoLengths is_two (inr (2, omega arith, refl)) (plain (field_text two) refl)
    (omega arith) (two, is_two, refl, refl, λ e. absurd cc)

abbrev large : Field
large = length_field (codes "1048577")

too_large : HasFaultyLine (line_of (field_text large)) TooLarge
unfolding digits
too_large =
    only_line (field_text large) TooLarge (plain (field_text large) refl) (omega arith) (
      large,
      record { named = omega arith; name = refl; value = refl },
      refl,
      refl,
      refl,
      (1048577, (refl, omega arith), omega arith),
    )

pub other_fields_are_lawful : OtherFieldsAreLawful
unfolding digits
other_fields_are_lawful =
    record {
      fields = field (codes "X-9") (codes "~") ∷ length_field (codes "1048576") ∷ field (codes "Z") (replicate
          984 97) ∷ [];
      shaped = grind (arith, common_steps);
      spelled = refl;
      once = refl;
      allowed = omega arith;
      short =
          omega arith;
    }

space_before : HasFaultyLine (line_of (codes "Content-Length : 2")) BadField
space_before =
    no_field_in (codes "Content-Length : 2") (plain (codes "Content-Length : 2") refl) (omega arith) (λ e. absurd cc)
    (λ f is e. (let cut = cut_so f (codes "Content-Length") (codes ": 2") 32 is refl refl e in
    absurd (omega (arith, cut.1))))

no_space : HasFaultyLine (line_of (codes "Content-Length:2")) BadField
no_space =
    no_field_in (codes "Content-Length:2") (plain (codes "Content-Length:2") refl) (omega arith) (λ e. absurd cc)
    (λ f is e. (let cut = cut_so f (codes "Content-Length") (codes "2") 58 is refl refl e in
    let rest = cut.2 in absurd cc))

no_name : HasFaultyLine (line_of (codes ": 2")) BadField
no_name =
    no_field_in (codes ": 2") (plain (codes ": 2") refl) (omega arith) (λ e. absurd cc)
    (λ f is e. (let cut = cut_so f [] (codes " 2") 58 is refl refl e in
    absurd (omega (arith, is.named, ap length cut.0))))

abbrev tabbed : List ℕ
tabbed = codes "A: " ++ 9 ∷ []

a_tab : HasFaultyLine (line_of tabbed) BadField
a_tab =
    no_field_in tabbed (no_return_no_end tabbed (passing no_return 13 refl tabbed refl)) (omega arith) (λ e. absurd cc)
    (λ f is e. (let cut = cut_so f (codes "A") (codes " " ++ 9 ∷ []) 58 is refl refl e in
    grind (arith, common_steps, list_all, true)))

-- a byte that no name has stands before the colon
a_low_line : HasFaultyLine (line_of (codes "A_B: 2")) BadField
a_low_line =
    no_field_in (codes "A_B: 2") (plain (codes "A_B: 2") refl) (omega arith) (λ e. absurd cc)
    (λ f is e. (let cut = cut_so f (codes "A") (codes "B: 2") 95 is refl refl e in absurd (omega (arith, cut.1))))

abbrev deleted : List ℕ
deleted = codes "A: " ++ 127 ∷ []

abbrev may_be_deleted : ℕ → Bool
may_be_deleted b = is_value_byte b || b == 127

a_delete : HasFaultyLine (line_of deleted) BadField
a_delete =
    no_field_in deleted (no_return_no_end deleted (passing may_be_deleted 13 refl deleted refl)) (omega arith)
    (λ e. absurd cc)
    (λ f is e. (let cut = cut_so f (codes "A") (codes " " ++ 127 ∷ []) 58 is refl refl e in
    let value : f.value ≡ 127 ∷ [] = (let rest = cut.2 in cc) in
    let shown = subst (λ v. list_all is_value_byte v ≡ true) value is.value in absurd cc))

nothing_given : HasFaultyLine (line_of []) NoLength
nothing_given = only_line [] NoLength (plain [] refl) (omega arith) (refl, refl)

-- values that are no length: none, a zero in front, a sign, more than seven digits
no_digit : HasFaultyLine (line_of (field_text (length_field []))) BadLength
no_digit = no_length_in [] refl (omega arith) (λ n is. absurd (omega (arith, (shaped [] n is).some)))

zero_in_front : HasFaultyLine (line_of (field_text (length_field (codes "02")))) BadLength
zero_in_front =
    no_length_in (codes "02") refl (omega arith)
    (λ n is. (let one = (shaped (codes "02") n is).no_zero refl in absurd cc))

a_sign : HasFaultyLine (line_of (field_text (length_field (codes "+2")))) BadLength
a_sign =
    no_length_in (codes "+2") refl (omega arith)
    (λ n is. (let digit = shaped_digit (codes "+2") n 0 is (omega arith) in absurd (omega (arith, digit))))

a_space : HasFaultyLine (line_of (field_text (length_field (codes "2 ")))) BadLength
a_space =
    no_length_in (codes "2 ") refl (omega arith)
    (λ n is. (let digit = shaped_digit (codes "2 ") n 1 is (omega arith) in absurd (omega (arith, digit))))

eight_digits : HasFaultyLine (line_of (field_text (length_field (codes "12345678")))) BadLength
eight_digits =
    no_length_in (codes "12345678") refl (omega arith)
    (λ n is. absurd (omega (arith, (shaped (codes "12345678") n is).short)))

pub faults_are_these : FaultsAreThese
faults_are_these = (
  too_long,
  (
    space_before,
    (
      no_space,
      (
        no_name,
        (
          a_tab,
          (
            a_low_line,
            (
              a_delete,
              (
                nothing_given,
                (
                  no_length,
                  (
                    two_lengths,
                    (
                      no_digit,
                      (zero_in_front, (a_sign, (a_space, (eight_digits, (too_large, tt))))),
                    ),
                  ),
                ),
              ),
            ),
          ),
        ),
      ),
    ),
  ),
)
