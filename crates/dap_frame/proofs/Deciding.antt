-- Each rest is one of the three: a frame, a fault, or neither yet.
use Rattle.dap_frame.proofs.Common.{[], ap, append-nil, append_assoc, AreFaultless, arith, BadField, BadLength, cases_Bool, cases_eq, cases_lt, content_limit, decimal, decimal_is_IsNumeral, digits_value, drop, false, false≢true, Field, field_text, FramingFault, HasNoLineEnd, header_limit, HeaderTooLong, inl, inr, is_length, is_name_byte, is_value_byte, IsField, IsHeader, IsLength, IsOpen, length, length-append, length-take, length-take-le, length_values, line_end, line_of, LineFault, lines_of, List, list_all, NoLength, refl, subst, suc, sym, take, take-append-drop, take_all, TooLarge, true, TwoLengths, zero, ℕ, ◌++◌, ◌+◌, ◌<◌, ◌∙◌, ◌∷◌, ◌≡◌, ◌≢◌, ◌≤◌, ◌⊎◌}
use Rattle.dap_frame.specs.Laws.{IsOneOfThree}
use Rattle.dap_frame.proofs.Lines.{HasNo, name_no_colon, same_name, empty_one_line}
use Rattle.dap_frame.proofs.Faults.{fault_from_line, length_values_at, length_values-append}
use Rattle.dap_frame.proofs.Frames.{open_part, open_short}
use Rattle.dap_frame.proofs.Judging.{length_values-none}
use Rattle.dap_frame.proofs.Scanning.{all_fields_more, lines_of_more}
use Rattle.std.proofs.lemmas.Grind.{common_steps}

-- ---- lines

nil_no_end : HasNoLineEnd []
nil_no_end [] after e = absurd cc
nil_no_end (b ∷ before) after e = absurd cc

abbrev BeginsWithEnd : List ℕ → Type 0
BeginsWithEnd bytes = (after : List ℕ) × (bytes ≡ line_end ++ after)

begins : (x : ℕ) (xs : List ℕ) → BeginsWithEnd (x ∷ xs) ⊎ (¬ BeginsWithEnd (x ∷ xs))
begins x [] = inr (λ b. let e = b.1 in absurd cc)
begins x (y ∷ ys) = elim (cases_eq x 13) [
  | inl p ↦ elim (cases_eq y 10) [
    | inl q ↦ inl (ys, ap (λ z. z ∷ y ∷ ys) p ∙ ap (λ z. 13 ∷ z ∷ ys) q)
    | inr q ↦ inr (λ b. q (let e = b.1 in cc))
  ]
  | inr p ↦ inr (λ b. p (let e = b.1 in cc))
]

no_end_cons : (x : ℕ) (xs : List ℕ) → ¬ BeginsWithEnd (x ∷ xs) → HasNoLineEnd xs → HasNoLineEnd (x ∷ xs)
no_end_cons x xs not none [] after e = not (after, e)
no_end_cons x xs not none (b ∷ before) after e = none before after cc

not_before : (x : ℕ) (line after : List ℕ) → ¬ BeginsWithEnd (x ∷ (line ++ (line_end ++ after)))
    → ¬ BeginsWithEnd (x ∷ (line ++ 13 ∷ []))
not_before x [] after not b = let e = b.1 in absurd cc
not_before x (y ∷ ys) after not b = grind (arith, common_steps)

-- no line ends in the bytes, or a first one does
abbrev IsCut : List ℕ → Type 0
IsCut bytes =
    HasNoLineEnd bytes ⊎ ((line : List ℕ) × (after : List ℕ) × (bytes ≡ line ++ (line_end ++ after))
    × HasNoLineEnd (line ++ 13 ∷ []))

cut : (bytes : List ℕ) → IsCut bytes
cut [] = inl nil_no_end
cut (x ∷ xs) = elim (begins x xs) [
  | inl at ↦ inr ([], at.0, at.1, empty_one_line)
  | inr not ↦ elim (cut xs) [
    | inl none ↦ inl (no_end_cons x xs not none)
    | inr found ↦ inr (
      x ∷ found.0,
      found.1,
      ap (λ l. x ∷ l) found.2,
      no_end_cons x (found.0 ++ 13 ∷ []) (not_before x found.0 found.1
          (subst (λ l. ¬ BeginsWithEnd (x ∷ l)) found.2 not)) found.3,
    )
  ]
]

-- ---- fields

cut_colon : (line : List ℕ) → ((name : List ℕ) × (rest : List ℕ) × (line ≡ name ++ (58 ∷ rest)) × HasNo 58 name)
    ⊎ HasNo 58 line
cut_colon [] = inr tt
cut_colon (x ∷ xs) = elim (cases_eq x 58) [
  | inl p ↦ inl ([], xs, ap (λ y. y ∷ xs) p, tt)
  | inr p ↦ elim (cut_colon xs) [
    | inl found ↦ inl (x ∷ found.0, found.1, ap (λ l. x ∷ l) found.2, (p, found.3))
    | inr none ↦ inr (p, none)
  ]
]

has_none_inside : (x : ℕ) (ys zs : List ℕ) → HasNo x (ys ++ (x ∷ zs)) → ⊥
has_none_inside x [] zs h = h.0 refl
has_none_inside x (y ∷ ys) zs h = has_none_inside x ys zs h.1

-- a line is a field, or none
abbrev IsFieldOrNot : List ℕ → Type 0
IsFieldOrNot line = ((f : Field) × IsField f × (line ≡ field_text f)) ⊎ ((f : Field) → IsField f → line ≢ field_text f)

parts_field : (line name value : List ℕ) → line ≡ name ++ (58 ∷ 32 ∷ value) → HasNo 58 name → IsFieldOrNot line
parts_field line [] value e none =
    inr (λ f is so. let same = (same_name [] f.name (32 ∷ value) (32 ∷ f.value) tt (name_no_colon f is) (sym e ∙ so)).0
    in let l = ap length same in let n = is.named in omega (arith, l, n))
parts_field line (x ∷ xs) value e none =
    let same =
    λ (f : Field) (is : IsField f) (so : line ≡ field_text f). same_name (x ∷ xs) f.name (32 ∷ value) (32 ∷ f.value)
    none (name_no_colon f is) (sym e ∙ so) in
    elim (cases_Bool (list_all is_name_byte (x ∷ xs))) [
      | inr bad ↦ inr (λ f is so. false≢true (sym bad ∙ ap (list_all is_name_byte) (same f is so).0 ∙ is.name))
      | inl name ↦ elim (cases_Bool (list_all is_value_byte value)) [
        | inr bad ↦ inr (λ f is so. let t = (same f is so).1 in let v : value ≡ f.value = cc in false≢true
            (sym bad ∙ ap (list_all is_value_byte) v ∙ is.value))
        | inl shown ↦ inl (
          record { name = x ∷ xs; value = value },
          record { named = omega arith; name = name; value = shown },
          e,
        )
      ]
    ]

rest_field : (line name rest : List ℕ) → line ≡ name ++ (58 ∷ rest) → HasNo 58 name → IsFieldOrNot line
rest_field line name [] e none = grind (arith, common_steps, same_name, name_no_colon)
rest_field line name (y ∷ value) e none = elim (cases_eq y 32) [
  | inl space ↦ parts_field line name value (e ∙ ap (λ z. name ++ (58 ∷ z ∷ value)) space) none
  | inr other ↦ inr (λ f is so. other (let same =
      (same_name name f.name (y ∷ value) (32 ∷ f.value) none (name_no_colon f is) (sym e ∙ so)).1 in cc))
]

field_or_not : (line : List ℕ) → IsFieldOrNot line
field_or_not line = elim (cut_colon line) [
  | inl found ↦ rest_field line found.0 found.1 found.2 found.3
  | inr none ↦ inr (λ f is e. has_none_inside 58 f.name (32 ∷ f.value) (subst (HasNo 58) e none))
]

-- ---- lengths

same_or_not : (xs ys : List ℕ) → (xs ≡ ys) ⊎ (xs ≢ ys)
same_or_not [] [] = inl refl
same_or_not [] (y ∷ ys) = inr (λ e. cc)
same_or_not (x ∷ xs) [] = inr (λ e. cc)
same_or_not (x ∷ xs) (y ∷ ys) = grind (arith, common_steps, cases_eq, same_or_not xs ys)

counted : (value : List ℕ) (n : ℕ) → IsLength value n → digits_value 10 value ≡ n
counted value n is = let small = is.1 in ap (digits_value 10) is.0 ∙ (decimal_is_IsNumeral n (omega (arith, small))).1

length_or_not : (value : List ℕ) → ((n : ℕ) × IsLength value n) ⊎ ((n : ℕ) → ¬ IsLength value n)
length_or_not value =
    let n = digits_value 10 value in
    elim (same_or_not value (decimal n)) [
      | inr other ↦ inr (λ m is. other (is.0 ∙ ap decimal (sym (counted value m is))))
      | inl same ↦ elim (cases_lt n 10000000) [
        | inl small ↦ inl (n, (same, small))
        | inr large ↦ inr (λ m is. let e = counted value m is in let small = is.1 in omega (arith, e, small, large))
      ]
    ]

-- ---- a line after faultless fields

abbrev IsJudged : List Field → List ℕ → Type 0
IsJudged fields line =
    ((k : FramingFault) × LineFault fields line k)
    ⊎ (((line ≡ []) × ((n : ℕ) × (n ≤ content_limit) × (length_values fields ≡ decimal n ∷ [])))
    ⊎ ((f : Field) × IsField f × (line ≡ field_text f) × AreFaultless (fields ++ f ∷ [])))

judge_length : (fields : List Field) (line : List ℕ) (f : Field) → AreFaultless fields → IsField f → line ≡ field_text f
    → is_length f ≡ true → IsJudged fields line
judge_length fields line f ok is e named = elim ok.lengths [
  | inr one ↦ inl (TwoLengths, (f, is, e, named, (λ none. let h = one.2 in cc)))
  | inl none ↦ elim (length_or_not f.value) [
    | inr bad ↦ inl (BadLength, (f, is, e, named, none, bad))
    | inl found ↦ elim (cases_lt content_limit found.0) [
      | inl large ↦ inl (TooLarge, (f, is, e, named, none, (found.0, found.1, large)))
      | inr small ↦ inr (inr (
        f,
        is,
        e,
        record {
          shaped = all_fields_more fields f ok.shaped is;
          lengths =
              inr (
                found.0,
                small,
                length_values_at fields [] f named ∙ ap (λ l. l ++ (f.value ∷ [])) none
                    ∙ ap (λ v. v ∷ []) found.1.0,
              );
        },
      ))
    ]
  ]
]

judge_other : (fields : List Field) (line : List ℕ) (f : Field) → AreFaultless fields → IsField f → line ≡ field_text f
    → is_length f ≡ false → IsJudged fields line
judge_other fields line f ok is e other =
    grind (arith, common_steps, length_values-append, length_values-none, append-nil, all_fields_more)

judge : (fields : List Field) (line : List ℕ) → AreFaultless fields → IsJudged fields line
judge fields [] ok = elim ok.lengths [ inl none ↦ inl (NoLength, (refl, none)) | inr one ↦ inr (inl (refl, one)) ]
judge fields (x ∷ xs) ok = elim (field_or_not (x ∷ xs)) [
  | inr none ↦ inl (BadField, ((λ e. cc), none))
  | inl found ↦ elim (cases_Bool (is_length found.0)) [
    | inl named ↦ judge_length fields (x ∷ xs) found.0 ok found.1 found.2 named
    | inr other ↦ judge_other fields (x ∷ xs) found.0 ok found.1 found.2 other
  ]
]

-- ---- a rest

-- after a whole header part stands its content, or too few bytes
decide_whole : (bytes header x : List ℕ) (n : ℕ) → IsHeader header n → bytes ≡ header ++ x → IsOneOfThree bytes
decide_whole bytes header x n is e = elim (cases_lt (length x) n) [
  | inl few ↦ inr (inr (subst IsOpen (sym e) (open_short header x n is few)))
  | inr many ↦ inl (
    take n x,
    drop n x,
    record {
      header = header;
      lawful = subst (IsHeader header) (sym (length-take-le n x many)) is;
      spelled = e ∙ ap (λ l. header ++ l) (sym (take-append-drop n x));
    },
  )
]

-- where the header part ends in what is left of it no line
decide_rest : (bytes : List ℕ) (fields : List Field) (left : List ℕ) → AreFaultless fields
    → take header_limit bytes ≡ lines_of fields ++ left → HasNoLineEnd left → IsOneOfThree bytes
decide_rest bytes fields left ok e none = elim (cases_lt (length bytes) header_limit) [
  | inl short ↦ inr (inr (open_part bytes fields left ok none
      (sym (take_all header_limit bytes (omega (arith, short))) ∙ e) short))
  | inr long ↦ inr (inl (
    HeaderTooLong,
    record {
      fields = fields;
      part = left;
      faultless = ok;
      there = long;
      spelled = e;
      incomplete = none;
    },
  ))
]

decide_line : (bytes : List ℕ) (fields : List Field) (line after : List ℕ) → AreFaultless fields
    → take header_limit bytes ≡ lines_of fields ++ (line_of line ++ after) → HasNoLineEnd (line ++ 13 ∷ [])
    → ((f : Field) → AreFaultless (fields ++ f ∷ []) → take header_limit bytes ≡ lines_of (fields ++ f ∷ []) ++ after
    → IsOneOfThree bytes) → IsOneOfThree bytes
decide_line bytes fields line after ok e one more =
    let others = after ++ drop header_limit bytes in
    let whole : bytes ≡ lines_of fields ++ (line_of line ++ others) =
    sym (take-append-drop header_limit bytes) ∙ ap (λ l. l ++ drop header_limit bytes) e
    ∙ append_assoc (lines_of fields) (line_of line ++ after) (drop header_limit bytes)
    ∙ ap (λ l. lines_of fields ++ l) (append_assoc (line_of line) after (drop header_limit bytes)) in
    let short : length (lines_of fields ++ line_of line) ≤ header_limit =
    let l : length (take header_limit bytes) ≡ length (lines_of fields ++ line_of line) + length after =
    ap length (e ∙ sym (append_assoc _ _ after)) ∙ length-append (lines_of fields ++ line_of line) after in
    omega (arith, l, length-take header_limit bytes) in
    elim (judge fields line ok) [
      | inl bad ↦ inr (inl (
        bad.0,
        fault_from_line bytes bad.0 (record {
          fields = fields;
          line = line;
          after = others;
          faultless = ok;
          spelled = whole;
          one_line = one;
          within = short;
          faulty = bad.1;
        }),
      ))
      | inr good ↦ elim good [
        | inl end ↦
            let empty : line_of line ≡ line_end = ap line_of end.0 in
            decide_whole bytes (lines_of fields ++ line_end) others end.1.0 (record {
              fields = fields;
              shaped = ok.shaped;
              spelled = refl;
              once = end.1.2;
              allowed = end.1.1;
              short = subst (λ l. length (lines_of fields ++ l) ≤ header_limit)
                  empty short;
            }) (whole ∙ ap (λ l. lines_of fields ++ (l ++ others)) empty ∙ sym (append_assoc (lines_of fields)
            line_end others))
        | inr field ↦ more field.0 field.3 (e ∙ sym (append_assoc (lines_of fields) (line_of line) after)
            ∙ ap (λ l. l ++ after)
            (ap (λ t. lines_of fields ++ line_of t) field.2 ∙ sym (lines_of_more fields field.0)))
      ]
    ]

-- line by line
decide_lines : (fuel : ℕ) (bytes : List ℕ) (fields : List Field) (left : List ℕ) → AreFaultless fields
    → take header_limit bytes ≡ lines_of fields ++ left → length left < fuel → IsOneOfThree bytes
decide_lines zero bytes fields left ok e few = absurd (omega (arith, few))
decide_lines (suc fuel) bytes fields left ok e few = elim (cut left) [
  | inl none ↦ decide_rest bytes fields left ok e none
  | inr found ↦
      let line = found.0 in
      let after = found.1 in
      let here : left ≡ line_of line ++ after = found.2 ∙ sym (append_assoc line line_end after) in
      let shorter : length after < fuel =
      let l = ap length here in omega
      (arith, l, few, length-append (line_of line) after, length-append line line_end) in
      decide_line bytes fields line after ok (e ∙ ap (λ l. lines_of fields ++ l) here) found.3
      (λ f sound so. decide_lines fuel bytes (fields ++ f ∷ []) after sound so shorter)
]

pub decide : (bytes : List ℕ) → IsOneOfThree bytes
decide bytes =
    decide_lines (length (take header_limit bytes) + 1) bytes [] (take header_limit bytes)
    (record { shaped = tt; lengths = inl refl }) refl (omega arith)
