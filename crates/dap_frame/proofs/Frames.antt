-- At most one header part and one frame stand at the front of some bytes, and where a frame stands no fault does.
use Rattle.dap_frame.proofs.Common.{[], AllByRecursion, AllDigits, ap, append-nil, append_assoc, AreFaultless, arith, codes, content_limit, decimal, decimal_injective, decimal_is_IsNumeral, drop, drop-drop, FaultAt, Field, frame_of, Frames, FramingFault, HasFaultyLine, HasNoLineEnd, header_limit, inl, inr, is_value_byte, IsField, IsFrameInFront, IsHeader, IsOpen, IsTooLong, length, length-append, length-decimal-le, length-drop, length-take-le, length_values, line_end, line_of, LineFault, lines_of, List, list_all, refl, subst, sym, take, take-append-drop, true, ℕ, ◌++◌, ◌+◌, ◌-◌, ◌<◌, ◌∙◌, ◌∷◌, ◌≡◌, ◌≤◌}
use Rattle.std.specs.Int.{IsInRange}
use Rattle.std.proofs.lemmas.Str.Parse.{digit_from_value}
use Rattle.std.proofs.lemmas.Bool.Decides.{nat_tests}
use Rattle.dap_frame.proofs.Lines.{same_line, field_one_line, empty_one_line, text_not_empty}
use Rattle.dap_frame.proofs.Located.{line_then, located, none_inside, is_field_at, same_fields}
use Rattle.dap_frame.proofs.Faults.{no_line_fault, no_end_fault, no_faulty_line, take_after, fault_cases}
use Rattle.std.proofs.lemmas.Grind.{common_steps}

-- two header parts in front of the same bytes are one, and name one length
pub same_header : (a b x y : List ℕ) (m n : ℕ) → IsHeader a m → IsHeader b n → a ++ x ≡ b ++ y → (m ≡ n) × (x ≡ y)
same_header a b x y m n is so e = grind (arith, common_steps, append_assoc, same_fields, decimal, decimal_injective)

cons_length : (x : ℕ) (xs : List ℕ) → length (x ∷ xs) ≡ length xs + 1
cons_length x xs = omega arith

same_front : (c d x y : List ℕ) → length c ≡ length d → c ++ x ≡ d ++ y → (c ≡ d) × (x ≡ y)
same_front [] [] x y l e = (refl, e)
same_front [] (d ∷ ds) x y l e = absurd (let s = cons_length d ds in omega (arith, l, s))
same_front (c ∷ cs) [] x y l e = absurd (let s = cons_length c cs in omega (arith, l, s))
same_front (c ∷ cs) (d ∷ ds) x y l e =
    let s = cons_length c cs in
    let t = cons_length d ds in
    let shorter : length cs ≡ length ds = omega (arith, l, s, t) in
    grind (arith, common_steps, same_front cs ds x y shorter cc)

-- one frame stands in front, or none
pub same_frame : (bytes c d x y : List ℕ) → IsFrameInFront bytes c x → IsFrameInFront bytes d y → (c ≡ d) × (x ≡ y)
same_frame bytes c d x y f g =
    let same = same_header f.header g.header _ _ (length c) (length d) f.lawful g.lawful (sym f.spelled ∙ g.spelled) in
    same_front c d x y same.0 same.1

-- ---- a frame or a fault

header_faultless : (header : List ℕ) (n : ℕ) (is : IsHeader header n) → AreFaultless is.fields
header_faultless header n is = record { shaped = is.shaped; lengths = inr (n, is.allowed, is.once) }

header_then : (header rest : List ℕ) (n : ℕ) (is : IsHeader header n) → header ++ rest ≡ lines_of is.fields
    ++ (line_end ++ rest)
header_then header rest n is = ap (λ h. h ++ rest) is.spelled ∙ append_assoc (lines_of is.fields) line_end rest

-- a line after the fields of a whole header part, or after more: only the empty line stands there
after_end : (fields gs : List Field) (d rest line after : List ℕ) (k : FramingFault) → length_values fields ≡ d ∷ []
    → HasNoLineEnd (line ++ 13 ∷ []) → LineFault gs line k
    → (more : List Field) → AllByRecursion IsField more → gs ≡ fields ++ more → line_end ++ rest ≡ lines_of more
    ++ (line_of line ++ after) → ⊥
after_end fields gs d rest line after k once one bad [] are so e =
    let lines = same_line [] line rest after empty_one_line one (e ∙ append_assoc line line_end after) in
    no_end_fault fields d k once (rw lines.0 (rw (← (so ∙ append-nil fields)) bad))
after_end fields gs d rest line after k once one bad (g ∷ more) are so e =
    text_not_empty g are.0 (same_line [] _ rest _ empty_one_line (field_one_line g are.0) (e ∙ line_then _ _ _)).0

whole_not_faulty : (header rest : List ℕ) (n : ℕ) (k : FramingFault) → IsHeader header n
    → HasFaultyLine (header ++ rest) k → ⊥
whole_not_faulty header rest n k is h =
    elim (located is.fields h.fields (line_end ++ rest) h.line h.after is.shaped h.faultless.shaped h.one_line
    (sym (header_then header rest n is) ∙ h.spelled)) [
      | inl at ↦ no_line_fault h.fields at.1 at.0 k (subst AreFaultless at.2 (header_faultless header n is))
          (subst (λ l. LineFault h.fields l k) at.3 h.faulty)
      | inr at ↦ after_end is.fields h.fields (decimal n) rest h.line h.after k is.once h.one_line h.faulty at.0 at.1
          at.2 at.3
    ]

whole_not_long : (header rest : List ℕ) (n : ℕ) → IsHeader header n → IsTooLong (header ++ rest) → ⊥
whole_not_long header rest n is long =
    let left = take (header_limit - length header) rest in
    let cut : lines_of long.fields ++ long.part ≡ lines_of is.fields ++ (line_end ++ left) =
    sym long.spelled ∙ take_after header rest header_limit is.short ∙ header_then header left n is in
    elim (located long.fields is.fields long.part [] left long.faultless.shaped is.shaped empty_one_line cut) [
      | inl at ↦ text_not_empty at.0 (is_field_at is.fields at.1 at.0
          (subst (AllByRecursion IsField) at.2 long.faultless.shaped)) at.3
      | inr at ↦ none_inside at.0 long.part [] left long.incomplete at.3
    ]

-- where a lawful header part stands in front no fault does
pub no_fault_whole : (header rest : List ℕ) (n : ℕ) (k : FramingFault) → IsHeader header n → FaultAt (header ++ rest) k
    → ⊥
no_fault_whole header rest n k is h =
    elim (fault_cases (header ++ rest) k h)
    [ inl a ↦ whole_not_long header rest n is a.1 | inr a ↦ whole_not_faulty header rest n k is a ]

pub never_both : (bytes content rest : List ℕ) (k : FramingFault) → IsFrameInFront bytes content rest → FaultAt bytes k
    → ⊥
never_both bytes content rest k f h =
    no_fault_whole f.header (content ++ rest) (length content) k f.lawful (subst (λ b. FaultAt b k) f.spelled h)

-- ---- neither

-- after fields and a line that hasn't ended no frame stands in front
no_frame_yet : (fields : List Field) (part content rest : List ℕ) → AreFaultless fields → HasNoLineEnd part
    → IsFrameInFront (lines_of fields ++ part) content rest → ⊥
no_frame_yet fields part content rest ok none f =
    let e : lines_of fields ++ part ≡ lines_of f.lawful.fields ++ (line_end ++ (content ++ rest)) =
    f.spelled ∙ header_then f.header (content ++ rest) (length content) f.lawful in
    elim (located fields f.lawful.fields part [] (content ++ rest) ok.shaped f.lawful.shaped empty_one_line e) [
      | inl at ↦ text_not_empty at.0 (is_field_at f.lawful.fields at.1 at.0
          (subst (AllByRecursion IsField) at.2 ok.shaped)) at.3
      | inr at ↦ none_inside at.0 part [] (content ++ rest) none at.3
    ]

-- faultless fields and a line that hasn't ended, below the limit: more has to come
pub open_part : (bytes : List ℕ) (fields : List Field) (part : List ℕ) → AreFaultless fields → HasNoLineEnd part
    → bytes ≡ lines_of fields ++ part → length bytes < header_limit → IsOpen bytes
open_part bytes fields part ok none e short =
    record {
      no_frame = λ content rest f. no_frame_yet fields part content rest ok none (subst (λ b. IsFrameInFront b
          content rest) e f);
      no_fault = grind (arith, common_steps, fault_cases, no_faulty_line);
    }

-- after a whole header part there are too few bytes: more has to come
pub open_short : (header part : List ℕ) (n : ℕ) → IsHeader header n → length part < n → IsOpen (header ++ part)
open_short header part n is few = record {
  no_frame = λ content rest f.
      let same = same_header header f.header part (content ++ rest) n (length content) is f.lawful f.spelled in
      let l = ap length same.1 in let b = length-append content rest in let s = same.0 in omega (arith, few, l, b, s);
  no_fault = λ k h. no_fault_whole header part n k is h;
}

-- ---- streams

-- the frames of a stream and those of its rest are the frames of the whole
pub frames_join : (a b c : List ℕ) (cs ds : List (List ℕ)) → Frames a cs b → Frames b ds c → Frames a (cs ++ ds) c
frames_join a b c [] ds h k = subst (λ x. Frames x ds c) (sym h) k
frames_join a b c (content ∷ cs) ds h k = (h.0, h.1, frames_join h.0 b c cs ds h.2 k)

-- ---- what is written

digit_printable : (c : ℕ) → IsInRange 48 57 c → is_value_byte c ≡ true
digit_printable c h = let low = h.0 in let high = h.1 in grind (arith, nat_tests)

digits_printable : (ds : List ℕ) → AllDigits 10 ds → list_all is_value_byte ds ≡ true
digits_printable [] h = refl
digits_printable (c ∷ cs) h = grind (arith, common_steps, digit_printable, digit_from_value, digits_printable cs h.1)

abbrev length_field_of : ℕ → Field
length_field_of n = record { name = codes "Content-Length"; value = decimal n }

abbrev header_of : ℕ → List ℕ
header_of n = lines_of (length_field_of n ∷ []) ++ line_end

header_lawful : (n : ℕ) → n ≤ content_limit → IsHeader (header_of n) n
header_lawful n small =
    let numeral = decimal_is_IsNumeral n (omega (arith, small)) in
    let few = length-decimal-le 7 n (omega arith) (omega (arith, small)) (omega (arith, small)) in
    record {
      fields = length_field_of n ∷ [];
      shaped = (record { named = omega arith; name = refl; value = digits_printable (decimal n) numeral.0.1 }, tt);
      spelled = refl;
      once = refl;
      allowed = small;
      short = let e : header_of n ≡ codes "Content-Length: " ++ (decimal n ++ (line_end ++ line_end)) =
          simp append_assoc in subst (λ h. length h ≤ header_limit) (sym e)
          (omega (arith, few, length-append (decimal n) (line_end ++ line_end)));
    }

-- what is written is read again
pub read_again : (content after : List ℕ) → length content ≤ content_limit
    → IsFrameInFront (frame_of content ++ after) content after
read_again content after small = record {
  header = header_of (length content);
  lawful = header_lawful (length content) small;
  spelled = simp append_assoc;
}

-- ---- a header part that was read

-- a whole header part with its content is a frame in front
pub frame_here : (rest : List ℕ) (size n : ℕ) → IsHeader (take size rest) n → size + n ≤ length rest
    → IsFrameInFront rest (take (size + n - size) (drop size rest)) (drop (size + n) rest)
frame_here rest size n is fits =
    let e : size + n - size ≡ n = omega arith in
    let long : length (take n (drop size rest)) ≡ n = length-take-le n (drop size rest)
    (omega (arith, length-drop size rest)) in
    rw e (record {
      header = take size rest;
      lawful = rw long is;
      spelled =
          cc (take-append-drop size rest, take-append-drop n (drop size rest), drop-drop n size rest);
    })

-- and without it more has to come
pub short_here : (rest : List ℕ) (size n : ℕ) → IsHeader (take size rest) n → size ≤ length rest
    → length rest < size + n → IsOpen rest
short_here rest size n is there few =
    subst IsOpen (take-append-drop size rest)
    (open_short (take size rest) (drop size rest) n is (omega (arith, length-drop size rest, there, few)))
