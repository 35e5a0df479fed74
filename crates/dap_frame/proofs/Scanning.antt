-- One line more is read, or none is there: what is then known of the rest.
use Rattle.dap_frame.proofs.Common.{[], AllByRecursion, ap, append-nil, append_assoc, AreFaultless, arith, drop, EndsAt, FaultAt, Field, field_text, FramingFault, get_or, get_or-append-add, get_or-drop, get_or-take, HasNoEnd, HasNoLineEnd, header_limit, inl, inr, IsField, IsOpen, IsScanned, IsTooLong, length, length-append, length-drop, length-take, line_end, line_of, LineFault, lines_of, List, min, Names, None, Option, Some, subst, suc, sym, take, take-append-drop, take-take, take_all, take_more, take_rest, ℕ, ◌++◌, ◌+◌, ◌-◌, ◌<◌, ◌∙◌, ◌∷◌, ◌≡◌, ◌≢◌, ◌≤◌}
use Rattle.std.proofs.Math.Seq.{take-add}
use Rattle.std.proofs.lemmas.Grind.{flat_map-append, common_steps}
use Rattle.dap_frame.specs.declared.header.Scan.{Scan}
use Rattle.dap_frame.proofs.Faults.{fault_from_line}
use Rattle.dap_frame.proofs.Frames.{open_part}

-- ---- places and parts

-- the bytes from place j up to place m
abbrev pub part : List ℕ → ℕ → ℕ → List ℕ
part bytes j m = take (m - j) (drop j bytes)

get_or-part : (bytes : List ℕ) (j m i : ℕ) → j + i < m → get_or (part bytes j m) i 0 ≡ get_or bytes (j + i) 0
get_or-part bytes j m i h = get_or-take (m - j) (drop j bytes) i 0 (omega (arith, h)) ∙ get_or-drop j bytes i 0

-- where no line ends by places, none does in the part between them
pub no_line_end_in : (bytes : List ℕ) (j m : ℕ) → HasNoEnd bytes j m → HasNoLineEnd (part bytes j m)
no_line_end_in bytes j m none before after e =
    let i = length before in
    let l : length (part bytes j m) ≡ i + suc (suc (length after)) = ap length e ∙ length-append before (line_end ++
    after) in
    let few : length (part bytes j m) ≤ m - j = omega (arith, length-take (m - j) (drop j bytes)) in
    let cr : get_or (part bytes j m) (i + 0) 0 ≡ 13 = ap (λ x. get_or x (i + 0) 0) e ∙ get_or-append-add before
    (line_end ++ after) 0 0 in
    let lf : get_or (part bytes j m) (i + 1) 0 ≡ 10 = ap (λ x. get_or x (i + 1) 0) e ∙ get_or-append-add before
    (line_end ++ after) 1 0 in
    grind (arith, common_steps, get_or, get_or-part)

take_part : (bytes : List ℕ) (j m : ℕ) → j ≤ m → take m bytes ≡ take j bytes ++ part bytes j m
take_part bytes j m h = let e : m ≡ j + (m - j) = omega arith in ap (λ k. take k bytes) e ∙ take-add j (m - j) bytes

-- a line with its end
line_here : (bytes : List ℕ) (j end : ℕ) → j ≤ end → end + 1 < length bytes → EndsAt bytes end
    → take (end + 2) bytes ≡ take j bytes ++ line_of (part bytes j end)
line_here bytes j end h l ends =
    let two : end + 2 ≡ end + 1 + 1 = omega arith in
    ap (λ k. take k bytes) two ∙ take_more bytes (end + 1) 0 l ∙ ap (λ x. take (end + 1) bytes ++ (x ∷ [])) ends.1
    ∙ ap (λ x. x ++ (10 ∷ [])) (take_more bytes end 0 (omega (arith, l)) ∙ ap (λ x. take end bytes ++ (x ∷ [])) ends.0
    ∙ ap (λ x. x ++ (13 ∷ [])) (take_part bytes j end h))
    ∙ append_assoc (take j bytes ++ part bytes j end) (13 ∷ []) (10 ∷ [])
    ∙ append_assoc (take j bytes) (part bytes j end) line_end

-- a line and its CR hold no end of a line
one_line_here : (bytes : List ℕ) (j end : ℕ) → j ≤ end → end + 1 < length bytes → EndsAt bytes end
    → HasNoEnd bytes j (end + 1) → HasNoLineEnd (part bytes j end ++ 13 ∷ [])
one_line_here bytes j end h l ends none =
    let k : end - j + 1 ≡ end + 1 - j = omega arith in
    let more : part bytes j (end + 1) ≡ part bytes j end ++ 13 ∷ [] = ap (λ n. take n (drop j bytes)) (sym k) ∙
    take_more (drop j bytes) (end - j) 0 (omega (arith, length-drop j bytes)) ∙ ap (λ x. part bytes j end ++ (x ∷ []))
    (get_or-drop j bytes (end - j) 0 ∙ (let e : j + (end - j) ≡ end = omega arith in
    cc) ∙ ends.0) in
    rw (← more) (no_line_end_in bytes j (end + 1) none)

-- ---- one line more

pub faultless : (fields : List Field) (named : Option ℕ) → AllByRecursion IsField fields → Names fields named
    → AreFaultless fields
faultless fields None h names = record { shaped = h; lengths = inl names }
faultless fields (Some n) h names = record { shaped = h; lengths = inr (n, names.0, names.1) }

pub all_fields_more : (fields : List Field) (f : Field) → AllByRecursion IsField fields → IsField f
    → AllByRecursion IsField (fields ++ f ∷ [])
all_fields_more [] f h is = (is, tt)
all_fields_more (g ∷ gs) f h is = (h.0, all_fields_more gs f h.1 is)

pub lines_of_more : (fields : List Field) (f : Field) → lines_of (fields ++ f ∷ []) ≡ lines_of fields
    ++ line_of (field_text f)
lines_of_more fields f = cc (flat_map-append (λ g. line_of (field_text g)) fields _, append-nil _)

-- what the search for the end of the next line found
pub record IsNextEnd (bytes : List ℕ) (j end : ℕ) : Type 0 where
  pub from : j ≤ end
  pub there : end + 1 < length bytes
  pub ends : EndsAt bytes end
  pub first : HasNoEnd bytes j (end + 1)

-- the next line is a field: it is among those that were judged
pub scan_more : (bytes : List ℕ) (scan : Scan) (is : IsScanned scan bytes) (end : ℕ) (next : Option ℕ)
    → length bytes ≤ header_limit → IsNextEnd bytes scan.judged end
    → (f : Field) → IsField f → part bytes scan.judged end ≡ field_text f → Names (is.fields ++ f ∷ []) next
    → IsScanned (record { judged = end + 2; searched = end + 2; named = next }) bytes
scan_more bytes scan is end next small at f shape line names =
    grind (arith, common_steps, all_fields_more, line_here, lines_of_more)

-- the next line is faulty
pub faulty_here : (rest : List ℕ) (size : ℕ) (scan : Scan) (is : IsScanned scan (take size rest)) (end : ℕ)
    (fault : FramingFault) → size ≤ header_limit → IsNextEnd (take size rest) scan.judged end
    → LineFault is.fields (part (take size rest) scan.judged end) fault → FaultAt rest fault
faulty_here rest size scan is end fault small at bad =
    let bytes = take size rest in
    let line = part bytes scan.judged end in
    let l = at.there in
    let few = length-take size rest in
    let front : take (end + 2) bytes ≡ lines_of is.fields ++ line_of line =
    line_here bytes scan.judged end at.from at.there at.ends ∙ ap (λ x. x ++ line_of line) is.spelled in
    let whole : take (end + 2) rest ≡ lines_of is.fields ++ line_of line =
    sym (take-take (end + 2) size rest (omega (arith, l, few))) ∙ front in
    let long : length (lines_of is.fields ++ line_of line) ≤ header_limit =
    subst (λ x. length x ≤ header_limit) front (omega (arith, length-take (end + 2) bytes, l, few, small)) in
    fault_from_line rest fault (record {
      fields = is.fields;
      line = line;
      after = drop (end + 2) rest;
      faultless = faultless is.fields scan.named is.shaped is.names;
      spelled =
          sym (take-append-drop (end + 2) rest) ∙ ap (λ x. x ++ drop (end + 2) rest) whole
          ∙ append_assoc (lines_of is.fields) (line_of line) (drop (end + 2) rest);
      one_line = one_line_here bytes scan.judged end at.from at.there at.ends at.first;
      within = long;
      faulty = bad;
    })

-- ---- no line more

part_to_end : (bytes : List ℕ) (j : ℕ) → part bytes j (length bytes) ≡ drop j bytes
part_to_end bytes j = take_rest bytes j

cut_at : (bytes : List ℕ) (scan : Scan) (is : IsScanned scan bytes) → bytes ≡ lines_of is.fields
    ++ drop scan.judged bytes
cut_at bytes scan is = sym (take-append-drop scan.judged bytes) ∙ ap (λ x. x ++ drop scan.judged bytes) is.spelled

no_line_end_left : (bytes : List ℕ) (j : ℕ) → HasNoEnd bytes j (length bytes) → HasNoLineEnd (drop j bytes)
no_line_end_left bytes j none = subst HasNoLineEnd (part_to_end bytes j) (no_line_end_in bytes j (length bytes) none)

-- no line ends in as many bytes as a header part may have
pub too_long_here : (rest : List ℕ) (size : ℕ) (scan : Scan) → IsScanned scan (take size rest) → size ≤ header_limit
    → length (take size rest) ≡ header_limit
    → HasNoEnd (take size rest) scan.judged (length (take size rest)) → IsTooLong rest
too_long_here rest size scan is small full none =
    let few = length-take size rest in
    let e : size ≡ header_limit = omega (arith, few, small, full) in
    record {
      fields = is.fields;
      part = drop scan.judged (take size rest);
      faultless = faultless is.fields scan.named is.shaped is.names;
      there = omega (arith, few, full);
      spelled = ap (λ n. take n rest) (sym e) ∙ cut_at (take size rest) scan is;
      incomplete = no_line_end_left (take size rest) scan.judged none;
    }

-- no line ends in fewer: more has to come
pub open_here : (rest : List ℕ) (size : ℕ) (scan : Scan) → IsScanned scan (take size rest)
    → size ≡ min (length rest) header_limit → length (take size rest) ≢ header_limit
    → HasNoEnd (take size rest) scan.judged (length (take size rest))
    → IsScanned (record { judged = scan.judged; searched = length (take size rest); named = scan.named }) rest
    × (length (take size rest) ≡ length rest) × IsOpen rest
open_here rest size scan is e open_ none =
    let few = length-take size rest in
    let short : length rest < header_limit = omega (arith, e, few, open_) in
    let whole : take size rest ≡ rest = take_all size rest (omega (arith, e, short)) in
    let so : IsScanned scan rest = subst (IsScanned scan) whole is in
    let clear : HasNoEnd rest scan.judged (length rest) = subst (λ b. HasNoEnd b scan.judged (length b)) whole none in
    let l : length (take size rest) ≡ length rest = ap length whole in
    let order = so.in_order in
    let there = so.there in (
      record {
        fields = so.fields;
        shaped = so.shaped;
        names = so.names;
        spelled = so.spelled;
        in_order = omega (arith, l, order, there);
        there = omega (arith, l);
        within = omega (arith, l, short);
        no_end = subst (HasNoEnd rest scan.judged) (sym l) clear;
      },
      l,
      open_part rest so.fields (drop scan.judged rest) (faultless so.fields scan.named so.shaped so.names)
          (no_line_end_left rest scan.judged clear) (cut_at rest scan so) short,
    )
