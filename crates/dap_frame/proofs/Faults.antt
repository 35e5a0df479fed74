-- Where a fault stands: after faultless fields, in a line that is none of them.
use Rattle.dap_frame.proofs.Common.{[], AllByRecursion, ap, append-nil, append_assoc, AreFaultless, arith, BadField, BadLength, Bool, content_limit, decimal, decimal_injective, FaultAt, Field, field_text, filter, FramingFault, HasFaultyLine, HasNoLineEnd, header_limit, HeaderTooLong, inl, inr, is_length, IsField, IsTooLong, length, length-append, length_values, line_end, line_of, LineFault, lines_of, List, map-append, NoLength, NoMemory, refl, subst, sym, take, TooLarge, true, TwoLengths, ℕ, ◌++◌, ◌+◌, ◌-◌, ◌∙◌, ◌∷◌, ◌≡◌, ◌≤◌, ◌⊎◌}
use Rattle.std.proofs.Math.Seq.{take-append-add}
use Rattle.std.proofs.lemmas.List.Elements.{filter-append}
use Rattle.dap_frame.proofs.Lines.{same_line, same_field, field_one_line, text_not_empty}
use Rattle.dap_frame.proofs.Located.{line_then, located, none_inside, is_field_at}
use Rattle.std.proofs.lemmas.Grind.{common_steps}

pub length_values-append : (fs gs : List Field) → length_values (fs ++ gs) ≡ length_values fs ++ length_values gs
length_values-append fs gs =
    cc (filter-append is_length fs gs, map-append (λ field. field.value) (filter is_length fs) (filter is_length gs))

length_values-one : (f : Field) (more : List Field) (b : Bool) → is_length f ≡ b → b ≡ true
    → length_values (f ∷ more) ≡ f.value ∷ length_values more
length_values-one f more b e t = let is : is_length f ≡ true = e ∙ t in rw is refl

-- what the length fields are where one of them stands between others
pub length_values_at : (gs more : List Field) (f : Field) → is_length f ≡ true
    → length_values (gs ++ f ∷ more) ≡ length_values gs ++ (f.value ∷ length_values more)
length_values_at gs more f e = cc (length_values-append gs (f ∷ more), length_values-one f more true e refl)

-- one of several is the only one: none stands before it
alone : (xs : List (List ℕ)) (x d : List ℕ) (ys : List (List ℕ)) → xs ++ (x ∷ ys) ≡ d ∷ [] → (xs ≡ []) × (x ≡ d)
alone [] x d ys e = (refl, cc)
alone (y ∷ []) x d ys e = absurd cc
alone (y ∷ z ∷ xs) x d ys e = absurd cc

-- the length field among faultless fields is the only one, and names an allowed length
length_field : (gs more : List Field) (f : Field) → AreFaultless (gs ++ f ∷ more) → is_length f ≡ true
    → (length_values gs ≡ []) × ((n : ℕ) × (n ≤ content_limit) × (f.value ≡ decimal n))
length_field gs more f ok e = elim ok.lengths [
  | inl none ↦ absurd (let h : length_values gs ++ (f.value ∷ length_values more) ≡ [] = sym
      (length_values_at gs more f e) ∙ none in let l = ap length h in let s = length-append (length_values gs)
      (f.value ∷ length_values more) in omega (arith, l, s))
  | inr one ↦ let h =
      alone (length_values gs) f.value (decimal one.0) (length_values more) (sym (length_values_at gs more f e) ∙ one.2)
      in (h.0, (one.0, one.1, h.1))
]

-- a line that is one of faultless fields has no fault
pub no_line_fault : (gs more : List Field) (f : Field) (k : FramingFault) → AreFaultless (gs ++ f ∷ more)
    → LineFault gs (field_text f) k → ⊥
no_line_fault gs more f BadField ok bad = bad.1 f (is_field_at gs more f ok.shaped) refl
no_line_fault gs more f NoLength ok bad = text_not_empty f (is_field_at gs more f ok.shaped) (sym bad.0)
no_line_fault gs more f TwoLengths ok (g, is, same, e, some) =
    let one : f ≡ g = same_field f g (is_field_at gs more f ok.shaped) is same in
    some (length_field gs more f ok (ap is_length one ∙ e)).0
no_line_fault gs more f BadLength ok (g, is, same, e, none, never) =
    let one : f ≡ g = same_field f g (is_field_at gs more f ok.shaped) is same in
    grind (arith, common_steps, length_field)
no_line_fault gs more f TooLarge ok (g, is, same, e, none, (n, long, large)) =
    let one : f ≡ g = same_field f g (is_field_at gs more f ok.shaped) is same in
    grind (arith, common_steps, length_field, decimal_injective)
no_line_fault gs more f _ ok bad = bad

-- the empty line after fields that name a length has no fault
pub no_end_fault : (fields : List Field) (d : List ℕ) (k : FramingFault) → length_values fields ≡ d ∷ []
    → LineFault fields [] k → ⊥
no_end_fault fields d BadField once bad = bad.0 refl
no_end_fault fields d NoLength once bad = let none = bad.1 in absurd cc
no_end_fault fields d TwoLengths once (g, is, same, e, some) = text_not_empty g is same
no_end_fault fields d BadLength once (g, is, same, e, none, never) = text_not_empty g is same
no_end_fault fields d TooLarge once (g, is, same, e, none, never) = text_not_empty g is same
no_end_fault fields d _ once bad = bad

-- a line after the same fields has one fault
pub one_line_fault : (fields : List Field) (line : List ℕ) (j k : FramingFault) → LineFault fields line j
    → LineFault fields line k → j ≡ k
one_line_fault fields line HeaderTooLong k h b = absurd h
one_line_fault fields line NoMemory k h b = absurd h
one_line_fault fields line BadField NoMemory h b = absurd b
one_line_fault fields line BadField BadField h b = refl
one_line_fault fields line BadField NoLength h b = absurd (h.0 b.0)
one_line_fault fields line BadField TwoLengths h b = absurd (h.1 b.0 b.1 b.2)
one_line_fault fields line BadField BadLength h b = absurd (h.1 b.0 b.1 b.2)
one_line_fault fields line BadField TooLarge h b = absurd (h.1 b.0 b.1 b.2)
one_line_fault fields line NoLength NoMemory h b = absurd b
one_line_fault fields line NoLength BadField h b = absurd (b.0 h.0)
one_line_fault fields line NoLength NoLength h b = refl
one_line_fault fields line NoLength TwoLengths h b = absurd (text_not_empty b.0 b.1 (sym h.0 ∙ b.2))
one_line_fault fields line NoLength BadLength h b = absurd (text_not_empty b.0 b.1 (sym h.0 ∙ b.2))
one_line_fault fields line NoLength TooLarge h b = absurd (text_not_empty b.0 b.1 (sym h.0 ∙ b.2))
one_line_fault fields line TwoLengths NoMemory h b = absurd b
one_line_fault fields line TwoLengths BadField h b = absurd (b.1 h.0 h.1 h.2)
one_line_fault fields line TwoLengths NoLength h b = absurd (text_not_empty h.0 h.1 (sym b.0 ∙ h.2))
one_line_fault fields line TwoLengths TwoLengths h b = refl
one_line_fault fields line TwoLengths BadLength h b = absurd (h.4 b.4)
one_line_fault fields line TwoLengths TooLarge h b = absurd (h.4 b.4)
one_line_fault fields line BadLength NoMemory h b = absurd b
one_line_fault fields line BadLength BadField h b = absurd (b.1 h.0 h.1 h.2)
one_line_fault fields line BadLength NoLength h b = absurd (text_not_empty h.0 h.1 (sym b.0 ∙ h.2))
one_line_fault fields line BadLength TwoLengths h b = absurd (b.4 h.4)
one_line_fault fields line BadLength BadLength h b = refl
one_line_fault fields line BadLength TooLarge h b =
    let same : b.0 ≡ h.0 = same_field b.0 h.0 b.1 h.1 (sym b.2 ∙ h.2) in
    absurd (h.5 b.5.0 (sym (ap (λ f. f.value) same) ∙ b.5.1.0, b.5.1.1))
one_line_fault fields line TooLarge NoMemory h b = absurd b
one_line_fault fields line TooLarge BadField h b = absurd (b.1 h.0 h.1 h.2)
one_line_fault fields line TooLarge NoLength h b = absurd (text_not_empty h.0 h.1 (sym b.0 ∙ h.2))
one_line_fault fields line TooLarge TwoLengths h b = absurd (b.4 h.4)
one_line_fault fields line TooLarge BadLength h b =
    let same : h.0 ≡ b.0 = same_field h.0 b.0 h.1 b.1 (sym h.2 ∙ b.2) in
    absurd (b.5 h.5.0 (sym (ap (λ f. f.value) same) ∙ h.5.1.0, h.5.1.1))
one_line_fault fields line TooLarge TooLarge h b = refl
one_line_fault fields line _ HeaderTooLong h b = absurd b

-- ---- faults of a header part

-- a fault that stands in front is a header part that is too long, or a faulty line
pub fault_cases : (bytes : List ℕ) (k : FramingFault) → FaultAt bytes k → ((k ≡ HeaderTooLong) × IsTooLong bytes)
    ⊎ HasFaultyLine bytes k
fault_cases bytes HeaderTooLong h = inl (refl, h)
fault_cases bytes NoMemory h = absurd h
fault_cases bytes _ h = inr h

pub fault_from_line : (bytes : List ℕ) (k : FramingFault) → HasFaultyLine bytes k → FaultAt bytes k
fault_from_line bytes HeaderTooLong h = absurd h.faulty
fault_from_line bytes NoMemory h = absurd h.faulty
fault_from_line bytes _ h = h

-- after faultless fields and a part in which no line ends stands no faulty line
pub no_faulty_line : (fs : List Field) (part : List ℕ) (k : FramingFault) → AreFaultless fs → HasNoLineEnd part
    → HasFaultyLine (lines_of fs ++ part) k → ⊥
no_faulty_line fs part k ok none h =
    elim (located fs h.fields part h.line h.after ok.shaped h.faultless.shaped h.one_line h.spelled) [
      | inl at ↦ no_line_fault h.fields at.1 at.0 k (subst AreFaultless at.2 ok)
          (subst (λ l. LineFault h.fields l k) at.3 h.faulty)
      | inr at ↦ none_inside at.0 part h.line h.after none at.3
    ]

-- what stands within the first n bytes is taken whole with them
pub take_after : (a b : List ℕ) (n : ℕ) → length a ≤ n → take n (a ++ b) ≡ a ++ take (n - length a) b
take_after a b n h =
    let e : n ≡ length a + (n - length a) = omega arith in ap (λ m. take m (a ++ b)) e
    ∙ take-append-add a b (n - length a)

-- nor is a header part both too long and faulty in a line
pub long_or_faulty : (bytes : List ℕ) (k : FramingFault) → IsTooLong bytes → HasFaultyLine bytes k → ⊥
long_or_faulty bytes k long h =
    let front = lines_of h.fields ++ line_of h.line in
    let cut : lines_of long.fields ++ long.part ≡ lines_of h.fields ++ (line_of h.line ++ take (header_limit - length
    front) h.after) = sym long.spelled ∙ ap (take header_limit) (h.spelled ∙ sym (append_assoc _ _ h.after)) ∙
    take_after front h.after header_limit h.within ∙ append_assoc _ _ (take (header_limit - length front) h.after) in
    elim (located long.fields h.fields long.part h.line (take (header_limit - length front) h.after)
    long.faultless.shaped h.faultless.shaped h.one_line cut) [
      | inl at ↦ no_line_fault h.fields at.1 at.0 k (subst
          AreFaultless at.2 long.faultless) (subst (λ l. LineFault h.fields l k) at.3 h.faulty)
      | inr at ↦ none_inside at.0
          long.part h.line (take (header_limit - length front) h.after) long.incomplete at.3
    ]

-- the line of one fault stands after the same fields as that of another, or is one of its fields
at_line : (bytes : List ℕ) (j k : FramingFault) (h : HasFaultyLine bytes j) (i : HasFaultyLine bytes k)
    → (more : List Field) → AllByRecursion IsField more → i.fields ≡ h.fields ++ more → line_of h.line
    ++ h.after ≡ lines_of more ++ (line_of i.line ++ i.after) → j ≡ k
at_line bytes j k h i [] are so e = grind (arith, common_steps, same_line, append_assoc, append-nil, one_line_fault)
at_line bytes j k h i (g ∷ more) are so e =
    let lines = same_line h.line _ h.after _ h.one_line (field_one_line g are.0) (sym (append_assoc h.line line_end
    h.after) ∙ e ∙ line_then _ _ _) in
    absurd (no_line_fault h.fields more g j (rw (← so) i.faultless) (rw (← lines.0) h.faulty))

one_faulty_line : (bytes : List ℕ) (j k : FramingFault) → HasFaultyLine bytes j → HasFaultyLine bytes k → j ≡ k
one_faulty_line bytes j k h i =
    elim (located h.fields i.fields (line_of h.line ++ h.after) i.line i.after h.faultless.shaped i.faultless.shaped
    i.one_line (sym h.spelled ∙ i.spelled)) [
      | inl at ↦ absurd (no_line_fault i.fields at.1 at.0 k (subst AreFaultless at.2 h.faultless)
          (subst (λ l. LineFault i.fields l k) at.3 i.faulty))
      | inr at ↦ at_line bytes j k h i at.0 at.1 at.2 at.3
    ]

-- one fault stands in front, or none
pub same_fault : (bytes : List ℕ) (j k : FramingFault) → FaultAt bytes j → FaultAt bytes k → j ≡ k
same_fault bytes j k h i = grind (arith, common_steps, fault_cases, long_or_faulty, one_faulty_line)
