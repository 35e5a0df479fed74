use Rattle.dap_frame.proofs.Common.{AllDigits, ap, arith, digits_value, eq-eqb, eqb-true, false, get_or, IsLength, length, length-take, ltb-true, nat_eq, subst, sym, take, take_all, true, ◌<◌, ◌∙◌, ◌≡◌}
use Rattle.std.proofs.lemmas.Bool.Decides.{nat_tests}
use Rattle.std.proofs.lemmas.Int.Digits.{digits_more}
use Rattle.dap_frame.proofs.Lengths.{shaped, shaped_digit, length_from_digits, digits_small, number_more}
use Rattle.dap_frame.proofs.field.length_of.Goals as goal
use Rattle.dap_frame.proofs.field.length_of.Goals.{then-is_empty-via-then-is_empty, then-is_empty-via-else-is_empty+then-value-gt7, then-is_empty-via-else-is_empty+else-value-gt7+then-value-eq48, then-value-gt1, else-value-gt1}

pub returns-then-is_empty-clause-none : goal.returns-then-is_empty-clause-none
returns-then-is_empty-clause-none c = λ n is.
    let s = shaped c.args.value.now n is in
    elim c.then-is_empty.branch [
      | then-is_empty-via-then-is_empty w ↦ let none : length c.args.value.now ≡ 0 =
          eqb-true (length c.args.value.now) 0 (sym c.is_empty.ensures ∙ w.if-is_empty.true) in omega
          (arith, none, s.some)
      | then-is_empty-via-else-is_empty+then-value-gt7 w ↦ omega (arith, s.short)
      | then-is_empty-via-else-is_empty+else-value-gt7+then-value-eq48 w ↦ elim w.if-value-gt1.branch [
        | then-value-gt1 v ↦
            let one = s.no_zero (eqb-true (get_or c.args.value.now 0 0) 48 (sym v.value-is ∙ w.if-value-eq48.true)) in
            let more = v.if-value-gt1.true in
            omega (arith, one, more)
        | else-value-gt1 v ↦ let one =
            v.if-value-gt1.false in let more = ltb-true 1 (length c.args.value.now)
            (sym v.value-is ∙ w.if-value-eq48.true) in omega (arith, one, more)
      ]
    ]

pub returns-then-not-is_ascii_digit-clause-none : goal.returns-then-not-is_ascii_digit-clause-none
returns-then-not-is_ascii_digit-clause-none c = λ n is.
    let d = shaped_digit c.args.value.now n c.loop-x.x-index is (omega arith) in
    let h = c.if-not-is_ascii_digit.ensures in grind (arith, h.cases, d)

pub overflow_mul-n : goal.overflow_mul-n
overflow_mul-n c =
    let small =
    digits_small (take c.loop-x.x-index c.args.value.now) c.loop-x.invariant.digits
    (omega (arith, length-take c.loop-x.x-index c.args.value.now)) in
    omega (arith, small, c.loop-x.invariant.number)

pub overflow_add-n : goal.overflow_add-n
overflow_add-n c =
    let small =
    digits_small (take c.loop-x.x-index c.args.value.now) c.loop-x.invariant.digits
    (omega (arith, length-take c.loop-x.x-index c.args.value.now)) in
    let digit = c.if-not-is_ascii_digit.ensures.cases in
    omega (arith, small, c.loop-x.invariant.number, digit.0, digit.1)

pub loop-x-preserved : goal.loop-x-preserved
loop-x-preserved c =
    let h = c.if-not-is_ascii_digit.ensures in
    record {
      digits = digits_more 10 c.args.value.now c.loop-x.x-index (omega arith) c.loop-x.invariant.digits h.bound;
      number = number_more c.args.value.now c.loop-x.x-index c.loop-x.n (omega arith) h.cases.0 h.cases.1
          c.loop-x.invariant.number;
    }

pub returns-clause-found : goal.returns-clause-found
returns-clause-found c =
    let value = c.args.value.now in
    let all : take c.loop-x.x-index value ≡ value = take_all c.loop-x.x-index value (omega arith) in
    let number : c.loop-x.n ≡ digits_value 10 value = c.loop-x.invariant.number ∙ ap (digits_value 10) all in
    let some : 0 < length value =
    let e : nat_eq (length value) 0 ≡ false = sym c.is_empty.ensures
    ∙ c.if-is_empty.false in grind (arith, nat_tests) in
    let no_zero : get_or value 0 0 ≡ 48 → length value ≡ 1 = λ z.
    elim c.if-value-gt1.branch [
      | then-value-gt1 v ↦ absurd (let e : true ≡ false = sym (eq-eqb (get_or value 0 0) 48 z) ∙ sym v.value-is
          ∙ c.if-value-eq48.false in cc)
      | else-value-gt1 v ↦ let one = v.if-value-gt1.false in omega (arith, one, some)
    ] in
    subst (IsLength value) (sym number) (length_from_digits value
    (record {
      some = some;
      short = omega arith;
      no_zero = no_zero;
      digits = subst (AllDigits 10) all
          c.loop-x.invariant.digits;
    }))
