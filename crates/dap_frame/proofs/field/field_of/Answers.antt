use Rattle.dap_frame.proofs.Common.{ap, arith, drop, eqb-true, false, is_name_byte, is_value_byte, length, List, list_all, sym, true, ℕ, ◌∙◌, ◌≡◌}
use Rattle.dap_frame.proofs.Fields.{no_colon, at_colon, no_prefix}
use Rattle.dap_frame.proofs.field.field_of.Goals as goal
use Rattle.dap_frame.proofs.field.field_of.Goals.{else-not-is_empty-via-then-not-is_empty+then-is_name+else-is_value, else-not-is_empty-via-then-not-is_empty+else-is_name, else-not-is_empty-via-else-not-is_empty}

pub returns-in_err-memchr-clause-none : goal.returns-in_err-memchr-clause-none
returns-in_err-memchr-clause-none c =
    rw c.from_residual.ensures (λ f is e. no_colon c.args.line.now f e c.in_err-memchr.ensures)

pub returns-in_err-value-clause-none : goal.returns-in_err-value-clause-none
returns-in_err-value-clause-none c = rw c.from_residual-in_err-value.ensures (λ f is e.
    let first = c.in_ok-memchr.ensures in
    let cut = at_colon c.args.line.now f c.in_ok-memchr.field-0 is e first.0 first.1 in
    no_prefix c.split_at.result.1.now c.as_slice.result.now f (c.split_at.ensures.back ∙ cut.1) c.as_slice.ensures
    c.in_err-value.ensures.cases)

pub returns-else-not-is_empty-clause-none : goal.returns-else-not-is_empty-clause-none
returns-else-not-is_empty-clause-none c = λ f is e.
    let first = c.in_ok-memchr.ensures in
    let cut = at_colon c.args.line.now f c.in_ok-memchr.field-0 is e first.0 first.1 in
    let name : c.split_at.result.0.now ≡ f.name = c.split_at.ensures.front ∙ cut.0 in
    let value : c.in_ok-value.value.now ≡ f.value =
    c.in_ok-value.ensures.cases.1 ∙ ap (λ (p : List ℕ). drop (length p) c.split_at.result.1.now) c.as_slice.ensures
    ∙ ap (drop 2) (c.split_at.ensures.back ∙ cut.1) in
    elim c.else-not-is_empty.branch [
      | else-not-is_empty-via-then-not-is_empty+then-is_name+else-is_value w ↦ absurd
          (let h : false ≡ true = sym w.if-is_value.false ∙ w.is_value.ensures ∙ ap (list_all is_value_byte) value
          ∙ is.value in cc)
      | else-not-is_empty-via-then-not-is_empty+else-is_name w ↦ absurd
          (let h : false ≡ true = sym w.if-is_name.false ∙ w.is_name.ensures ∙ ap (list_all is_name_byte) name
          ∙ is.name in cc)
      | else-not-is_empty-via-else-not-is_empty w ↦ let none : length c.split_at.result.0.now ≡ 0 =
          eqb-true (length c.split_at.result.0.now) 0 (sym c.is_empty.ensures ∙ w.if-not-is_empty.false) in omega
          (arith, none, is.named, ap length name)
    ]
