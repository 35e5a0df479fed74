use Rattle.std.proofs.Common.{◌∙◌, bytes_eq, string_bytes, ap}
use Rattle.dbg_plan.specs.Breakpoints.{text_condition}
use Rattle.dbg_plan.proofs.SameTexts.{same_condition, told}
use Rattle.dbg_plan.proofs.same.same_condition.Goals as goal

pub returns-in-Some-Some : goal.returns-in-Some-Some
returns-in-Some-Some c =
    let l = c.in-Some-Some.left in
    let r = c.in-Some-Some.right in
    told text_condition (λ t. t.text) l r (same_condition l r) c.args.left.now c.args.right.now c.in-Some-Some.is-0
    c.in-Some-Some.is-1 c.eq.result (c.eq.ensures
    ∙ ap (λ t. bytes_eq t c.as_str-in-Some-Some.result.now) c.as_str.ensures.value
    ∙ ap (λ t. bytes_eq (string_bytes l.text) t) c.as_str-in-Some-Some.ensures.value)
