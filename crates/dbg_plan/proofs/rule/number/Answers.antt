use Rattle.std.proofs.Common.{arith}
use Rattle.std.proofs.lemmas.Bool.Decides.{not_from_Decides}
use Rattle.std.proofs.lemmas.Str.Pattern.{starts_char}
use Rattle.dbg_plan.proofs.HitNumbers.{decimal_of, not_begun_with, parses_to, does_parse}
use Rattle.dbg_plan.proofs.rule.number.Goals as goal
use Rattle.dbg_plan.proofs.rule.number.Goals.{then-starts_with-via-then-starts_with, then-starts_with-via-else-starts_with+then-starts_with-2}

pub returns-then-starts_with-clause-none : goal.returns-then-starts_with-clause-none
returns-then-starts_with-clause-none c = λ k some fits is. elim c.then-starts_with.branch [
  | then-starts_with-via-then-starts_with w ↦ not_begun_with c.args.text.now k 48 _ (omega arith) some fits is
      (starts_char 48 _ _ c.starts_with.ensures.cases (omega arith) (omega arith)) w.if-starts_with.true
  | then-starts_with-via-else-starts_with+then-starts_with-2 w ↦ not_begun_with c.args.text.now k 43 _ (omega arith)
      some fits is (starts_char 43 _ _ w.starts_with-else-starts_with.ensures.cases (omega arith) (omega arith))
      w.if-starts_with-2.true
]

pub returns-in-Ok-clause-number : goal.returns-in-Ok-clause-number
returns-in-Ok-clause-number c =
    let text = c.args.text.now in
    let low = c.if-k-le-GREATEST.true in
    let is = decimal_of text c.in-Ok.k c.in-Ok.ensures.value.0
    (not_from_Decides _ (starts_char 48 text _ c.starts_with.ensures.cases (omega arith) (omega arith))
    c.if-starts_with.false) (not_from_Decides _
    (starts_char 43 text _ c.starts_with-else-starts_with.ensures.cases (omega arith) (omega arith))
    c.if-starts_with-2.false) in
    (is.0, is.1, omega arith)

pub returns-in_default-clause-none : goal.returns-in_default-clause-none
returns-in_default-clause-none c = λ k some fits is.
    let high = c.if-k-le-GREATEST.false in
    let same = parses_to c.args.text.now k c.in-Ok.k fits is c.in-Ok.ensures.value.0 in
    absurd (omega arith)

pub returns-in_default-2-clause-none : goal.returns-in_default-2-clause-none
returns-in_default-2-clause-none c = λ k some fits is. does_parse c.args.text.now k fits is c.in_default.ensures.value.0
