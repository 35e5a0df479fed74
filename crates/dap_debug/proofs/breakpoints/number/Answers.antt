use Rattle.std.proofs.Common.{arith}
use Rattle.std.proofs.lemmas.Bool.Decides.{not_from_Decides}
use Rattle.std.proofs.lemmas.Str.Pattern.{starts_char}
use Rattle.dap_debug.proofs.Texts.{decimal_of, not_begun_with, does_parse}
use Rattle.dap_debug.proofs.breakpoints.number.Goals as goal
use Rattle.dap_debug.proofs.breakpoints.number.Goals.{then-starts_with-via-then-starts_with, then-starts_with-via-else-starts_with+then-starts_with-2}

pub returns-then-starts_with-clause-none : goal.returns-then-starts_with-clause-none
returns-then-starts_with-clause-none c = λ n fits is. elim c.then-starts_with.branch [
  | then-starts_with-via-then-starts_with w ↦ not_begun_with c.args.text.now n 48 _ (omega arith) fits is
      (starts_char 48 _ _ c.starts_with.ensures.cases (omega arith) (omega arith)) w.if-starts_with.true
  | then-starts_with-via-else-starts_with+then-starts_with-2 w ↦ not_begun_with c.args.text.now n 43 _ (omega arith)
      fits is (starts_char 43 _ _ w.starts_with-else-starts_with.ensures.cases (omega arith) (omega arith))
      w.if-starts_with-2.true
]

pub returns-in-Ok-clause-number : goal.returns-in-Ok-clause-number
returns-in-Ok-clause-number c =
    let text = c.args.text.now in
    let is = decimal_of text c.in-Ok.number c.in-Ok.ensures.value.0
    (not_from_Decides _ (starts_char 48 text _ c.starts_with.ensures.cases (omega arith) (omega arith))
    c.if-starts_with.false) (not_from_Decides _
    (starts_char 43 text _ c.starts_with-else-starts_with.ensures.cases (omega arith) (omega arith))
    c.if-starts_with-2.false) in
    (is.0, (is.1, omega arith))

pub returns-in-Err-clause-none : goal.returns-in-Err-clause-none
returns-in-Err-clause-none c = λ n fits is. does_parse c.args.text.now n fits is c.in-Err.ensures.value.0
