use Rattle.std.proofs.Common.{◌++◌, ◌∷◌, ◌∙◌, ap, arith, Some, None, inl, inr}
use Rattle.std.proofs.lemmas.Str.Pattern.{split_parts}
use Rattle.dap_debug.proofs.Texts.{lacks}
use Rattle.dap_debug.proofs.breakpoints.split_expression.Goals as goal

pub returns-in-Some-split_once-clause-some : goal.returns-in-Some-split_once-clause-some
returns-in-Some-split_once-clause-some c =
    let outer =
    split_parts 123 c.args.text.now (Some (c.in-Some.before, c.in-Some.opened)) c.in-Some.ensures.cases (omega arith)
    in
    let closed =
    split_parts 125 c.in-Some.opened.now (Some (c.in-Some-split_once.inner, c.in-Some-split_once.rest))
    c.in-Some-split_once.ensures.cases (omega arith) in (
      outer.0 ∙ ap (λ l. c.in-Some.before.now ++ 123 ∷ l) closed.0,
      lacks 123 c.in-Some.before.now outer.1,
      lacks 125 c.in-Some-split_once.inner.now closed.1,
    )

pub returns-in-None-split_once-clause-none : goal.returns-in-None-split_once-clause-none
returns-in-None-split_once-clause-none c =
    let outer =
    split_parts 123 c.args.text.now (Some (c.in-Some.before, c.in-Some.opened)) c.in-Some.ensures.cases (omega arith)
    in
    let none = split_parts 125 c.in-Some.opened.now None c.in-None-split_once.ensures.cases (omega arith) in
    inr (
      c.in-Some.before.now,
      c.in-Some.opened.now,
      outer.0,
      lacks 123 c.in-Some.before.now outer.1,
      lacks 125 c.in-Some.opened.now none,
    )

pub returns-in-None-clause-none : goal.returns-in-None-clause-none
returns-in-None-clause-none c =
    inl (lacks 123 c.args.text.now (split_parts 123 c.args.text.now None c.in-None.ensures.cases (omega arith)))
