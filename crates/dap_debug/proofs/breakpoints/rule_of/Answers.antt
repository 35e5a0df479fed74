use Rattle.std.proofs.Common.{◌≡◌, Option, arith, IfNone, Some, None, subst, sym}
use Rattle.std.proofs.lemmas.Str.Pattern.{strip_prefix_char}
use Rattle.dap_debug.proofs.Texts.{no_divisor, no_only, no_number, not_empty}
use Rattle.dap_debug.proofs.breakpoints.rule_of.Goals as goal

-- what holds where there is nothing
in_none : {A P : Type 0} (a : Option A) → a ≡ None → P → IfNone a P
in_none {P = P} a none is = subst (λ o. IfNone o P) (sym none) is

pub returns-in_err-number-clause-none : goal.returns-in_err-number-clause-none
returns-in_err-number-clause-none c =
    in_none _ c.from_residual.ensures
    (no_divisor c.args.text.now c.in-Some.divisor.now
    (strip_prefix_char 37 c.args.text.now (Some c.in-Some.divisor) c.in-Some.ensures.cases (omega arith))
    c.in_err-number.ensures.none)

pub returns-in_err-number-2-clause-none : goal.returns-in_err-number-2-clause-none
returns-in_err-number-2-clause-none c =
    in_none _ c.from_residual-in_err-number-2.ensures
    (no_only c.args.text.now c.in-Some-strip_prefix.only.now
    (strip_prefix_char 61 c.args.text.now (Some c.in-Some-strip_prefix.only) c.in-Some-strip_prefix.ensures.cases
    (omega arith)) c.in_err-number-2.ensures.none)

pub returns-in_err-number-3-clause-none : goal.returns-in_err-number-3-clause-none
returns-in_err-number-3-clause-none c =
    in_none _ c.from_residual-in_err-number-3.ensures
    (no_number c.args.text.now (not_empty c.args.text.now _ c.is_empty.ensures c.if-is_empty.false)
    (strip_prefix_char 37 c.args.text.now None c.in_default.ensures.cases (omega arith))
    (strip_prefix_char 61 c.args.text.now None c.in_default-strip_prefix.ensures.cases (omega arith))
    c.in_err-number-3.ensures.none)
