use Rattle.std.proofs.Common.{arith, Some, None}
use Rattle.std.proofs.lemmas.Str.Pattern.{strip_prefix_char}
use Rattle.dbg_plan.proofs.HitNumbers.{no_divisor, no_number}
use Rattle.dbg_plan.proofs.Texts.{not_empty}
use Rattle.dbg_plan.proofs.rule.read_rule.Goals as goal

pub returns-in-None-number-clause-bad : goal.returns-in-None-number-clause-bad
returns-in-None-number-clause-bad c =
    no_divisor c.args.text.now c.in-Some.divisor.now
    (strip_prefix_char 37 c.args.text.now (Some c.in-Some.divisor) c.in-Some.ensures.cases (omega arith))
    c.in-None-number.ensures.none

pub returns-in-None-number-2-clause-bad : goal.returns-in-None-number-2-clause-bad
returns-in-None-number-2-clause-bad c =
    no_number c.args.text.now (not_empty c.args.text.now _ c.is_empty.ensures c.if-is_empty.false)
    (strip_prefix_char 37 c.args.text.now None c.in-None.ensures.cases (omega arith)) c.in-None-number-2.ensures.none
