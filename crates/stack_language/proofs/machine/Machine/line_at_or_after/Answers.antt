use Rattle.std.proofs.Common.{sym, ◌∙◌, arith, rules}
use Rattle.stack_language.proofs.Lines.{none_more, none_at_all}
use Rattle.stack_language.proofs.machine.Machine.line_at_or_after.Goals as goal

pub loop-index-init : goal.loop-index-init
loop-index-init c = λ line after before. absurd (omega (arith, after, before))

pub loop-index-preserved : goal.loop-index-preserved
loop-index-preserved c =
    none_more c.args.self.now c.args.line c.loop-index.index c.loop-index.invariant
    (sym c.has_instruction.ensures ∙ c.if-has_instruction.false)

pub returns : goal.returns
returns c =
    none_at_all c.args.self.now c.args.line c.loop-index.index c.loop-index.invariant
    (search rules)
