use Rattle.std.proofs.Common.{sym, ◌∙◌}
use Rattle.dap_replies.proofs.SetBreakpoints.{answers_other, sets_lines}
use Rattle.dap_replies.proofs.breakpoints.in_program.Goals as goal

pub returns-then-is_launched : goal.returns-then-is_launched
returns-then-is_launched c phase at =
    sets_lines phase c.args.target.now c.args.unit.now c.args.asked.now at c.in_ok-answers.answers
    c.in_ok-answers.plan (sym c.is_launched.ensures ∙ c.if-is_launched.true) c.in_ok-answers.ensures.answered
    c.in_ok-answers.ensures.plan

pub returns : goal.returns
returns c phase at =
    rw (c.in_ok-others.ensures, c.as_slice.ensures)
    (answers_other phase c.args.target.now c.args.unit.now c.args.asked.now at
    (sym c.is_launched.ensures ∙ c.if-is_launched.false))
