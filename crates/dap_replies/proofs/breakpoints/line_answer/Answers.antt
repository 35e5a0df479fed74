use Rattle.std.proofs.Common.{◌-◌, ap, arith, ◌∙◌}
use Rattle.dap_msg.specs.declared.outgoing.BreakpointAnswer.TheVariants as answer_is
use Rattle.dbg_plan.proofs.StepLines.{unit_length}
use Rattle.dap_replies.proofs.Lines.{unit_line}
use Rattle.dap_replies.proofs.breakpoints.line_answer.Goals as goal

pub index-requires : goal.index-requires
index-requires c = omega (arith, unit_length c.args.unit.now, (rw c.in-At.is at c.requires))

pub returns-in-At : goal.returns-in-At
returns-in-At c =
    rw c.in-At.is (ap answer_is.At (c.from.ensures ∙ c.saturating_sub.ensures
    ∙ ap (λ k. k - c.args.less) (unit_line c.args.unit.now c.in-At.step c.index.result.now
    (rw c.in-At.is at c.requires) c.index.ensures)))
