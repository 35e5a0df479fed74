use Rattle.std.proofs.Common.{All, ap, arith, length, subst, sym}
use Rattle.std.proofs.lemmas.List.{length-map}
use Rattle.pl0_machine.specs.Machine.{program_of}
use Rattle.dbg_plan.specs.Breakpoints.{plain_breakpoints}
use Rattle.dbg_plan.specs.Resolutions.{plain_line}
use Rattle.dap_msg.specs.Laws.{LineIsWithin}
use Rattle.dap_history.specs.Breakpoints.{asked_as}
use Rattle.dap_replies.specs.Lines.{IsAtStep}
use Rattle.dap_replies.proofs.Lines.{at_steps}
use Rattle.dap_replies.proofs.breakpoints.resolved.Goals as goal

pub resolve-requires : goal.resolve-requires
resolve-requires c =
    omega (
      arith,
      c.requires.0,
      ap length c.as_slice.ensures,
      ap length c.deref.ensures.value,
      ap length c.in_ok-lines.ensures,
      length-map c.in_ok-lines.lines.items plain_line,
      length-map c.as_slice.result.now (asked_as c.line_offset-less.result),
    )

pub asked_lines-requires-clause-within : goal.asked_lines-requires-clause-within
asked_lines-requires-clause-within c = subst (All LineIsWithin) (sym c.as_slice.ensures) c.requires.1

pub line_answers-requires : goal.line_answers-requires
line_answers-requires c =
    subst (λ l. All (IsAtStep (program_of c.args.unit.now)) l) (sym c.deref-2.ensures.value)
    (at_steps (program_of c.args.unit.now) _ c.in_ok-plan.resolutions.items
    (plain_breakpoints c.in_ok-plan.plan.breakpoints) c.in_ok-plan.ensures.resolutions)
