use Rattle.std.proofs.Common.{sym, ◌∙◌}
use Rattle.pl0_machine.specs.Machine.{program_of}
use Rattle.dbg_plan.specs.Resolutions.{plain_line}
use Rattle.dbg_plan.proofs.Lines.{bad_condition}
use Rattle.dbg_plan.proofs.resolving.resolve_line.Goals as goal

pub returns-in-Err-InText : goal.returns-in-Err-InText
returns-in-Err-InText c =
    bad_condition (program_of c.args.unit.now) (plain_line c.args.asked.now) c.args.breakpoints.now.items
    c.in-Some.step _ _ _ (sym c.first_step.ensures ∙ c.in-Some.is) c.in-Err-InText.ensures.fault
    c.in-Err-InText.field-0-is

pub resolve_at-requires-clause-there : goal.resolve_at-requires-clause-there
resolve_at-requires-clause-there c = sym c.first_step.ensures ∙ c.in-Some.is
