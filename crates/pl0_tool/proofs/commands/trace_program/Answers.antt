use Rattle.pl0_tool.proofs.CommandTells.{part_written, told_err, traced_from}
use Rattle.pl0_tool.proofs.commands.trace_program.Goals as goal

pub returns-in_err-end : goal.returns-in_err-end
returns-in_err-end g c =
    told_err _ _ c.from_residual-in_err-end.result c.from_residual-in_err-end.ensures.1
    (part_written _ _ _ _ _ c.in_err-end.ensures.told)

pub returns : goal.returns
returns g c =
    traced_from c.in_ok-end.end c.args.file.now c.args.unit.value _ _ c.args.from c.args.steps
    c.trace_report.result _ _ _ _ c.in_ok-machine.ensures.standing c.in_ok-end.ensures.told c.trace_report.ensures
