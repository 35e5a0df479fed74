use Rattle.std.proofs.Common.{IfOk, [], subst}
use Rattle.pl0_unit.specs.declared.unit.Unit.{Unit as Compiled}
use Rattle.pl0_mistakes.specs.Warnings.{warning_lines}
use Rattle.pl0_tool.specs.declared.arguments.Task.TheVariants.{List as Listing, Tokens, Tree}
use Rattle.pl0_tool.specs.declared.report.Ending.TheVariants.{Success}
use Rattle.pl0_tool.specs.Commands.{IsReport}
use Rattle.pl0_tool.proofs.CommandTells.{checked_program, paged_program, run_program, traced_program}
use Rattle.pl0_tool.proofs.commands.perform_program.Goals as goal

pub returns-in-Check : goal.returns-in-Check
returns-in-Check g c =
    checked_program c.args.task c.args.file.now c.args.unit.value c.check_program.result _ c.in-Check.is
    (subst (λ (unit : Compiled). IfOk c.check_program.result
    (IsReport [] (warning_lines c.args.file.now unit.tree.text.items) Success)) c.deref.ensures c.check_program.ensures)

pub returns-in-List : goal.returns-in-List
returns-in-List g c =
    paged_program c.args.task (Listing c.in-List.names) c.args.file.now c.args.unit.value c.list_program.result _
    c.in-List.is tt c.list_program.ensures

pub returns-in-Tree : goal.returns-in-Tree
returns-in-Tree g c =
    paged_program c.args.task Tree c.args.file.now c.args.unit.value c.page_told.result _ c.in-Tree.is tt
    c.page_told.ensures

pub returns-in-Tokens : goal.returns-in-Tokens
returns-in-Tokens g c =
    paged_program c.args.task Tokens c.args.file.now c.args.unit.value c.page_told-in-Tokens.result _ c.in-Tokens.is tt
    c.page_told-in-Tokens.ensures

pub returns-in-Run : goal.returns-in-Run
returns-in-Run g c =
    run_program c.args.task c.in-Run.limit c.args.file.now c.args.unit.value c.run_program.result _ _ c.in-Run.is
    c.run_program.ensures

pub returns-in-Trace : goal.returns-in-Trace
returns-in-Trace g c =
    traced_program c.args.task c.in-Trace.from c.in-Trace.steps c.in-Trace.view c.args.file.now c.args.unit.value
    c.trace_program.result _ _ c.in-Trace.is c.trace_program.ensures
