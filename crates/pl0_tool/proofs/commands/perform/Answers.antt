use Rattle.std.proofs.Common.{subst, sym}
use Rattle.pl0_unit.specs.declared.unit.Unit.{Unit as Compiled}
use Rattle.pl0_tool.specs.Loading.{IsProgramOf}
use Rattle.pl0_tool.proofs.CommandTells.{program_told}
use Rattle.pl0_tool.proofs.commands.perform.Goals as goal

pub returns-in_ok-unit-in-Ok : goal.returns-in_ok-unit-in-Ok
returns-in_ok-unit-in-Ok g c =
    program_told c.args.task c.args.file.now c.args.text.now _ c.perform_program.result _ _
    (subst (λ (unit : Compiled). IsProgramOf c.args.text.now unit) (sym c.in_ok-unit-in-Ok.ensures.ok)
    c.in-Ok.ensures.program) c.perform_program.ensures
