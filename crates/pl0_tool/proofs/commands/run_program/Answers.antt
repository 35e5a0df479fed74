use Rattle.pl0_tool.proofs.CommandTells.{run_from}
use Rattle.pl0_tool.proofs.commands.run_program.Goals as goal

pub returns : goal.returns
returns g c =
    run_from c.args.limit c.args.file.now c.args.unit.value _ c.run_whole.result _ _ c.in_ok-machine.ensures.standing
    c.run_whole.ensures
