use Rattle.pl0_tool.specs.declared.running.RunEnd.TheVariants.{StoppedAt}
use Rattle.pl0_tool.proofs.CommandTells.{run_ended, run_faulted}
use Rattle.pl0_tool.proofs.commands.run_whole.Goals as goal

pub returns-in-Ended : goal.returns-in-Ended
returns-in-Ended g c =
    run_ended c.args.limit c.args.file.now c.args.machine.now c.run_machine.new.machine c.run_machine.result _
    c.nothing_told.result _ _ c.in-Ended.is c.run_machine.ensures.ran c.run_machine.ensures.within
    c.nothing_told.ensures

pub returns-in-WriteFailed : goal.returns-in-WriteFailed
returns-in-WriteFailed g c =
    run_ended c.args.limit c.args.file.now c.args.machine.now c.run_machine.new.machine c.run_machine.result _
    c.nothing_told-in-WriteFailed.result _ _ c.in-WriteFailed.is c.run_machine.ensures.ran
    c.run_machine.ensures.within c.nothing_told-in-WriteFailed.ensures

pub returns-in-StoppedAt : goal.returns-in-StoppedAt
returns-in-StoppedAt g c =
    run_faulted c.args.limit c.args.file.now c.args.machine.now c.run_machine.new.machine c.run_machine.result StoppedAt
    c.stop_told.result _ _ c.in-StoppedAt.is c.run_machine.ensures.ran c.run_machine.ensures.within
    c.stop_told.ensures

pub returns-in-Faulted : goal.returns-in-Faulted
returns-in-Faulted g c =
    run_faulted c.args.limit c.args.file.now c.args.machine.now c.run_machine.new.machine c.run_machine.result _
    c.fault_told.result _ _ c.in-Faulted.is c.run_machine.ensures.ran c.run_machine.ensures.within
    (rw c.new-nothing.ensures.items at c.fault_told.ensures)

pub returns-in-FaultedUnwritten : goal.returns-in-FaultedUnwritten
returns-in-FaultedUnwritten g c =
    run_faulted c.args.limit c.args.file.now c.args.machine.now c.run_machine.new.machine c.run_machine.result _
    c.fault_told-in-FaultedUnwritten.result _ _ c.in-FaultedUnwritten.is c.run_machine.ensures.ran
    c.run_machine.ensures.within (rw c.new-nothing.ensures.items at c.fault_told-in-FaultedUnwritten.ensures)
