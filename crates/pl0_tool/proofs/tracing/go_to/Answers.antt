use Rattle.pl0_tool.proofs.Common.{Some, subst}
use Rattle.pl0_tool.specs.Running.{RanToNumber}
use Rattle.pl0_tool.proofs.RunLines.{came_none}
use Rattle.pl0_tool.proofs.TracedRows.{came_to, ends_before, faults_before, goes_further}
use Rattle.pl0_tool.proofs.tracing.go_to.Goals as goal

pub numbers-init : goal.numbers-init
numbers-init g c = (c.requires.alive, c.requires.within, came_none c.args.machine.now)

pub returns-in-None-run_to_number : goal.returns-in-None-run_to_number
returns-in-None-run_to_number g c =
    came_to c.args.machine.now c.numbers.machine c.run_to_number.new.machine c.args.position c.numbers.invariant.2
    c.in-None-run_to_number.ensures

pub numbers-preserved : goal.numbers-preserved
numbers-preserved g c =
    goes_further c.args.machine.now c.numbers.machine c.run_to_number.new.machine c.args.position c.in-Some-Went.field-0
    c.in-Some-Went.field-0-is c.numbers.invariant.2 c.in-Some-Went.ensures

pub returns-in-Some-Done : goal.returns-in-Some-Done
returns-in-Some-Done g c =
    ends_before c.args.machine.now c.numbers.machine c.run_to_number.new.machine c.args.position c.numbers.invariant.2
    (subst (λ o. RanToNumber c.args.position c.numbers.machine (Some o) c.run_to_number.new.machine)
    c.in-Some-Done.field-0-is c.in-Some-Done.ensures)

pub returns-in-Some-Fault : goal.returns-in-Some-Fault
returns-in-Some-Fault g c =
    faults_before c.args.machine.now c.numbers.machine c.run_to_number.new.machine c.args.position c.in-Some-Fault.fault
    c.numbers.invariant.2
    (subst (λ o. RanToNumber c.args.position c.numbers.machine (Some o) c.run_to_number.new.machine)
    c.in-Some-Fault.field-0-is c.in-Some-Fault.ensures)
