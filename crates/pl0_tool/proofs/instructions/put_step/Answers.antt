use Rattle.pl0_tool.proofs.Common.{arith, frames}
use Rattle.pl0_tool.proofs.ToldInstructions.{last_led, last_line}
use Rattle.pl0_tool.proofs.instructions.put_step.Goals as goal

pub returns-then-not-branch-clause-led : goal.returns-then-not-branch-clause-led
returns-then-not-branch-clause-led c =
    last_led (frames c.args.machine.now) c.args.code.now c.loop-at.at _ c.loop-at.stack.items
    c.take_operand.new.stack.items c.deref-then-not-branch.result.now _ (omega (arith, c.loop-at-test.true))
    c.if-not-branch.true c.in_ok-take_operand.ensures c.args.back c.led.result _ c.led.ensures
    c.deref-then-not-branch.ensures.value c.loop-at.invariant.1

pub returns-then-not-branch-clause-lines : goal.returns-then-not-branch-clause-lines
returns-then-not-branch-clause-lines c =
    last_line (frames c.args.machine.now) c.args.code.now c.loop-at.at _ c.loop-at.stack.items
    c.take_operand.new.stack.items c.deref.result.now _ (omega (arith, c.loop-at-test.true))
    c.if-not-branch.true c.in_ok-take_operand.ensures c.loop-at.lines.items c.put_instruction.new.page.items _
    c.in_ok-put_instruction.ensures c.deref.ensures.value c.loop-at.invariant.0
