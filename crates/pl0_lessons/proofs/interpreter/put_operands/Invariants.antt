use Rattle.std.proofs.Common.{◌≡◌, ◌++◌, map, drop}
use Rattle.std.specs.List.{concat}
use Rattle.pl0_lessons.specs.Interpreter.{operand_text}
use Rattle.pl0_lessons.proofs.interpreter.put_operands.Given as goal

abbrev pub invariant-loop-operand : goal.invariant-loop-operand
invariant-loop-operand l =
    l.page.items ++ concat (map operand_text (drop l.operand-index l.stack))
    ≡ l.initial.page.items ++ concat (map operand_text l.stack)
