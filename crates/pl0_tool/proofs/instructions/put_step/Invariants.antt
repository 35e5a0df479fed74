use Rattle.std.specs.Prelude.{drop, []}
use Rattle.pl0_tool.proofs.Common.{frames, ◌++◌, ◌≡◌}
use Rattle.pl0_lessons.specs.Interpreter.{step_led, step_lines}
use Rattle.pl0_tool.proofs.instructions.put_step.Given as goal

abbrev pub invariant-loop-at : goal.invariant-loop-at
invariant-loop-at l =
    (l.lines.items ++ step_lines (frames l.machine) (drop l.at l.code) l.at l.stack.items
    ≡ l.initial.lines.items ++ step_lines (frames l.machine) (drop l.fn.address l.code) l.fn.address [])
    × (step_led (frames l.machine) l.fn.back (drop l.at l.code) l.at l.stack.items
    ≡ step_led (frames l.machine) l.fn.back (drop l.fn.address l.code) l.fn.address [])
