use Rattle.std.proofs.Common.{◌≡◌, take}
use Rattle.stack_language.specs.Text.{AreRead}
use Rattle.stack_language.proofs.Reading.{texts}
use Rattle.stack_language.proofs.parsing.parse_lines.Given as goal

abbrev pub invariant-loop-line : goal.invariant-loop-line
invariant-loop-line l = (l.number ≡ l.line-index) × AreRead (take l.line-index (texts l.lines)) l.program.items
