use Rattle.pl0_mistakes.specs.Lines.{AreMistakeLines}
use Rattle.pl0_mistakes.proofs.further.with_others.Given as goal

abbrev pub invariant-loop-other : goal.invariant-loop-other
invariant-loop-other l = AreMistakeLines l.fn.file l.fn.text l.fn.kind l.fn.place l.lines.items
