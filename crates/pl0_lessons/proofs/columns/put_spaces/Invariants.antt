use Rattle.std.proofs.Common.{◌≡◌, ◌++◌}
use Rattle.pl0_lessons.specs.Columns.{spaces}
use Rattle.pl0_lessons.proofs.columns.put_spaces.Given as goal

abbrev pub invariant-loop-put : goal.invariant-loop-put
invariant-loop-put l = l.page.items ≡ l.initial.page.items ++ spaces l.put
