use Rattle.pl0_names.proofs.Common.{IsIndexed, IsNested, reverse, vec_len, ◌+◌, ◌≡◌}
use Rattle.pl0_names.specs.Logs.{blocks}
use Rattle.pl0_names.proofs.log.cut.Given as goal

abbrev pub invariant-loop-log : goal.invariant-loop-log
invariant-loop-log g l = record {
  indexed : IsIndexed (l.level + 1) l.index (reverse l.log.items);
  nested : IsNested (l.level + 1) (reverse l.log.items);
  outer : blocks l.level (reverse l.log.items) ≡ blocks l.level (reverse l.initial.log.items);
}

abbrev pub decreases-loop-log : goal.decreases-loop-log
decreases-loop-log g l = vec_len l.log
