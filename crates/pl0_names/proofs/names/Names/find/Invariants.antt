use Rattle.pl0_names.proofs.Common.{plain_block}
use Rattle.pl0_names.proofs.Lookup.{depth}
use Rattle.pl0_names.proofs.Outward.{IsWalk}
use Rattle.pl0_names.proofs.names.Names.find.Given as goal

abbrev pub invariant-loop-meaning : goal.invariant-loop-meaning
invariant-loop-meaning l = IsWalk (plain_block l.self) l.word l.number l.around l.level

abbrev pub decreases-loop-meaning : goal.decreases-loop-meaning
decreases-loop-meaning l = depth (plain_block l.self) l.around
