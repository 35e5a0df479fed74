use Rattle.std.specs.Prelude.{All}
use Rattle.pl0_tree.specs.Faults.{IsNameFault}
use Rattle.pl0_tree.specs.Plain.{plain_block}
use Rattle.pl0_mistakes.specs.Lines.{IsFurther}
use Rattle.pl0_mistakes.proofs.further.mistakes_in.Given as goal

abbrev pub invariant-loop-fault : goal.invariant-loop-fault
invariant-loop-fault l = All (IsFurther (IsNameFault (plain_block l.main))) l.mistakes.items
