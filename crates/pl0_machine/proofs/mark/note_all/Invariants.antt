use Rattle.pl0_machine.specs.Asking.{answer_there}
use Rattle.pl0_machine.proofs.Counting.{Noting}
use Rattle.pl0_machine.proofs.mark.note_all.Given as goal

abbrev pub invariant-loop-counter : goal.invariant-loop-counter
invariant-loop-counter l =
    Noting (answer_there l.cells l.base l.top) l.counters l.initial.counts l.counter-index l.counts l.stops
