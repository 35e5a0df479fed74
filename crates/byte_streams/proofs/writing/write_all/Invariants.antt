use Rattle.std.proofs.Common.{◌≡◌}
use Rattle.byte_streams.proofs.Transferring.{Partly}
use Rattle.byte_streams.proofs.writing.write_all.Given as goal

abbrev pub invariant-loop : goal.invariant-loop
invariant-loop g l =
    Partly l.bytes l.rest (g.O.Sink.output l.initial.output).written (g.O.Sink.output l.output).written
    × ((g.O.Sink.output l.output).failures ≡ (g.O.Sink.output l.initial.output).failures)
