use Rattle.std.proofs.Common.{◌≡◌}
use Rattle.dap_wires.specs.Outbox.{end_taken, end_queue, end_first}
use Rattle.dap_wires.proofs.WrittenSoFar.{WrittenSoFar}
use Rattle.dap_wires.proofs.writing.write_loop.Given as goal

abbrev pub invariant-loop : goal.invariant-loop
invariant-loop g l =
    WrittenSoFar
    (end_taken l.initial.outbox)
    (end_taken l.outbox)
    (g.O.Sink.output l.initial.output)
    (g.O.Sink.output l.output)
    × (end_queue l.outbox ≡ end_queue l.initial.outbox)
    × (end_first l.outbox ≡ end_first l.initial.outbox)
