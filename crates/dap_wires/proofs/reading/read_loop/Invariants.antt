use Rattle.std.proofs.Common.{◌≡◌}
use Rattle.dap_wires.specs.Inbox.{client_events, client_queue, returned_events}
use Rattle.dap_wires.proofs.ReadSoFar.{ReadSoFar}
use Rattle.dap_wires.proofs.reading.read_loop.Given as goal

abbrev pub invariant-loop : goal.invariant-loop
invariant-loop g l =
    ReadSoFar
    (client_events l.initial.inbox)
    (client_events l.inbox)
    (g.I.Pieces.given l.initial.input)
    (g.I.Pieces.given l.input)
    × (returned_events l.inbox ≡ returned_events l.initial.inbox)
    × (client_queue l.inbox ≡ client_queue l.initial.inbox)
