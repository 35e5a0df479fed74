use Rattle.std.proofs.Common.{sym, ◌∙◌}
use Rattle.dap_wires.specs.Inbox.{client_events, returned_events}
use Rattle.dap_session.specs.Incoming.{incoming_of}
use Rattle.dap_wires.proofs.ReadSoFar.{read_goes_on, read_ends, read_lost, when_ok, when_err}
use Rattle.dap_wires.proofs.reading.read_loop.Goals as goal

pub returns-in-Some-end-clause-read : goal.returns-in-Some-end-clause-read
returns-in-Some-end-clause-read g c =
    let sent = when_ok c.send.result (sym c.if-is_err.ensures.value) c.send.ensures.sent in
    read_ends
    (client_events c.args.inbox.now)
    (client_events c.loop.inbox)
    (client_events c.send.new.self)
    (returned_events c.args.inbox.now)
    (returned_events c.send.new.self)
    (g.I.Pieces.given c.args.input.now)
    (g.I.Pieces.given c.loop.input)
    (g.I.Pieces.given c.next_piece-event.new.self)
    c.next_piece-event.result
    c.in-Some-end.end
    c.loop.invariant.0
    (sent.1 ∙ c.loop.invariant.1)
    (sym c.in-Some-end.ensures)
    c.next_piece-event.ensures.read
    sent.0

pub loop-preserved : goal.loop-preserved
loop-preserved g c =
    let sent = when_ok c.send.result (sym c.if-is_err.ensures.value) c.send.ensures.sent in
    let event = c.next_piece-event.ensures in (
      read_goes_on
          (client_events c.args.inbox.now)
          (client_events c.loop.inbox)
          (client_events c.send.new.self)
          (g.I.Pieces.given c.args.input.now)
          (g.I.Pieces.given c.loop.input)
          (g.I.Pieces.given c.next_piece-event.new.self)
          c.next_piece-event.result
          c.loop.invariant.0
          event.own
          (sym c.in_default.ensures)
          event.read
          sent.0,
      sent.1 ∙ c.loop.invariant.1,
      c.send.ensures.queue ∙ c.loop.invariant.2,
    )

pub returns-then-is_err-clause-read : goal.returns-then-is_err-clause-read
returns-then-is_err-clause-read g c =
    let back = when_err c.send.result (sym c.if-is_err.ensures.value) c.send.ensures.refused in
    read_lost
    (client_events c.args.inbox.now)
    (client_events c.loop.inbox)
    (client_events c.send.new.self)
    (returned_events c.args.inbox.now)
    (returned_events c.loop.inbox)
    (returned_events c.send.new.self)
    (g.I.Pieces.given c.args.input.now)
    (g.I.Pieces.given c.loop.input)
    (g.I.Pieces.given c.next_piece-event.new.self)
    (incoming_of c.next_piece-event.result)
    c.loop.invariant.0
    c.loop.invariant.1
    back.1
    c.next_piece-event.ensures.read
    back.0

pub next_piece-event-requires : goal.next_piece-event-requires
next_piece-event-requires g c =
    c.requires c.loop.input c.loop.inbox c.loop.invariant.2 (record {
      pieces = c.loop.invariant.0.pieces;
      sent_are = c.loop.invariant.0.put_is;
      read = c.loop.invariant.0.read;
      none_back = c.loop.invariant.1;
    })
