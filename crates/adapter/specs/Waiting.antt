-- States what holds of a session that still runs, where reader, runner, session and writer all wait for something to
-- come: all that was read is answered, and the answers are written.
use Rattle.std.specs.Prelude.{◌≡◌, ℕ, [], List}
use Rattle.std.specs.List.{concat, flat_map}
use Rattle.byte_streams.specs.Streams.{IsOfWhole, IsReadOf, WritesAll}
use Rattle.dap_msg.specs.declared.request.Dialect.{Dialect}
use Rattle.dap_history.specs.Events.{Incoming, Rest, IsTaking, IsHistoryOf, AreLawful}
use Rattle.dap_history.specs.History.{History, messages_of, orders_of}
use Rattle.dap_history.specs.Laws.{stream_of}
use Rattle.dap_history.specs.Output.{frames_from}
use Rattle.dap_session.specs.Coming.{sources}
use Rattle.dap_session.specs.Ports.{Ports}
use Rattle.dap_session.specs.Serving.{OwesNothing}
use Rattle.dbg_runner.specs.Queues.{order_in, sent_in}
use Rattle.dbg_runner.specs.Runner.{Act, Idle, DoesAll}
use Rattle.dap_wires.specs.declared.writer_message.WriterMessage.{WriterMessage}
use Rattle.dap_wires.specs.Reading.{HasSentAll}
use Rattle.dap_wires.specs.Senders.{from_client, reports_among}
use Rattle.dap_wires.specs.WriterMessages.{frames_in}
use Rattle.dap_wires.specs.Writing.{OwesNothing as WriterOwesNothing}
use Rattle.adapter.specs.AllRead.{AnswersAll}
use Rattle.adapter.specs.Serving.{World, nothing_sent}

-- Each of the four waits for something to come, with what it has to show there: the session to `SessionInbox::next`,
-- the reader to the input (`read_loop`), the runner, which has no run, to its orders (`work`), the writer to
-- `WriterEnd::receive`. And the queues are empty: what was sent through each was taken.
pub record AreWaiting (dialect : Dialect) (before now : World) : Type 0 where
  pub given : List Incoming
  pub sent : Ports
  pub session : OwesNothing dialect (sources [] before.loads) (sources given now.loads) nothing_sent sent
  pub client : List Incoming
  pub returned : List Incoming
  pub reader : HasSentAll [] client returned returned before.streams.input now.streams.input
  pub of_whole : ∥ IsOfWhole now.streams.input ∥₁
  pub acts : List Act
  pub runner : DoesAll Idle acts Idle
  pub messages : List WriterMessage
  pub writer : WriterOwesNothing messages before.streams.output now.streams.output
  pub client_taken : from_client given ≡ client
  pub reports_taken : reports_among given ≡ flat_map sent_in acts
  pub orders_taken : flat_map order_in acts ≡ sent.orders
  pub frames_taken : frames_in messages ≡ sent.frames

-- All that was read is whole frames, and then less than one. Each request in them has one answer, in their order; the
-- messages of the one history are written whole, and nothing else; and all its orders were taken, each run to its end.
pub record NothingIsLeft (dialect : Dialect) (before now : World) : Type 0 where
  pub read : List ℕ
  pub consumed : IsReadOf read before.streams.input now.streams.input
  pub events : List Incoming
  pub pieces : stream_of events ≡ read
  pub past : History
  pub rest : Rest
  pub history : IsHistoryOf dialect events past rest
  pub lawful : AreLawful events
  pub goes_on : IsTaking past
  pub answers : AnswersAll dialect read (messages_of past)
  pub written : WritesAll (concat (frames_from 1 (messages_of past))) before.streams.output now.streams.output
  pub acts : List Act
  pub runs : DoesAll Idle acts Idle
  pub orders : flat_map order_in acts ≡ orders_of past
  pub reports : reports_among events ≡ flat_map sent_in acts

-- Where all wait and the queues are empty, nothing is left to do.
abbrev pub WaitingOwesNothing : Type 0
WaitingOwesNothing =
    (dialect : Dialect) (before now : World) → AreWaiting dialect before now → NothingIsLeft dialect before now
