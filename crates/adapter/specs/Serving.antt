-- Defines what a call of `serve` reads and writes, over an input and an output.
use Rattle.std.specs.Prelude.{◌≡◌, ◌≢◌, ◌⊎◌, ◌++◌, [], true, ℕ, List, Result, Ok, Err}
use Rattle.std.specs.Result.{is_err}
use Rattle.std.specs.List.{concat, flat_map}
use Rattle.dap_msg.specs.declared.request.Dialect.{Dialect}
use Rattle.dap_history.specs.declared.fault.SessionFault.{SessionFault}
use Rattle.dap_history.specs.declared.fault.SessionFault.TheVariants.{NoMemory, OrdersFull, WriterGone}
use Rattle.dap_history.specs.declared.ending.Closed.{Closed}
use Rattle.dap_history.specs.declared.ending.Closed.TheVariants as closed
use Rattle.dap_history.specs.Events.{Incoming, AreLawful}
use Rattle.dap_history.specs.Interleaving.{Load}
use Rattle.dap_session.specs.Ports.{Ports}
use Rattle.dap_session.specs.Sending.{IsPrefixOf}
use Rattle.dap_session.specs.Serving.{SessionOutcome}
use Rattle.dbg_runner.specs.Plain.{PlainOrder}
use Rattle.dbg_runner.specs.Queues.{order_in, sent_in, handed_back_in, passed_in}
use Rattle.dbg_runner.specs.Runner.{Act, Idle, Ended, DoesAll}
use Rattle.adapter.specs.declared.serving.Served.{Served}
use Rattle.adapter.specs.declared.serving.Served.TheVariants as served
use Rattle.adapter.specs.declared.serving.ServeFault.{ServeFault}
use Rattle.adapter.specs.declared.serving.ServeFault.TheVariants as fault
use Rattle.dap_wires.specs.declared.reading.ReadEnd.{ReadEnd}
use Rattle.byte_streams.specs.declared.writing.WriteFailed.{WriteFailed}
use Rattle.dap_wires.specs.Orders.{EnoughWerePushed}
use Rattle.dap_wires.specs.Reading.{IsReadUntil}
use Rattle.dap_wires.specs.Senders.{from_client, reports_among}
use Rattle.byte_streams.specs.Streams.{Supply, Output, IsOfWhole, WritesAll, FailsIn}

-- What is known of the input and of the output.
pub record Streams : Type 0 where
  pub input : Supply
  pub output : Output

-- the streams with this input and output
abbrev pub streams : Supply → Output → Streams
streams i o = record { input = i; output = o }

-- What stands outside of a run, at one moment: what the loader was asked for and returned so far, which slices passed
-- the gate, and the streams.
pub record World : Type 0 where
  pub loads : List Load
  pub passed : List (ℕ × ℕ)
  pub streams : Streams

abbrev pub world : List Load → List (ℕ × ℕ) → Streams → World
world loads passed streams = record { loads = loads; passed = passed; streams = streams }

-- what a session has sent before it starts
abbrev pub nothing_sent : Ports
nothing_sent = record { frames = []; orders = []; refused = []; runner_gone = 0; orders_full = 0 }

-- The bytes were written, or the output failed after a prefix of them.
abbrev pub Writes : Result (Unit {0}) WriteFailed → List ℕ → Output → Output → Type 0
Writes (Ok done) bytes old later = WritesAll bytes old later
Writes (Err failed) bytes old later = FailsIn bytes old later

-- ---- which of what was sent was taken

-- What the session took of what the reader sent: all, where the input's end or a failed read closed it, else a prefix.
abbrev pub TakenOfSent : Result Closed SessionFault → List Incoming → List Incoming → Type 0
TakenOfSent (Ok closed.Disconnected) taken sent = IsPrefixOf taken sent
TakenOfSent (Ok closed.InputEnded) taken sent = taken ≡ sent
TakenOfSent (Ok closed.ReadFailed) taken sent = taken ≡ sent
TakenOfSent (Err fault) taken sent = IsPrefixOf taken sent

-- What the runner took of the orders that the session pushed: all, where something closed the session, unless a report
-- was returned to the runner; else a prefix.
abbrev pub TakenOfPushed : Result Closed SessionFault → List Act → List PlainOrder → Type 0
TakenOfPushed (Ok by) acts pushed =
    (flat_map order_in acts ≡ pushed) ⊎ (IsPrefixOf (flat_map order_in acts) pushed ×
    (flat_map handed_back_in acts ≢ []))
TakenOfPushed (Err fault) acts pushed = IsPrefixOf (flat_map order_in acts) pushed

-- ---- session, reader, runner and writer, side by side

-- The session took what the inbox gave, and the files that the loader returned for its launches: these are the events.
-- It sent what they lead to, by the way in which it ended, and the loader was asked for nothing else. It was never
-- answered that the runner is gone, and found the queue of orders full only where it pushed enough to fill it, of which
-- the last may be the Quit that it tried then.
pub record SessionSends (dialect : Dialect) (result : Result Closed SessionFault) (given : List Incoming) (sent : Ports)
    (loads later_loads : List Load) : Type 0 where
  pub events : List Incoming
  pub loaded : List Load
  pub lawful : AreLawful events
  pub drives : SessionOutcome dialect events given loaded nothing_sent sent result
  pub loads_are : later_loads ≡ loads ++ loaded
  pub never_gone : sent.runner_gone ≡ 0
  pub full : result ≡ Err OrdersFull → EnoughWerePushed sent.orders

-- The reader sent to the inbox what it read, all of it the input's own. The session took all of that, or a prefix, by
-- the way in which it ended.
pub record ReaderSends (result : Result Closed SessionFault) (given : List Incoming)
    (old later : Supply) : Type 0 where
  pub end : ReadEnd
  pub client : List Incoming
  pub read : IsReadUntil end client old later
  pub of_whole : ∥ IsOfWhole later ∥₁
  pub client_taken : TakenOfSent result (from_client given) client

-- The runner did these acts, from its start to its end. It took all of the orders, or a prefix, by the way in which the
-- session ended; the session took a prefix of the reports that it sent. The slices that passed the gate are its own.
pub record RunnerActs (result : Result Closed SessionFault) (given : List Incoming) (orders : List PlainOrder)
    (passed later_passed : List (ℕ × ℕ)) : Type 0 where
  pub acts : List Act
  pub worked : DoesAll Idle acts Ended
  pub orders_taken : TakenOfPushed result acts orders
  pub reports_taken : IsPrefixOf (reports_among given) (flat_map sent_in acts)
  pub gate_passed : later_passed ≡ passed ++ flat_map passed_in acts

-- The writer wrote the frames that the session put, or the output failed after a prefix of them. The session found the
-- writer gone only where a write failed.
pub record WriterWrites (wrote : Result (Unit {0}) WriteFailed) (result : Result Closed SessionFault)
    (frames : List (List ℕ)) (old later : Output) : Type 0 where
  pub written : Writes wrote (concat frames) old later
  pub writer_gone : result ≡ Err WriterGone → is_err wrote ≡ true

-- Each of the four came to its end. They share what the inbox gave to the session, which came from the reader and the
-- runner, and what the session sent: frames to the writer, and orders to the runner.
pub record TasksEnd (dialect : Dialect) (wrote : Result (Unit {0}) WriteFailed) (result : Result Closed SessionFault)
    (before after : World) : Type 0 where
  pub given : List Incoming
  pub sent : Ports
  pub session : SessionSends dialect result given sent before.loads after.loads
  pub reader : ReaderSends result given before.streams.input after.streams.input
  pub runner : RunnerActs result given sent.orders before.passed after.passed
  pub writer : WriterWrites wrote result sent.frames before.streams.output after.streams.output

-- how serving ended, by how the writer and the session ended
abbrev pub outcome_of : Result (Unit {0}) WriteFailed → Result Closed SessionFault → Result Served ServeFault
outcome_of (Err failed) result = Err fault.WriteFailed
outcome_of (Ok done) (Ok closed.Disconnected) = Ok served.Disconnected
outcome_of (Ok done) (Ok closed.InputEnded) = Ok served.InputEnded
outcome_of (Ok done) (Ok closed.ReadFailed) = Err fault.ReadFailed
outcome_of (Ok done) (Err f) = Err (fault.Session f)

-- Nothing was loaded, run, read or written. A write may have failed.
pub record ServesNothing (before after : World) : Type 0 where
  pub loads_are : after.loads ≡ before.loads
  pub passed_are : after.passed ≡ before.passed
  pub input_is : after.streams.input ≡ before.streams.input
  pub written_are : after.streams.output.written ≡ before.streams.output.written

-- Serving ended with this outcome. Where there was no memory for the queues, nothing was done; where a thread can't be
-- started, nothing that is seen outside.
pub data IsServed (dialect : Dialect) (outcome : Result Served ServeFault) (before after : World) : Type 0 where
  tasks_ended : (wrote : Result (Unit {0}) WriteFailed) (result : Result Closed SessionFault)
      → outcome ≡ outcome_of wrote result → TasksEnd dialect wrote result before after
      → IsServed dialect outcome before after
  had_no_memory : outcome ≡ Err (fault.Session NoMemory) → after ≡ before → IsServed dialect outcome before after
  had_no_thread : outcome ≡ Err fault.NoThread → ServesNothing before after → IsServed dialect outcome before after
