-- Defines what the threads of the reader and the session leave when they end, whether their work was done or not.
use Rattle.std.specs.Prelude.{◌≡◌, ◌≢◌, ◌⊎◌, ◌++◌, ◌∷◌, [], false, List, Option, None, Some, Result, Err}
use Rattle.byte_streams.specs.declared.writing.WriteFailed.{WriteFailed}
use Rattle.byte_streams.specs.Streams.{Supply, IsOfWhole}
use Rattle.dap_msg.specs.declared.request.Dialect.{Dialect}
use Rattle.dap_history.specs.declared.fault.SessionFault.{SessionFault}
use Rattle.dap_history.specs.declared.ending.Closed.{Closed}
use Rattle.dap_history.specs.Events.{Incoming}
use Rattle.dap_history.specs.Interleaving.{Load}
use Rattle.dap_session.specs.Ports.{Ports, PushedOrders}
use Rattle.dap_session.specs.Serving.{Driven}
use Rattle.dbg_runner.specs.Plain.{Quit}
use Rattle.dap_wires.specs.declared.reading.ReadEnd.{ReadEnd}
use Rattle.dap_wires.specs.declared.writer_message.WriterMessage.{WriterMessage}
use Rattle.dap_wires.specs.Reading.{IsReadUntil}
use Rattle.dap_wires.specs.WriterMessages.{frames_in, has_end, AreEnded}
use Rattle.adapter.specs.declared.serving.Served.{Served}
use Rattle.adapter.specs.declared.serving.ServeFault.{ServeFault}
use Rattle.adapter.specs.declared.serving.ServeFault.TheVariants.{NoThread}
use Rattle.adapter.specs.Serving.{outcome_of}

-- A session was driven over its ends: these messages were put, and these orders pushed. `End` was put after the frames,
-- or not at all; and where a frame was refused, it was not put.
pub record SessionLeaves (dialect : Dialect) (result : Result Closed SessionFault) (given later_given : List Incoming)
    (loads later_loads : List Load) (old : Ports) (messages : List WriterMessage) (pushed : PushedOrders) : Type 0 where
  pub later : Ports
  pub driven : Driven dialect result given later_given loads later_loads old later
  pub frames_are : frames_in messages ≡ later.frames
  pub orders_are : pushed.orders ≡ later.orders
  pub fulls_are : pushed.fulls ≡ later.orders_full
  pub never_gone : later.runner_gone ≡ 0
  pub ended : (has_end messages ≡ false) ⊎ AreEnded messages
  pub refused : later.refused ≢ [] → has_end messages ≡ false

-- A session was not driven: it asked the loader for nothing, and put nothing but a `Quit`, for the runner, and `End`.
pub record SessionIsLeft (loads later_loads : List Load) (old : Ports) (messages : List WriterMessage)
    (pushed : PushedOrders) : Type 0 where
  pub loads_are : later_loads ≡ loads
  pub frames_are : frames_in messages ≡ old.frames
  pub orders_are : (pushed.orders ≡ old.orders) ⊎ (pushed.orders ≡ old.orders ++ Quit ∷ [])

-- A session was driven and ended so, or was not driven.
abbrev pub SessionEndsAs : Dialect → Option (Result Closed SessionFault) → List Incoming → List Incoming → List Load
    → List Load → Ports → List WriterMessage → PushedOrders → Type 0
SessionEndsAs dialect (Some result) given later_given loads later_loads old messages pushed =
    SessionLeaves dialect result given later_given loads later_loads old messages pushed
SessionEndsAs dialect None given later_given loads later_loads old messages pushed =
    SessionIsLeft loads later_loads old messages pushed

-- The input was read until reading ended so, and what was read was sent, all of it the input's own; or it is as it was.
abbrev pub ReaderEndsAs : Option ReadEnd → List Incoming → List Incoming → Supply → Supply → Type 0
ReaderEndsAs (Some end) sent later_sent old later =
    ((more : List Incoming) × (later_sent ≡ sent ++ more) × IsReadUntil end more old later) × ∥ IsOfWhole later ∥₁
ReaderEndsAs None sent later_sent old later = later ≡ old

-- how serving ended, by how the writer ended, and the session, which is not driven if a thread can't be started
abbrev pub outcome_if_driven : Result (Unit {0}) WriteFailed → Option (Result Closed SessionFault)
    → Result Served ServeFault
outcome_if_driven wrote (Some result) = outcome_of wrote result
outcome_if_driven wrote None = Err NoThread
