-- States laws of a call of `serve`, which follow from `Serving`, in the form in which a reader looks for them.
use Rattle.std.specs.Prelude.{◌≡◌, ◌≢◌, ◌⊎◌, ◌++◌, ◌∷◌, [], ℕ, List, true, Option, None, Some, Result, Ok, Err}
use Rattle.dap_msg.specs.declared.command.Command.TheVariants as command
use Rattle.dbg_runner.specs.Laws.{taken_by, reports_of_run, AllButLastGoOn, HasLast, KeepsOn}
use Rattle.dbg_runner.specs.Plain.{Heading, PlainReport, Go, Quit}
use Rattle.dbg_runner.specs.Runner.{Act, Looked, HandedBack}
use Rattle.dap_msg.specs.declared.request.Dialect.{Dialect}
use Rattle.dap_history.specs.declared.ending.Closed.{Closed}
use Rattle.dap_history.specs.declared.ending.Closed.TheVariants as closed
use Rattle.dap_history.specs.declared.fault.SessionFault.TheVariants.{OrdersFull, RunnerGone, WriterGone}
use Rattle.dap_history.specs.History.{Item, Content, Step, History}
use Rattle.dap_history.specs.Events.{Incoming, End, Rest, IsHistoryOf}
use Rattle.dap_history.specs.Laws.{stream_of}
use Rattle.dap_session.specs.Sending.{IsPrefixOf}
use Rattle.byte_streams.specs.declared.writing.WriteFailed.{WriteFailed}
use Rattle.dap_wires.specs.Orders.{EnoughWerePushed}
use Rattle.byte_streams.specs.Streams.{Supply, IsReadOf}
use Rattle.adapter.specs.declared.serving.Served.{Served}
use Rattle.adapter.specs.declared.serving.Served.TheVariants as served
use Rattle.adapter.specs.declared.serving.ServeFault.{ServeFault}
use Rattle.adapter.specs.declared.serving.ServeFault.TheVariants.{ReadFailed, Session}
use Rattle.adapter.specs.Serving.{World, TasksEnd, IsServed}

-- ---- What closed the session

-- what closed the session, where `serve` returned this and something did
abbrev pub closed_of : Result Served ServeFault → Option Closed
closed_of (Ok served.Disconnected) = Some closed.Disconnected
closed_of (Ok served.InputEnded) = Some closed.InputEnded
closed_of (Err ReadFailed) = Some closed.ReadFailed
closed_of (Err fault) = None

-- Where `serve` returns that something closed the session, that did, and all that was put was written. So what the laws
-- below say of a session that something closed holds by what `serve` returns.
abbrev pub OutcomeIsOfSession : Type 0
OutcomeIsOfSession =
    (dialect : Dialect) (outcome : Result Served ServeFault) (by : Closed) (before after : World)
    → IsServed dialect outcome before after → closed_of outcome ≡ Some by
    → TasksEnd dialect (Ok tt) (Ok by) before after

-- ---- The input

-- The pieces before the input's end, joined, are all the bytes that were left of the input. No event comes after it.
pub record TakesWholeInput (events : List Incoming) (old later : Supply) : Type 0 where
  pub front : List Incoming
  pub events_are : events ≡ front ++ End ∷ []
  pub whole : IsReadOf (stream_of front) old later
  pub at_end : later.ended ≡ true

-- A session that the input's end closed has taken the whole input.
abbrev pub InputIsTakenWhole : Type 0
InputIsTakenWhole =
    (dialect : Dialect) (wrote : Result (Unit {0}) WriteFailed) (before after : World)
    → (driven : TasksEnd dialect wrote (Ok closed.InputEnded) before after)
    → TakesWholeInput driven.session.events before.streams.input after.streams.input

-- a request to disconnect
abbrev pub AsksToDisconnect : Item → Type 0
AsksToDisconnect item = (seq : ℕ) × (item ≡ Content (Some (record { seq = seq; body = command.Disconnect })))

-- The pieces, joined, are a prefix of what was read of the input, and hold the first `disconnect`: it is the last item
-- taken.
pub record TakesFirstDisconnect (dialect : Dialect) (events : List Incoming) (old later : Supply) : Type 0 where
  pub read : List ℕ
  pub consumed : IsReadOf read old later
  pub begins : IsPrefixOf (stream_of events) read
  pub before : History
  pub step : Step
  pub rest : Rest
  pub history : IsHistoryOf dialect events (before ++ step ∷ []) rest
  pub asks : AsksToDisconnect step.item
  pub first : (front : History) (other : Step) (back : History) → before ≡ front ++ other ∷ back
      → ¬ AsksToDisconnect other.item

-- A session that a `disconnect` closed has taken the input up to the first one.
abbrev pub FirstDisconnectCloses : Type 0
FirstDisconnectCloses =
    (dialect : Dialect) (wrote : Result (Unit {0}) WriteFailed) (before after : World)
    → (driven : TasksEnd dialect wrote (Ok closed.Disconnected) before after)
    → TakesFirstDisconnect dialect driven.session.events before.streams.input after.streams.input

-- ---- Runs

-- A run is cut short: before a report said that it doesn't go on, Quit was taken, or a report was returned.
pub data IsCutShort : List Act → Type 0 where
  by_quit : {acts : List Act} → IsCutShort (Looked (Some Quit) ∷ acts)
  by_refusal : {r : PlainReport} {acts : List Act} → IsCutShort (HandedBack r ∷ acts)
  later : {act : Act} {acts : List Act} → KeepsOn act → IsCutShort acts → IsCutShort (act ∷ acts)

-- Where something closed the session, each run that the runner took has one report that says that it doesn't go on, its
-- last, unless it was cut short. No run cuts another.
abbrev pub RunsEndOnce : Type 0
RunsEndOnce =
    (dialect : Dialect) (by : Closed) (wrote : Result (Unit {0}) WriteFailed) (before after : World)
    → (driven : TasksEnd dialect wrote (Ok by) before after)
    → (front : List Act) (act : Act) (back : List Act) (h : Heading) → driven.runner.acts ≡ front ++ act ∷ back
    → taken_by act ≡ Some (Go h)
    → AllButLastGoOn (reports_of_run back) × (HasLast (reports_of_run back) ⊎ IsCutShort back)

-- ---- Faults of the session

-- `serve` never returns the fault that nobody takes frames or orders any more.
abbrev pub NobodyIsGone : Type 0
NobodyIsGone =
    (dialect : Dialect) (outcome : Result Served ServeFault) (before after : World)
    → IsServed dialect outcome before after
    → (outcome ≢ Err (Session WriterGone)) × (outcome ≢ Err (Session RunnerGone))

-- The session gave up since the queue of orders was full, and pushed enough orders to fill it, of which the last may be
-- the Quit that it tried then. All that was put was written.
pub record FoundFull (dialect : Dialect) (before after : World) : Type 0 where
  pub driven : TasksEnd dialect (Ok tt) (Err OrdersFull) before after
  pub enough : EnoughWerePushed driven.sent.orders

-- `serve` returns the fault that the queue of orders was full only where enough orders were pushed to fill it.
abbrev pub FullAfterEnough : Type 0
FullAfterEnough =
    (dialect : Dialect) (before after : World) → IsServed dialect (Err (Session OrdersFull)) before after
    → FoundFull dialect before after
