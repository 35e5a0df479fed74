-- States what holds of all that a session sends.
use Rattle.std.specs.Prelude.{◌≡◌, ◌⊎◌, ◌+◌, ◌<◌, ◌^◌, ◌++◌, ℕ, List, length, slice_get, Option, Some, Result, Err}
use Rattle.dap_frame.specs.Frame.{frame_of}
use Rattle.dap_msg.specs.declared.outgoing.Outgoing.{Outgoing}
use Rattle.dap_msg.specs.Laws.{ReadsAsMessage}
use Rattle.dap_msg.specs.declared.request.Dialect.{Dialect}
use Rattle.dbg_runner.specs.Plain.{PlainOrder}
use Rattle.dap_history.specs.declared.ending.Closed.{Closed}
use Rattle.dap_history.specs.declared.fault.SessionFault.{SessionFault}
use Rattle.dap_history.specs.declared.fault.SessionFault.TheVariants.{SeqExhausted}
use Rattle.dap_history.specs.History.{History, messages_of, next_seq, orders_of}
use Rattle.dap_history.specs.Events.{Incoming, Rest, AreLawful, IsHistoryOf}
use Rattle.dap_history.specs.Interleaving.{Load}
use Rattle.dap_history.specs.Output.{frames_from}
use Rattle.dap_session.specs.Ports.{Ports}
use Rattle.dap_session.specs.Coming.{Sources}
use Rattle.dap_session.specs.Sending.{BreaksOff, IsPrefixOf, TriesQuit}
use Rattle.dap_session.specs.Taking.{Toward}
use Rattle.dap_session.specs.Serving.{ReachesLast, Driven, OwesOnly}

-- All events but the last were taken, and some items of the last, perhaps none.
pub record IsOnTheWay (dialect : Dialect) (events : List Incoming) (reached : History) : Type 0 where
  pub reaches : ReachesLast dialect events
  pub toward : Toward dialect reaches.past reaches.rest reaches.last reached

-- A session reached this history with the events: it took all of them, or gave up at the last one. The history is a
-- prefix of any history of all the events. It is itself the history of some lawful events, so the laws of histories
-- hold of it.
pub record IsReached (dialect : Dialect) (events : List Incoming) (reached : History) : Type 0 where
  pub way : ((rest : Rest) × IsHistoryOf dialect events reached rest) ⊎ IsOnTheWay dialect events reached
  pub begins : (past : History) (rest : Rest) → IsHistoryOf dialect events past rest → IsPrefixOf reached past
  pub taken : List Incoming
  pub rest : Rest
  pub lawful : AreLawful taken
  pub history : IsHistoryOf dialect taken reached rest

-- The frames that were put are a prefix of those of the history's messages, and the orders pushed a prefix of its
-- orders.
pub record SendsPrefix (reached : History) (old later : Ports) : Type 0 where
  pub frames : List (List ℕ)
  pub orders : List PlainOrder
  pub frames_are : later.frames ≡ old.frames ++ frames
  pub orders_are : later.orders ≡ old.orders ++ orders
  pub frames_begin : IsPrefixOf frames (frames_from 1 (messages_of reached))
  pub orders_begin : IsPrefixOf orders (orders_of reached)

-- Whatever fault ends a session, what it sent is a prefix of what the history that it reached says; after that, one
-- Quit was pushed or refused.
abbrev pub FaultsLeavePrefixes : Type 0
FaultsLeavePrefixes =
    (dialect : Dialect) (fault : SessionFault) (given_before given_after : List Incoming)
    (loaded_before loaded_after : List Load) (old later : Ports)
    → (driven : Driven dialect (Err fault) given_before given_after loaded_before loaded_after old later)
    → (reached : History) × IsReached dialect driven.events reached × (stopped : Ports)
    × SendsPrefix reached old stopped × TriesQuit stopped later

-- The frames that were put are fewer than 2^53. The content of the nth is read as the nth message of the history, and
-- says that its seq is n.
pub record PutsNumbered (reached : History) (old later : Ports) : Type 0 where
  pub frames : List (List ℕ)
  pub frames_are : later.frames ≡ old.frames ++ frames
  pub few : length frames < 2 ^ 53
  pub read : (n : ℕ) (frame : List ℕ) → slice_get frames n ≡ Some frame
      → (message : Outgoing) × (content : List ℕ) × (slice_get (messages_of reached) n ≡ Some message)
      × (frame ≡ frame_of content) × ReadsAsMessage message (n + 1) content

-- However a session ends, the frames that it put are numbered from 1, as the messages of the history that it reached.
abbrev pub FramesAreNumbered : Type 0
FramesAreNumbered =
    (dialect : Dialect) (result : Result Closed SessionFault) (given_before given_after : List Incoming)
    (loaded_before loaded_after : List Load) (old later : Ports)
    → (driven : Driven dialect result given_before given_after loaded_before loaded_after old later)
    → (reached : History) × IsReached dialect driven.events reached × PutsNumbered reached old later

-- A session that has no number left for a message has one that would be 2^53 or more.
abbrev pub SeqsEndLate : Type 0
SeqsEndLate =
    (past new : History) (old later : Ports) → BreaksOff SeqExhausted past new old later → 2 ^ 53 < next_seq new

-- Where a session owes nothing but a launch, or nothing at all, what its inbox and its loader returned says what it has
-- sent, and which file it wants.
abbrev pub SentIsKnown : Type 0
SentIsKnown =
    (dialect : Dialect) (path other : Option (List ℕ)) (begin now : Sources) (old later last : Ports)
    → OwesOnly dialect path begin now old later → OwesOnly dialect other begin now old last
    → (path ≡ other) × (later.frames ≡ last.frames) × (later.orders ≡ last.orders)
