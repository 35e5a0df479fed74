-- Defines which part of a history was sent.
use Rattle.std.specs.Prelude.{◌≡◌, ◌<◌, ◌≤◌, ◌^◌, ◌⊎◌, ℕ, List, [], ◌∷◌, ◌++◌}
use Rattle.dap_msg.specs.declared.outgoing.Outgoing.{Outgoing}
use Rattle.dbg_runner.specs.Plain.{PlainOrder, Quit}
use Rattle.dap_history.specs.declared.fault.SessionFault.{SessionFault}
use Rattle.dap_history.specs.declared.fault.SessionFault.TheVariants.{Frame, NoMemory, SeqExhausted, OrdersFull, RunnerGone, WriterGone}
use Rattle.dap_history.specs.History.{History, messages_of, orders_of, next_seq}
use Rattle.dap_history.specs.Output.{frames_from}
use Rattle.dap_session.specs.Ports.{PushedOrders, Ports}

-- The history `new` has these messages and orders after those of `past`.
pub record AddsToHistory (past new : History) (messages : List Outgoing) (orders : List PlainOrder) : Type 0 where
  pub messages_are : messages_of new ≡ messages_of past ++ messages
  pub orders_are : orders_of new ≡ orders_of past ++ orders

-- if no message had a seq of 2^53 or more before, none has now
abbrev pub SeqsFit : History → History → Type 0
SeqsFit past new = next_seq past ≤ 2 ^ 53 → next_seq new ≤ 2 ^ 53

-- Exactly what the history gained was sent: the frames of the messages, numbered on, and the orders.
pub record Sends (past new : History) (old later : Ports) : Type 0 where
  pub messages : List Outgoing
  pub orders : List PlainOrder
  pub adds : AddsToHistory past new messages orders
  pub frames_are : later.frames ≡ old.frames ++ frames_from (next_seq past) messages
  pub orders_are : later.orders ≡ old.orders ++ orders
  pub seqs_fit : SeqsFit past new

-- The ports refused nothing.
pub record RefusesNothing (old later : Ports) : Type 0 where
  pub writer : later.refused ≡ old.refused
  pub runner : later.runner_gone ≡ old.runner_gone
  pub full : later.orders_full ≡ old.orders_full

-- ---- where a session gives up

-- xs is a prefix of ys
abbrev pub IsPrefixOf : {A : Type 0} → List A → List A → Type 0
IsPrefixOf {A} xs ys = (more : List A) × (xs ++ more ≡ ys)

-- A prefix of the orders that the history gained was pushed, and no frame was put.
pub record PushesSome (past new : History) (old later : Ports) : Type 0 where
  pub messages : List Outgoing
  pub orders : List PlainOrder
  pub adds : AddsToHistory past new messages orders
  pub frames_are : later.frames ≡ old.frames
  pub refused_are : later.refused ≡ old.refused
  pub pushed : List PlainOrder
  pub orders_are : later.orders ≡ old.orders ++ pushed
  pub begins : IsPrefixOf pushed orders

-- All orders that the history gained were pushed, and the frames before one that was refused were put.
pub record PutsSome (past new : History) (old later : Ports) : Type 0 where
  pub messages : List Outgoing
  pub orders : List PlainOrder
  pub adds : AddsToHistory past new messages orders
  pub orders_are : later.orders ≡ old.orders ++ orders
  pub put : List (List ℕ)
  pub frames_are : later.frames ≡ old.frames ++ put
  pub frame : List ℕ
  pub refused_are : later.refused ≡ old.refused ++ frame ∷ []
  pub begins : IsPrefixOf (put ++ frame ∷ []) (frames_from (next_seq past) messages)
  pub seqs_fit : SeqsFit past new

-- What was sent of one more step, which leads from `past` to `new`, where this fault ended the sending. The fault has
-- its cause: a port refused, or no seq is left for a message. Frames are built first, then orders pushed, then frames
-- put.
abbrev pub BreaksOff : SessionFault → History → History → Ports → Ports → Type 0
BreaksOff (Frame k) past new old later = ⊥
BreaksOff NoMemory past new old later = later ≡ old
BreaksOff SeqExhausted past new old later = (later ≡ old) × (2 ^ 53 < next_seq new)
BreaksOff OrdersFull past new old later = PushesSome past new old later × (old.orders_full < later.orders_full)
BreaksOff RunnerGone past new old later = PushesSome past new old later × (old.runner_gone < later.runner_gone)
BreaksOff WriterGone past new old later = PutsSome past new old later

-- One Quit was pushed, and nothing was refused; or the port refused it, and the count for the reason has grown.
abbrev pub HasTriedQuit : PushedOrders → PushedOrders → Type 0
HasTriedQuit old later =
    ((later.orders ≡ old.orders ++ Quit ∷ []) × (later.fulls ≡ old.fulls) × (later.refusals ≡ old.refusals))
    ⊎ ((later.orders ≡ old.orders)
    × (((old.fulls < later.fulls) × (later.refusals ≡ old.refusals))
    ⊎ ((old.refusals < later.refusals) × (later.fulls ≡ old.fulls))))

-- what the port of orders did
abbrev pub ordered_at : Ports → PushedOrders
ordered_at p = record { orders = p.orders; fulls = p.orders_full; refusals = p.runner_gone }

-- One Quit was pushed or refused, and nothing else was sent.
pub record TriesQuit (old later : Ports) : Type 0 where
  pub frames_are : later.frames ≡ old.frames
  pub refused_are : later.refused ≡ old.refused
  pub quit : HasTriedQuit (ordered_at old) (ordered_at later)
