-- Defines the history of a session: the items that it has taken, and what each caused.
use Rattle.std.specs.Prelude.{ℕ, ◌+◌, Bool, List, ◌∷◌, map, length, flat_map, Option, None, Some}
use Rattle.dap_frame.specs.declared.fault.FramingFault.{FramingFault}
use Rattle.dap_msg.specs.declared.request.Request.{Request}
use Rattle.dap_history.specs.declared.launch.Launch.{Launch}
use Rattle.dap_msg.specs.declared.outgoing.Outgoing.{Outgoing}
use Rattle.dap_msg.specs.declared.outgoing.Outgoing.TheVariants.{Event}
use Rattle.dap_msg.specs.declared.outgoing.EventBody.{EventBody}
use Rattle.pl0_tree.specs.Tree.{Block}
use Rattle.dbg_plan.specs.Breakpoints.{Breakpoint}
use Rattle.dbg_runner.specs.Plain.{PlainReport, PlainOrder}
use Rattle.dap_history.specs.Plans.{Plan}

-- A program that is launched: its path, its text, and what the text reads as.
pub record Launched : Type 0 where
  pub path : List ℕ
  pub stop_on_entry : Bool
  pub text : List ℕ
  pub program : Block

-- What a session takes: a content, with the request that it is, or none; a launch with its file's bytes, or none where
-- the file can't be read; a report that is accepted; a framing fault; the end of the input; a failed read; a failed
-- allocation.
pub data Item : Type 0 where
  Content : Option Request → Item
  Loaded : Launch → Option (List ℕ) → Item
  Accepted : PlainReport → Item
  Fault : FramingFault → Item
  InputEnd : Item
  ReadFailure : Item
  MemoryFailure : Item

-- What an item causes after its answer, if it has one: events and orders; the program that it launches; the plan that
-- it puts into the debuggee; and the breakpoints that wait until the runner returns the debuggee.
pub record Effect : Type 0 where
  pub events : List EventBody
  pub orders : List PlainOrder
  pub launched : Option Launched
  pub put_in : Option Plan
  pub waits : Option (List Breakpoint)

-- an item that was taken, and what it caused
pub record Step : Type 0 where
  pub item : Item
  pub answer : Option Outgoing
  pub effect : Effect

-- the steps so far, the oldest first
abbrev pub History : Type 0
History = List Step

-- an answer, if there is one, in front of other messages
abbrev pub with_answer : Option Outgoing → List Outgoing → List Outgoing
with_answer None messages = messages
with_answer (Some answer) messages = answer ∷ messages

-- the messages of a step: the answer, and then the events
abbrev pub messages : Step → List Outgoing
messages step = with_answer step.answer (map Event step.effect.events)

-- the messages of all steps, in order
abbrev pub messages_of : History → List Outgoing
messages_of past = flat_map messages past

-- the orders of all steps, in order
abbrev pub orders_of : History → List PlainOrder
orders_of past = flat_map (λ step. step.effect.orders) past

-- the seq of the next message
abbrev pub next_seq : History → ℕ
next_seq past = length (messages_of past) + 1
