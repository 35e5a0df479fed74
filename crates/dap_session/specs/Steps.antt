-- Defines, for private contracts, the result of sending one step.
use Rattle.std.specs.Prelude.{◌≡◌, ◌++◌, ◌∷◌, [], List, Result, Ok, Err}
use Rattle.std.specs.Option.{option_to_list}
use Rattle.std.specs.Prelude.{map, Option, option_map}
use Rattle.dap_msg.specs.declared.outgoing.EventBody.{EventBody}
use Rattle.dap_msg.specs.declared.outgoing.Outgoing.{Outgoing}
use Rattle.dap_msg.specs.declared.outgoing.Outgoing.TheVariants.{Event}
use Rattle.dbg_runner.specs.declared.order.Order.{Order}
use Rattle.dbg_runner.specs.Orders.{plain_order}
use Rattle.dap_history.specs.declared.fault.SessionFault.{SessionFault}
use Rattle.dap_history.specs.History.{Step, History, messages, with_answer, next_seq}
use Rattle.dap_replies.specs.declared.effect.Effect.{Effect as Done}
use Rattle.dap_session.specs.Ports.{Ports}
use Rattle.dap_session.specs.Sending.{Sends, RefusesNothing, BreaksOff}
use Rattle.dap_session.specs.State.{State}

-- the step's messages are the answer, if there is one, and the events, and its orders are the order, if there is one
pub record IsStepWith (answer : Option Outgoing) (events : List EventBody) (order : Option Order)
    (step : Step) : Type 0 where
  pub messages_are : messages step ≡ with_answer answer (map Event events)
  pub orders_are : step.effect.orders ≡ option_to_list (option_map plain_order order)

-- the step's messages and orders are these
abbrev pub IsStepOf : Option Outgoing → Done → Step → Type 0
IsStepOf answer done step = IsStepWith answer done.events done.order step

-- The step after `past` was sent, or its sending was ended by the fault.
abbrev pub IsSent : Result (Unit {0}) SessionFault → History → Step → State → Ports → Ports → Type 0
IsSent (Ok u) past step session old later =
    Sends past (past ++ step ∷ []) old later × RefusesNothing old later
    × (session.next_seq ≡ next_seq (past ++ step ∷ []))
IsSent (Err fault) past step session old later = BreaksOff fault past (past ++ step ∷ []) old later
