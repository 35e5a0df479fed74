-- Defines, for private contracts, replies after which the phase is as before.
use Rattle.std.specs.Prelude.{[], Option, Result}
use Rattle.dap_msg.specs.declared.command.Command.{Command}
use Rattle.dap_msg.specs.declared.command.Command.TheVariants as command
use Rattle.dap_msg.specs.declared.outgoing.Body.{Body}
use Rattle.dap_msg.specs.declared.outgoing.Refusal.{Refusal}
use Rattle.dbg_runner.specs.declared.order.Order.{Order}
use Rattle.dap_replies.specs.declared.phase.Phase.{Phase}
use Rattle.dap_replies.specs.declared.effect.Reply.{Reply as Given}
use Rattle.dap_replies.specs.Going.{IsAtStop}

-- an answer to the command leaves the phase as it is, even where it succeeds
abbrev pub Leaves : Phase → Command → Type 0
Leaves p (command.Initialize asked) = ⊥
Leaves p (command.Launch asked) = ⊥
Leaves p (command.Pause asked) = IsAtStop p
Leaves p (command.BadArguments k) = ⊥
Leaves p _ = Unit {0}

-- the reply with this result, this order or none, and no events
abbrev pub without_events : Result Body Refusal → Option Order → Phase → Given
without_events result order phase =
    record { result = result; effect = record { events = []; order = order; phase = phase } }
