-- What is replied in the situation of a phase.
use Rattle.std.proofs.Common.{◌≡◌, sym, subst}
use Rattle.dap_msg.specs.declared.command.Command.{Command}
use Rattle.dap_history.specs.History.{History}
use Rattle.dap_history.specs.Readings.{situation}
use Rattle.dap_history.specs.Replies.{Reply}
use Rattle.dap_history.specs.Reactions.{Reaction, reply_of, Reacts}
use Rattle.dap_history.specs.Emission.{RepliesIn}
use Rattle.dbg_plan.specs.Debugged.{Debugged}
use Rattle.dap_replies.specs.declared.phase.Phase.{Phase}
use Rattle.dap_replies.specs.declared.phase.Phase.TheVariants as phase
use Rattle.dap_replies.specs.declared.phase.Target.{Target}
use Rattle.dap_replies.specs.Phases.{IsPhase, situation_of}

-- the situation of the history is that of the phase
pub replies_there : (p : Phase) (past : History) → IsPhase p past → (command : Command) (reply : Reply)
    → RepliesIn (situation_of p) past command reply → RepliesIn (situation past) past command reply
replies_there p past is command reply = subst (λ s. RepliesIn s past command reply) (sym is.situation_is)

-- the reply of a reaction that the table has in the situation of the phase
pub replies_by : (p : Phase) (past : History) → IsPhase p past → (command : Command) (reaction : Reaction)
    → Reacts (situation_of p) past command reaction → (reply : Reply) → reply ≡ reply_of past reaction
    → RepliesIn (situation past) past command reply
replies_by p past is command reaction reacts reply reply_is =
    replies_there p past is command reply (record { reaction = reaction; reacts = reacts; reply_is = reply_is })

-- ---- where a program stands

-- it stopped, or it stopped before a step that faults
pub data StandsAt : Type 0 where
  Stop : StandsAt
  Fault : StandsAt

abbrev pub phase_at : StandsAt → Target → Debugged → Phase
phase_at Stop t d = phase.Stopped t d
phase_at Fault t d = phase.Faulted t d
