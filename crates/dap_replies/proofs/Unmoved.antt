-- A reply that nothing follows, and whose step is quiet, leaves the phase as it is.
use Rattle.std.proofs.Common.{◌≡◌, ℕ, [], ◌∷◌, ◌++◌, None, Some, Result, Ok, refl, ◌∙◌}
use Rattle.dap_msg.specs.Commands.{name_of}
use Rattle.dap_msg.specs.declared.command.Command.{Command}
use Rattle.dap_msg.specs.declared.command.Command.TheVariants as command
use Rattle.dap_msg.specs.declared.outgoing.Body.{Body}
use Rattle.dap_msg.specs.declared.requests.resume.ThreadArguments.{ThreadArguments}
use Rattle.dap_msg.specs.declared.outgoing.Outgoing.TheVariants.{Answer}
use Rattle.dap_msg.specs.declared.outgoing.Refusal.{Refusal}
use Rattle.dap_history.specs.History.{History}
use Rattle.dap_history.specs.ReadingLaws.{ReadingsGoOn}
use Rattle.dap_history.specs.Readings.{answer_mark, settings_of, is_pause}
use Rattle.dap_history.specs.Replies.{Reply, nothing, answered}
use Rattle.dap_history.specs.Emission.{RepliesIn}
use Rattle.dap_replies.specs.declared.phase.Phase.{Phase}
use Rattle.dap_replies.specs.declared.phase.Phase.TheVariants as phase
use Rattle.dap_replies.specs.Phases.{IsPhase, situation_of}
use Rattle.dap_replies.specs.Replied.{HasReplied, request_step}
use Rattle.dap_replies.specs.Going.{IsAtStop}
use Rattle.dap_replies.specs.Answering.{Leaves, without_events}
use Rattle.dap_replies.proofs.Situations.{replies_there}
use Rattle.dap_replies.proofs.Stays.{situation_stays, target_stays, debuggee_stays, phase_stays}

-- a reply with no effect, after which the phase is one of the longer history
pub unmoved : (p : Phase) (result : Result Body Refusal) (command : Command) (past : History)
    → IsPhase p past
    → RepliesIn (situation_of p) past command (record { result = result; effect = nothing })
    → ((seq : ℕ) → IsPhase p (past ++ request_step (record { seq = seq; body = command })
    (record { result = result; effect = nothing }) ∷ []))
    → HasReplied command past (without_events result None p)
unmoved p result command past stands replies stays =
    let reply : Reply = record { result = result; effect = nothing } in
    record {
      reply = reply;
      replies = replies_there p past stands command reply replies;
      gives = record { result_is = refl; effect_is = record { events_are = refl; orders_are = refl } };
      phase_is = stays;
    }

-- a pause where the program stands: none waits there
pauses_there : ReadingsGoOn → (p : Phase) (asked : ThreadArguments) (body : Body) → IsAtStop p → (past : History)
    → IsPhase p past → (seq : ℕ)
    → IsPhase p (past ++ request_step (record { seq = seq; body = command.Pause asked }) (answered body) ∷ [])
pauses_there laws (phase.Stopped t d) asked body at past is seq =
    let step = request_step (record { seq = seq; body = command.Pause asked }) (answered body) in record {
      situation_is = situation_stays laws past step refl ∙ is.situation_is;
      keeps = (
        target_stays laws past step refl refl refl refl t d.unit is.keeps.0,
        debuggee_stays laws past step refl refl d is.keeps.1,
      );
    }
pauses_there laws (phase.Faulted t d) asked body at past is seq =
    let step = request_step (record { seq = seq; body = command.Pause asked }) (answered body) in record {
      situation_is = situation_stays laws past step refl ∙ is.situation_is;
      keeps = (
        target_stays laws past step refl refl refl refl t d.unit is.keeps.0,
        debuggee_stays laws past step refl refl d is.keeps.1,
      );
    }
pauses_there laws _ asked body at past is seq = absurd at

no_mark : (p : Phase) (command : Command) (body : Body) → Leaves p command
    → answer_mark (name_of command) (Ok body) ≡ None
no_mark p (command.Initialize asked) body leaves = absurd leaves
no_mark p (command.Launch asked) body leaves = absurd leaves
no_mark p (command.BadArguments k) body leaves = absurd leaves
no_mark p _ body leaves = refl

sets_none : (p : Phase) (command : Command) → Leaves p command → settings_of command ≡ None
sets_none p (command.Initialize asked) leaves = absurd leaves
sets_none p _ leaves = refl

abbrev IsNoPause : Command → Type 0
IsNoPause (command.Pause asked) = ⊥
IsNoPause (command.BadArguments k) = ⊥
IsNoPause _ = Unit {0}

no_pause : (seq : ℕ) (command : Command) (body : Body) → IsNoPause command
    → is_pause (Some (Answer seq (name_of command) (Ok body))) ≡ None
no_pause seq (command.Pause asked) body other = absurd other
no_pause seq (command.BadArguments k) body other = absurd other
no_pause seq _ body other = refl

-- any other answer changes no reading
stays_after : ReadingsGoOn → (p : Phase) (command : Command) (body : Body) → Leaves p command → IsNoPause command
    → (past : History) → IsPhase p past → (seq : ℕ)
    → IsPhase p (past ++ request_step (record { seq = seq; body = command }) (answered body) ∷ [])
stays_after laws p command body leaves other past is seq =
    phase_stays laws p past (request_step (record { seq = seq; body = command }) (answered body)) (record {
      effect_is = refl;
      no_mark = no_mark p command body leaves;
      sets_none = sets_none p command leaves;
      no_pause = no_pause seq command body other;
      no_end = refl;
      tells_none = refl;
    }) is

-- an answer to such a command leaves the phase as it is
pub leaves_phase : ReadingsGoOn → (p : Phase) (command : Command) (body : Body) → Leaves p command
    → (past : History) → IsPhase p past → (seq : ℕ)
    → IsPhase p (past ++ request_step (record { seq = seq; body = command }) (answered body) ∷ [])
leaves_phase laws p (command.Pause asked) body leaves past is seq = pauses_there laws p asked body leaves past is seq
leaves_phase laws p (command.BadArguments k) body leaves past is seq = absurd leaves
leaves_phase laws p _ body leaves past is seq = stays_after laws p _ body leaves tt past is seq
