-- A request that is answered, and a launch that waits for its file.
use Rattle.std.proofs.Common.{◌≡◌, inl, inr, ℕ, Option, None, Some, Result, Ok, Err, refl, arith}
use Rattle.dap_msg.specs.declared.requests.launch.LaunchArguments.{LaunchArguments}
use Rattle.dap_msg.specs.declared.requests.initialize.InitializeArguments.{InitializeArguments}
use Rattle.dap_msg.specs.declared.request.Request.{Request}
use Rattle.dap_msg.specs.declared.command.Command.{Command}
use Rattle.dap_msg.specs.declared.command.Command.TheVariants as command
use Rattle.dap_history.specs.declared.fault.SessionFault.{SessionFault}
use Rattle.dap_history.specs.declared.launch.Launch.{Launch}
use Rattle.dap_history.specs.declared.situation.Situation.{Situation}
use Rattle.dap_history.specs.declared.situation.Situation.TheVariants.{Ready}
use Rattle.dap_history.specs.History.{Content, History}
use Rattle.dap_history.specs.Readings.{situation}
use Rattle.dap_history.specs.Launching.{wanted_by, wanted_in}
use Rattle.dap_replies.specs.declared.phase.Phase.{Phase}
use Rattle.dap_replies.specs.declared.phase.Phase.TheVariants as phase
use Rattle.dap_replies.specs.Phases.{situation_of, launch_of, WantsNoFile, IsPhase}
use Rattle.dap_session.specs.Ports.{Ports}
use Rattle.dap_session.specs.State.{State}
use Rattle.dap_session.specs.Handling.{HasHistory, HandlesItem, TakesContent, HandlesContent}
use Rattle.dap_session.proofs.Items.{refuses_none}
use Rattle.dap_session.proofs.Joining.{sends_nothing}
use Rattle.std.proofs.lemmas.Grind.{common_steps}

-- ---- which content wants a file

pub no_request_wanted : (s : Situation) → wanted_in s None ≡ None
no_request_wanted Ready = refl
no_request_wanted _ = refl

unwanted_by : (settings : InitializeArguments) (seq : ℕ) (body : Command) → WantsNoFile (phase.Ready settings) body
    → wanted_by seq body ≡ None
unwanted_by settings seq (command.Launch arguments) wants = absurd wants
unwanted_by settings seq _ wants = refl

unwanted_in : (p : Phase) (request : Request) → WantsNoFile p request.body → launch_of p ≡ None
    → wanted_in (situation_of p) (Some request) ≡ None
unwanted_in (phase.Ready settings) request wants free = unwanted_by settings request.seq request.body wants
unwanted_in (phase.Launching settings launch) request wants free = absurd cc
unwanted_in phase.Fresh request wants free = refl
unwanted_in (phase.Configuring t d) request wants free = refl
unwanted_in (phase.Running t run) request wants free = refl
unwanted_in (phase.Stopped t d) request wants free = refl
unwanted_in (phase.Faulted t d) request wants free = refl
unwanted_in (phase.Ended t u) request wants free = refl

pub unwanted : (p : Phase) (past : History) (request : Request) → IsPhase p past → WantsNoFile p request.body
    → launch_of p ≡ None → wanted_in (situation past) (Some request) ≡ None
unwanted p past request is wants free = cc (is.situation_is, unwanted_in p request wants free)

-- ---- what comes of a content

-- the item of a content that wants no file
pub content_of_item : (result : Result (Unit {0}) SessionFault) (past : History) (request : Option Request)
    (session : State) (old later : Ports) → wanted_in (situation past) request ≡ None
    → HandlesItem result past (Content request) session old later → HandlesContent result past request session old later
content_of_item (Ok u) past request session old later none item = grind (arith, common_steps)
content_of_item (Err fault) past request session old later none item =
    record {
      next = item.next;
      next_is = elim item.next_is [ inl same ↦ inl same | inr after ↦ inr (none, after) ];
      breaks = item.breaks;
    }

-- the session with a launch that waits
pub record IsWaiting (session waiting : State) (settings : InitializeArguments) (launch : Launch) : Type 0 where
  pub phase_was : session.phase ≡ phase.Ready settings
  pub phase_is : waiting.phase ≡ phase.Launching settings launch
  pub ending_is : waiting.ending ≡ session.ending
  pub seq_is : waiting.next_seq ≡ session.next_seq

launching_phase : (settings : InitializeArguments) (launch : Launch) (past : History)
    → IsPhase (phase.Ready settings) past → IsPhase (phase.Launching settings launch) past
launching_phase settings launch past is = record { situation_is = is.situation_is; keeps = is.keeps }

pub launch_waits : (past : History) (request : Request) (arguments : LaunchArguments) (settings : InitializeArguments)
    (session waiting : State) (old : Ports) → session.ending ≡ None → HasHistory session past
    → request.body ≡ command.Launch arguments
    → IsWaiting session waiting settings (record { seq = request.seq; arguments = arguments })
    → TakesContent past (Some request) waiting old old
launch_waits past request arguments settings session waiting old open_ at launches is =
    grind (arith, common_steps, launching_phase, sends_nothing, refuses_none)
