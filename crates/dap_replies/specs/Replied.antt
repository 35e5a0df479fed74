-- Defines the contract of the functions that handle an item: the answer, the events and the order are those of the
-- definitions, and the phase afterwards represents the history with the item's step.
use Rattle.std.specs.Prelude.{◌≡◌, ◌≢◌, ◌⊎◌, ◌++◌, ◌∷◌, [], ℕ, List, Option, None, Some, option_map}
use Rattle.std.specs.Option.{option_to_list}
use Rattle.dap_msg.specs.Commands.{name_of}
use Rattle.dap_msg.specs.declared.request.Request.{Request}
use Rattle.dap_msg.specs.declared.command.Command.{Command}
use Rattle.dap_msg.specs.declared.command.Command.TheVariants as command
use Rattle.dap_msg.specs.declared.command.CommandName.TheVariants as name
use Rattle.dap_msg.specs.declared.command.Supported.TheVariants as supported
use Rattle.dap_msg.specs.declared.question.Question.{Question}
use Rattle.dap_msg.specs.declared.requests.resume.ThreadArguments.{ThreadArguments}
use Rattle.dap_msg.specs.declared.outgoing.Outgoing.{Outgoing}
use Rattle.dap_msg.specs.declared.outgoing.Outgoing.TheVariants.{Answer}
use Rattle.pl0_machine.specs.Machine.{frames}
use Rattle.dbg_plan.specs.Debugged.{machine_of}
use Rattle.dbg_runner.specs.Plain.{PlainReport}
use Rattle.dbg_runner.specs.Orders.{plain_order}
use Rattle.dbg_runner.specs.declared.outcome.SliceOutcome.TheVariants as slice
use Rattle.dap_history.specs.declared.launch.Launch.{Launch}
use Rattle.dap_history.specs.History.{Item, Content, Loaded, Accepted, Step, History, Effect}
use Rattle.dap_history.specs.Readings.{situation}
use Rattle.dap_history.specs.Replies.{Reply}
use Rattle.dap_history.specs.Launching.{Launches}
use Rattle.dap_history.specs.Reports.{report_effect}
use Rattle.dap_history.specs.Emission.{RepliesIn}
use Rattle.dap_replies.specs.declared.phase.Phase.{Phase}
use Rattle.dap_replies.specs.declared.phase.Phase.TheVariants as phase
use Rattle.dap_replies.specs.Phases.{IsPhase}
use Rattle.dap_inspection.specs.Questions.{NamesNothingLive}
use Rattle.dap_replies.specs.declared.effect.Effect.{Effect as Done}
use Rattle.dap_replies.specs.declared.effect.Reply.{Reply as Given}

-- ---- the step of an item

-- the step of an item with this answer and this effect
abbrev pub step_of : Item → Option Outgoing → Effect → Step
step_of item answer effect = record { item = item; answer = answer; effect = effect }

-- the step of a request with this reply
abbrev pub request_step : Request → Reply → Step
request_step request reply =
    step_of (Content (Some request)) (Some (Answer request.seq (name_of request.body) reply.result)) reply.effect

-- the step of a launch with its file and this reply
abbrev pub launch_step : Launch → Option (List ℕ) → Reply → Step
launch_step launch file reply =
    step_of (Loaded launch file) (Some (Answer launch.seq (name.Supported supported.Launch) reply.result)) reply.effect

-- the step of an accepted report with this effect
abbrev pub report_step : PlainReport → Effect → Step
report_step r effect = step_of (Accepted r) None effect

-- ---- what was done

-- the events and the order are those of the effect
pub record DoesEffect (done : Done) (effect : Effect) : Type 0 where
  pub events_are : done.events ≡ effect.events
  pub orders_are : option_to_list (option_map plain_order done.order) ≡ effect.orders

-- what was done is the reply of the definitions
pub record GivesReply (given : Given) (reply : Reply) : Type 0 where
  pub result_is : given.result ≡ reply.result
  pub effect_is : DoesEffect given.effect reply.effect

-- this is a right reply to the command, whatever the seq of its request is
pub record HasReplied (command : Command) (past : History) (given : Given) : Type 0 where
  pub reply : Reply
  pub replies : RepliesIn (situation past) past command reply
  pub gives : GivesReply given reply
  pub phase_is : (seq : ℕ) → IsPhase given.effect.phase
      (past ++ request_step (record { seq = seq; body = command }) reply ∷ [])

-- the contract of a function that replies: the same for each history that the phase represented
abbrev pub Replies : Command → Phase → Given → Type 0
Replies command phase given = (past : History) → IsPhase phase past → HasReplied command past given

-- this is a right reply to the launch
pub record HasLaunched (launch : Launch) (file : Option (List ℕ)) (past : History) (given : Given) : Type 0 where
  pub reply : Reply
  pub launches : Launches launch.arguments file reply
  pub gives : GivesReply given reply
  pub phase_is : IsPhase given.effect.phase (past ++ launch_step launch file reply ∷ [])

-- this is what follows the report
pub record HasReported (r : PlainReport) (past : History) (done : Done) : Type 0 where
  pub does : DoesEffect done (report_effect past r r.outcome)
  pub phase_is : IsPhase done.phase (past ++ report_step r (report_effect past r r.outcome) ∷ [])

-- ---- what takes no memory

-- no program was launched
abbrev pub HasNoProgram : Phase → Type 0
HasNoProgram phase.Fresh = Unit {0}
HasNoProgram (phase.Ready settings) = Unit {0}
HasNoProgram (phase.Launching settings launch) = Unit {0}
HasNoProgram _ = ⊥

-- no program waits for its configuration
abbrev pub IsConfigured : Phase → Type 0
IsConfigured (phase.Configuring t d) = ⊥
IsConfigured _ = Unit {0}

-- no program stands
abbrev pub NothingStands : Phase → Type 0
NothingStands (phase.Stopped t d) = ⊥
NothingStands (phase.Faulted t d) = ⊥
NothingStands _ = Unit {0}

-- no program stands, or another thread is asked for than the only one
abbrev pub NothingMoves : Phase → ThreadArguments → Type 0
NothingMoves p asked = NothingStands p ⊎ (asked.thread_id ≢ 1)

-- no program stands, or the question names a thread, a frame or a reference that there isn't
abbrev pub NothingIsShown : Phase → Question → Type 0
NothingIsShown (phase.Stopped t d) question = NamesNothingLive (frames (machine_of d)) question
NothingIsShown (phase.Faulted t d) question = NamesNothingLive (frames (machine_of d)) question
NothingIsShown _ question = Unit {0}

-- The reply takes no memory: there is nothing to make for it, or the command isn't served.
abbrev pub TakesNoMemory : Phase → Command → Type 0
TakesNoMemory p (command.SetBreakpoints asked) = HasNoProgram p
TakesNoMemory p command.ConfigurationDone = IsConfigured p
TakesNoMemory p (command.Resume kind asked) = NothingMoves p asked
TakesNoMemory p (command.Retreat kind asked) = NothingMoves p asked
TakesNoMemory p (command.Inspect question) = NothingIsShown p question
TakesNoMemory p _ = Unit {0}

-- The report tells a client nothing: its run goes on, and it has no numbers and no logs.
pub record IsQuiet (r : PlainReport) : Type 0 where
  pub goes_on : r.outcome ≡ slice.More
  pub no_numbers : r.numbers ≡ []
  pub no_logs : r.logs ≡ []
