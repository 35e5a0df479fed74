-- States the laws of answers: which request is refused in which situation, and with what; and what kind of answer one
-- that is granted gets. The table is that of the protocol's page, a line a row.
use Rattle.std.specs.Prelude.{◌≡◌, ◌∷◌, [], ℕ, nat_eq, if◌then◌else◌, List, map, Option, None, Some, Result, Ok, Err}
use Rattle.dap_msg.specs.Commands.{name_of}
use Rattle.dap_msg.specs.declared.request.Request.{Request}
use Rattle.dap_msg.specs.declared.command.Command.{Command}
use Rattle.dap_msg.specs.declared.command.Command.TheVariants as command
use Rattle.dap_msg.specs.declared.command.CommandName.{CommandName}
use Rattle.dap_msg.specs.declared.requests.resume.ResumeKind.TheVariants as resume
use Rattle.dap_msg.specs.declared.question.Question.TheVariants as question
use Rattle.dap_msg.specs.declared.question.Shown.{Shown}
use Rattle.dap_msg.specs.declared.outgoing.Outgoing.{Outgoing}
use Rattle.dap_msg.specs.declared.outgoing.Outgoing.TheVariants.{Answer, Event}
use Rattle.dap_msg.specs.declared.outgoing.Body.{Body}
use Rattle.dap_msg.specs.declared.outgoing.Body.TheVariants as body
use Rattle.dap_msg.specs.declared.outgoing.BreakpointAnswer.{BreakpointAnswer}
use Rattle.dap_msg.specs.declared.outgoing.Refusal.{Refusal}
use Rattle.dap_msg.specs.declared.outgoing.Refusal.TheVariants as refusal
use Rattle.dap_history.specs.declared.situation.Situation.{Situation}
use Rattle.dap_history.specs.declared.situation.Situation.TheVariants.{Fresh, Ready, Configuring, Running, Stopped, Faulted, Ended}
use Rattle.dap_history.specs.Last.{or_else}
use Rattle.dap_history.specs.Replies.{in_body}
use Rattle.dap_history.specs.History.{Item, Content, Loaded, Accepted, Step, Effect, messages}
use Rattle.dap_history.specs.Readings.{situation}
use Rattle.dap_history.specs.Always.{OfSteps}

-- ---- the table: what a command is refused with in a situation

-- no refusal: granted
abbrev pub yes : Option Refusal
yes = None

-- `wrongPhase`
abbrev pub phase : Option Refusal
phase = Some refusal.WrongPhase

-- `notStopped`
abbrev pub not_stopped : Option Refusal
not_stopped = Some refusal.NotStopped

-- the column of the situation
abbrev pub column : Situation
    → (fresh ready configuring running stopped faulted ended : Option Refusal) → Option Refusal
column Fresh fresh ready configuring running stopped faulted ended = fresh
column Ready fresh ready configuring running stopped faulted ended = ready
column Configuring fresh ready configuring running stopped faulted ended = configuring
column Running fresh ready configuring running stopped faulted ended = running
column Stopped fresh ready configuring running stopped faulted ended = stopped
column Faulted fresh ready configuring running stopped faulted ended = faulted
column Ended fresh ready configuring running stopped faulted ended = ended

-- A row for each command; its columns are Fresh, Ready, Configuring, Running, Stopped, Faulted, Ended.
abbrev pub refused_in : Situation → Command → Option Refusal
refused_in s (command.Initialize asked) = column s yes phase phase phase phase phase phase
refused_in s (command.Launch asked) = column s phase yes phase phase phase phase phase
refused_in s (command.SetBreakpoints asked) = column s phase phase yes yes yes yes yes
refused_in s command.ConfigurationDone = column s phase phase yes phase phase phase phase
refused_in s command.Threads = column s phase yes yes yes yes yes yes
refused_in s (command.Resume kind asked) = column s phase phase phase not_stopped yes yes phase
refused_in s (command.Retreat kind asked) = column s phase phase phase not_stopped yes yes phase
refused_in s (command.Pause asked) = column s phase phase phase yes yes yes phase
refused_in s (command.Inspect asked) = column s phase phase phase not_stopped yes yes phase
refused_in s command.Disconnect = column s yes yes yes yes yes yes yes
refused_in s (command.Unsupported text) = Some refusal.Unsupported
refused_in s (command.BadArguments k) = Some refusal.BadArguments

-- the thread that a command names, if it names one
abbrev pub thread_of : Command → Option ℕ
thread_of (command.Resume kind asked) = Some asked.thread_id
thread_of (command.Retreat kind asked) = Some asked.thread_id
thread_of (command.Pause asked) = Some asked.thread_id
thread_of (command.Inspect (question.StackTrace asked)) = Some asked.thread_id
thread_of _ = None

-- a thread other than 1 is refused: 1 is the only one
abbrev pub refused_thread : Option ℕ → Option Refusal
refused_thread None = None
refused_thread (Some n) = if nat_eq n 1 then None else Some refusal.UnknownThread

-- What refuses a command before frames and expressions are looked at: its situation, or else its thread.
abbrev pub refused_by : Situation → Command → Option Refusal
refused_by s asked = or_else (refused_in s asked) (refused_thread (thread_of asked))

-- ---- what is answered otherwise

-- What is answered where neither the situation nor the thread refuses: `initialize`, `threads`, `continue`,
-- `setBreakpoints` and the questions have each their body, and no other command has one. A question may still be
-- refused: `AnswersShowTheProgram` says what it shows, and which refusal it gets where. A `launch` isn't answered then:
-- it waits for its file.
abbrev pub IsGranted : Command → Result Body Refusal → Type 0
IsGranted (command.Initialize asked) result = result ≡ Ok body.Capabilities
IsGranted command.Threads result = result ≡ Ok body.Threads
IsGranted (command.Resume resume.Continue asked) result = result ≡ Ok body.Continued
IsGranted (command.SetBreakpoints asked) result =
    (answers : List BreakpointAnswer) × (result ≡ Ok (body.Breakpoints answers))
IsGranted (command.Inspect asked) result = (answer : Result Shown Refusal) × (result ≡ in_body answer)
IsGranted (command.Launch asked) result = ⊥
IsGranted _ result = result ≡ Ok body.None

-- the verdict, by what refuses the command, if anything does
abbrev pub IsVerdict : Option Refusal → Command → Result Body Refusal → Type 0
IsVerdict (Some why) asked result = result ≡ Err why
IsVerdict None asked result = IsGranted asked result

-- ---- the laws

-- Each request is answered under its own seq and command: with the refusal of its situation, or for another thread
-- than 1, if there is one, and otherwise with its command's kind of body. A question is answered as
-- `AnswersShowTheProgram` says; a launch that isn't refused waits for its file, and is no such item.
-- `EachLaunchIsOfItsFile` says how it ends.
abbrev pub EachIsJudged : Type 0
EachIsJudged = OfSteps (λ before step.
    (request : Request)
    → step.item ≡ Content (Some request)
    → (result : Result Body Refusal) × (step.answer ≡ Some (Answer request.seq (name_of request.body) result))
    × IsVerdict (refused_by (situation before) request.body) request.body result)

-- the effect is none: no event, no order, and nothing is launched, put in or made to wait
pub record IsNothing (effect : Effect) : Type 0 where
  pub events_are : effect.events ≡ []
  pub orders_are : effect.orders ≡ []
  pub launched_is : effect.launched ≡ None
  pub put_in_is : effect.put_in ≡ None
  pub waits_are : effect.waits ≡ None

-- A refusal changes nothing, and no event follows it.
abbrev pub RefusalsChangeNothing : Type 0
RefusalsChangeNothing = OfSteps (λ before step.
    (seq : ℕ) (name : CommandName) (why : Refusal) → step.answer ≡ Some (Answer seq name (Err why))
    → IsNothing step.effect)

-- the item is a request, a launch with its file, or a report
abbrev pub SpeaksUp : Item → Type 0
SpeaksUp (Content (Some request)) = Unit {0}
SpeaksUp (Loaded launch file) = Unit {0}
SpeaksUp (Accepted r) = Unit {0}
SpeaksUp _ = ⊥

-- A content that is no request, the end of the input, a failure or a framing fault isn't answered and tells nothing.
abbrev pub OthersTellNothing : Type 0
OthersTellNothing = OfSteps (λ before step.
    ¬ SpeaksUp step.item → (step.answer ≡ None) × (step.effect.events ≡ []))

-- A step sends its answer, if it has one, and then its events.
abbrev pub AnswersComeFirst : Type 0
AnswersComeFirst =
    ((step : Step) (answer : Outgoing) → step.answer ≡ Some answer
    → messages step ≡ answer ∷ map Event step.effect.events)
    × ((step : Step) → step.answer ≡ None → messages step ≡ map Event step.effect.events)
