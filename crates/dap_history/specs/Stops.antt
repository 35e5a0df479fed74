-- States the laws of stops: each is where it has to be, and what a client asks there is answered from there.
use Rattle.std.specs.Prelude.{if◌then◌else◌, ◌≡◌, ◌++◌, ◌∷◌, [], ◌⊎◌, ℕ, ◌<◌, ◌≤◌, Bool, true, false, List, Option, None, Some, Result, Ok, All}
use Rattle.dap_msg.specs.Commands.{name_of}
use Rattle.dap_msg.specs.declared.request.Request.{Request}
use Rattle.dap_msg.specs.declared.command.Command.{Command}
use Rattle.dap_msg.specs.declared.command.Command.TheVariants as command
use Rattle.dap_msg.specs.declared.question.Question.{Question}
use Rattle.dap_msg.specs.declared.question.Shown.{Shown}
use Rattle.dap_msg.specs.declared.outgoing.Refusal.{Refusal}
use Rattle.dap_msg.specs.declared.outgoing.Outgoing.TheVariants.{Answer}
use Rattle.dap_msg.specs.declared.outgoing.Body.{Body}
use Rattle.dap_msg.specs.declared.outgoing.EventBody.{EventBody}
use Rattle.dap_msg.specs.declared.outgoing.EventBody.TheVariants as event
use Rattle.dap_msg.specs.declared.outgoing.StopReason.{StopReason}
use Rattle.dap_msg.specs.declared.outgoing.StopReason.TheVariants as stop
use Rattle.dap_msg.specs.declared.outgoing.Exception.{Exception}
use Rattle.dap_msg.specs.declared.outgoing.Exception.TheVariants as exception
use Rattle.pl0_meaning.specs.declared.RunFault.{RunFault}
use Rattle.pl0_meaning.specs.declared.RunFault.TheVariants as run_fault
use Rattle.pl0_meaning.specs.Runs.{at, outcome, Faults}
use Rattle.dbg_plan.specs.declared.mode.Reason.{Reason}
use Rattle.dbg_plan.specs.declared.mode.Reason.TheVariants as reason
use Rattle.dbg_plan.specs.Due.{due}
use Rattle.dbg_plan.specs.Retreat.{Stop, goal_of}
use Rattle.dbg_runner.specs.declared.outcome.SliceOutcome.{SliceOutcome}
use Rattle.dbg_runner.specs.declared.outcome.SliceOutcome.TheVariants as slice
use Rattle.dbg_runner.specs.Plain.{Heading, PlainReport, PlainOrder, Go, goes_back}
use Rattle.dap_history.specs.declared.situation.Situation.{Situation}
use Rattle.dap_history.specs.declared.situation.Situation.TheVariants.{Stopped, Faulted}
use Rattle.dap_history.specs.Last.{last_such}
use Rattle.dap_history.specs.History.{Launched, Content, Accepted, Step, History}
use Rattle.dap_history.specs.Readings.{go, situation, launched, last_run, position, plan, waiting_pause}
use Rattle.dbg_plan.specs.declared.mode.Mode.TheVariants as mode
use Rattle.dap_history.specs.Replies.{in_body}
use Rattle.dap_history.specs.Inspection.{RepliesAt, subject_in}
use Rattle.dap_history.specs.Always.{OfHistories, OfLawfulHistories, OfLawfulSteps, OfSteps}

-- why a position is due, as the client is told: `stop_of` once more, so that the laws can refuse a wrong one
abbrev pub told_reason : Reason → StopReason
told_reason reason.Breakpoint = stop.Breakpoint
told_reason reason.Step = stop.Step
told_reason reason.Entry = stop.Entry

-- the fault of a step, as the client is told: `exception_of` once more, for the same reason
abbrev pub told_fault : RunFault → Exception
told_fault run_fault.Overflow = exception.Overflow
told_fault run_fault.DivideByZero = exception.DivideByZero
told_fault run_fault.Depth = exception.Depth
told_fault run_fault.StepLimit = exception.StepLimit

-- the reason of a stop that an event reports, if it reports one
abbrev pub stop_of_event : EventBody → Option StopReason
stop_of_event (event.Stopped reason) = Some reason
stop_of_event _ = None

-- the stop that a step reports, if it reports one
abbrev pub stop_in : Step → Option StopReason
stop_in step = last_such stop_of_event step.effect.events

-- In the history `past`, the step after `before` reports that the program stopped at position m for this reason.
pub record StopsAt (past before : History) (reason : StopReason) (m : ℕ) : Type 0 where
  pub step : Step
  pub after : History
  pub past_is : past ≡ before ++ step ∷ after
  pub front : List EventBody
  pub back : List EventBody
  pub events_are : step.effect.events ≡ front ++ event.Stopped reason ∷ back
  pub position_is : m ≡ position (before ++ step ∷ [])

-- why a position is due in a run of the program, if it is
abbrev pub due_in_run : Launched → Heading → ℕ → Option Reason
due_in_run l run m = due l.program run.plan run.counted_from run.mode m

-- no position is due that lies after the run's beginning and before m
abbrev pub NoneDueBefore : Launched → Heading → ℕ → Type 0
NoneDueBefore l run m = (k : ℕ) → run.start < k → k < m → due_in_run l run k ≡ None

-- the same, up to and including m
abbrev pub NoneDueUpTo : Launched → Heading → ℕ → Type 0
NoneDueUpTo l run m = (k : ℕ) → run.start < k → k ≤ m → due_in_run l run k ≡ None

-- A run that goes forward stopped at m for this reason: at the first due position after its beginning; where it was
-- held; or before the step that faults.
abbrev pub IsRunsStop : Launched → Heading → StopReason → ℕ → Type 0
IsRunsStop l run stop.Pause m = (run.start ≤ m) × NoneDueUpTo l run m
IsRunsStop l run (stop.Exception x) m =
    (fault : RunFault) × (x ≡ told_fault fault) × (outcome l.program m ≡ Faults fault) × (run.start ≤ m)
    × NoneDueUpTo l run m
IsRunsStop l run reason m =
    (r : Reason) × (reason ≡ told_reason r) × (due_in_run l run m ≡ Some r) × (run.start < m) × NoneDueBefore l run m

-- A run that goes back stopped at m for this reason: it is the position to which its mode leads.
abbrev pub IsRetreatsStop : Launched → Heading → StopReason → ℕ → Type 0
IsRetreatsStop l run reason m =
    (goal : Stop) × (goal_of l.program run.plan run.mode run.start ≡ Some goal) × (m ≡ goal.position)
    × (reason ≡ told_reason goal.reason)

-- one of the two, by whether the run goes back
abbrev pub IsStopOf : Bool → Launched → Heading → StopReason → ℕ → Type 0
IsStopOf false l run reason m = IsRunsStop l run reason m
IsStopOf true l run reason m = IsRetreatsStop l run reason m

-- A stop after these steps: it is the last run's, or, where no run was ordered yet, at position 0.
abbrev pub IsRightStop : Launched → History → Option Heading → StopReason → ℕ → Type 0
IsRightStop l before (Some run) reason m = IsStopOf (goes_back run.mode) l run reason m
IsRightStop l before None reason m =
    (m ≡ 0) × ((r : Reason) × (reason ≡ told_reason r)
    × (due l.program (plan before).breakpoints (plan before).counted_from
    (if l.stop_on_entry then mode.Entry else mode.Continue) 0 ≡ Some r))

-- Each stop is where its run's mode and plan have it, with its reason or fault. It is at the first due position of
-- its run, where the run was held, before a step that faults, at position 0, or where going back leads. `Moves` says
-- this again in the words of the commands, without modes and due positions; a reader may skip this one.
abbrev pub EachStopIsRight : Type 0
EachStopIsRight = OfLawfulHistories (λ past.
    (before : History) (reason : StopReason) (m : ℕ) → StopsAt past before reason m
    → (l : Launched) × (launched before ≡ Some l) × IsRightStop l before (last_run before) reason m)

-- ---- what a report tells

-- a number or a log
abbrev pub IsOutput : EventBody → Type 0
IsOutput (event.Output v) = Unit {0}
IsOutput (event.Log text) = Unit {0}
IsOutput _ = ⊥

-- what the report of a held run tells: a stop, where a pause waits
abbrev pub tells_held : Bool → List EventBody
tells_held true = event.Stopped stop.Pause ∷ []
tells_held false = []

-- what a report tells after its numbers and logs: the stop, where it stops its run; or the program's end
abbrev pub tells : History → SliceOutcome → List EventBody
tells past slice.More = []
tells past (slice.Due reason) = event.Stopped (told_reason reason) ∷ []
tells past slice.Held = tells_held (waiting_pause past)
tells past slice.Done = event.Exited 0 ∷ event.Terminated ∷ []
tells past (slice.Fault fault) = event.Stopped (stop.Exception (told_fault fault)) ∷ []
tells past slice.NoMemory = []

-- An accepted report tells numbers and logs, and then the stop or the end of its run, if it has one. An end is told
-- as exited with the code 0.
abbrev pub EachReportIsTold : Type 0
EachReportIsTold = OfSteps (λ before step.
    (r : PlainReport)
    → step.item ≡ Accepted r
    → (step.answer ≡ None) × ((outputs : List EventBody) × All IsOutput outputs
    × (step.effect.events ≡ outputs ++ tells before r.outcome)))

-- what the start of the program tells: what position 0 logs, and perhaps a stop after that
abbrev pub TellsFirst : List EventBody → Type 0
TellsFirst events =
    (outputs : List EventBody) × All IsOutput
    outputs × ((events ≡ outputs) ⊎ ((reason : StopReason) × (events ≡ outputs ++ event.Stopped reason ∷ [])))

-- nothing, or, where the program stands before a fault, that it exited with the code 1
abbrev pub TellsEnd : Situation → List EventBody → Type 0
TellsEnd s events = (events ≡ []) ⊎ ((s ≡ Faulted) × (events ≡ event.Exited 1 ∷ event.Terminated ∷ []))

-- what a command tells besides its answer
abbrev pub TellsBy : Situation → Command → List EventBody → Type 0
TellsBy s command.ConfigurationDone events = TellsFirst events
TellsBy s (command.Resume kind asked) events = TellsEnd s events
TellsBy s _ events = events ≡ []

-- A request tells nothing besides its answer, unless it starts the program, or ends one that stands before a fault.
-- Such a program exited with the code 1.
abbrev pub EachReplyIsTold : Type 0
EachReplyIsTold = OfSteps (λ before step.
    (request : Request)
    → step.item ≡ Content (Some request)
    → TellsBy (situation before) request.body step.effect.events)

-- ---- runs

-- the run that a step orders, if it orders one
abbrev pub run_in : Step → Option Heading
run_in step = last_such go step.effect.orders

-- this run is among those that a step orders
pub record Orders (step : Step) (run : Heading) : Type 0 where
  pub front : List PlainOrder
  pub back : List PlainOrder
  pub orders_are : step.effect.orders ≡ front ++ Go run ∷ back

-- Each run is of the launched text, under the plan in force, from where the program stands.
abbrev pub EachRunStartsThere : Type 0
EachRunStartsThere = OfLawfulSteps (λ before step.
    (run : Heading)
    → Orders step run
    → (l : Launched) × (launched before ≡ Some l) × (run.text ≡ l.text) × (run.start ≡ position (before ++ step ∷ []))
    × (run.plan ≡ (plan (before ++ step ∷ [])).breakpoints) × (run.counted_from ≡ (plan
    (before ++ step ∷ [])).counted_from))

-- ---- what is asked at a stop

-- the program stands: the last event among beginnings of runs, stops and ends was a stop
abbrev pub IsStopped : Situation → Type 0
IsStopped Stopped = Unit {0}
IsStopped Faulted = Unit {0}
IsStopped _ = ⊥

-- the program stopped last at position m
pub record StoppedLastAt (past : History) (m : ℕ) : Type 0 where
  pub early : History
  pub step : Step
  pub later : History
  pub past_is : past ≡ early ++ step ∷ later
  pub reason : StopReason
  pub stop_is : stop_in step ≡ Some reason
  pub none_later : All (λ (s : Step). stop_in s ≡ None) later
  pub position_is : m ≡ position (early ++ step ∷ [])

-- in the history `past`, the question was taken after the steps `before`
pub record Asks (past before : History) (request : Request) (question : Question) (step : Step) : Type 0 where
  pub after : History
  pub past_is : past ≡ before ++ step ∷ after
  pub item_is : step.item ≡ Content (Some request)
  pub question_is : request.body ≡ command.Inspect question

-- the step answers the question by what the program shows at position m
pub record AnswersFrom (l : Launched) (before : History) (m : ℕ) (request : Request) (question : Question)
    (step : Step) : Type 0 where
  pub result : Result Shown Refusal
  pub shown : RepliesAt (subject_in before l) (at l.program m) question result
  pub answer_is : step.answer ≡ Some (Answer request.seq (name_of request.body) (in_body result))

-- Frames, scopes, variables and values are those of the last stop, and shown only where the program stands. `Shown`
-- says what they show without `Inspection`; a reader may skip this one.
abbrev pub QuestionsAreAnsweredThere : Type 0
QuestionsAreAnsweredThere = OfHistories (λ past.
    (before : History) (request : Request) (question : Question) (step : Step)
    → Asks past before request question step
    → (IsStopped (situation before) → (l : Launched) × (m : ℕ) × (launched before ≡ Some l) × StoppedLastAt before m
    × AnswersFrom l before m request question step)
    × ((b : Body) → step.answer ≡ Some (Answer request.seq (name_of request.body) (Ok b))
    → IsStopped (situation before)))
