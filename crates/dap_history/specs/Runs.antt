-- States the laws of runs: each has the next number, is in the mode that was asked for, and is held at most once.
use Rattle.dap_msg.specs.declared.requests.resume.RetreatKind.TheVariants as retreat
use Rattle.dap_msg.specs.declared.requests.resume.ResumeKind.TheVariants as resume
use Rattle.std.specs.Prelude.{◌≡◌, ◌++◌, ◌∷◌, [], ◌⊎◌, ℕ, ◌+◌, false, List, length, Option, None, Some, IsSome, option_map, Ok}
use Rattle.std.specs.List.{filter_map}
use Rattle.dap_msg.specs.declared.command.Command.{Command}
use Rattle.dap_msg.specs.declared.command.Command.TheVariants as command
use Rattle.dap_msg.specs.declared.request.Request.{Request}
use Rattle.dap_msg.specs.Commands.{name_of}
use Rattle.dap_msg.specs.declared.outgoing.Outgoing.TheVariants.{Answer}
use Rattle.dap_msg.specs.declared.outgoing.Body.{Body}
use Rattle.dap_msg.specs.declared.outgoing.EventBody.{EventBody}
use Rattle.dap_msg.specs.declared.outgoing.EventBody.TheVariants as event
use Rattle.pl0_tree.specs.Tree.{Block}
use Rattle.dbg_plan.specs.Due.{depth_at}
use Rattle.dbg_plan.specs.declared.mode.Mode.{Mode}
use Rattle.dbg_plan.specs.declared.mode.Mode.TheVariants as mode
use Rattle.dbg_runner.specs.declared.outcome.SliceOutcome.{SliceOutcome}
use Rattle.dbg_runner.specs.declared.outcome.SliceOutcome.TheVariants as slice
use Rattle.dbg_runner.specs.Plain.{Heading, PlainOrder, PlainReport, Go, Hold, goes_back}
use Rattle.dap_history.specs.declared.situation.Situation.{Situation}
use Rattle.dap_history.specs.declared.situation.Situation.TheVariants.{Running, Faulted}
use Rattle.dap_history.specs.Last.{last_such}
use Rattle.dap_history.specs.History.{Launched, Item, Content, Accepted, Step, History, orders_of}
use Rattle.dap_history.specs.Readings.{go, situation, launched, last_run, position, waiting_pause}
use Rattle.dap_history.specs.Stops.{stop_of_event, run_in, Orders}
use Rattle.dap_history.specs.Always.{OfHistories, OfLawfulSteps, OfSteps}

-- ---- numbers

-- The run numbered n is the nth that is ordered.
abbrev pub RunsCountFromOne : Type 0
RunsCountFromOne = OfHistories (λ past.
    (front back : List PlainOrder) (run : Heading) → orders_of past ≡ front ++ Go run ∷ back
    → run.run ≡ length (filter_map go front) + 1)

-- ---- orders

-- A step orders at most one thing. It is that a run begins, that it is held, or that the runner quits.
abbrev pub EachStepOrdersOnce : Type 0
EachStepOrdersOnce = OfSteps (λ before step.
    (front back : List PlainOrder) (order : PlainOrder) → step.effect.orders ≡ front ++ order ∷ back
    → step.effect.orders ≡ order ∷ [])

-- ---- modes

-- the step answers a request with success
pub record Grants (step : Step) (request : Request) : Type 0 where
  pub item_is : step.item ≡ Content (Some request)
  pub body : Body
  pub answer_is : step.answer ≡ Some (Answer request.seq (name_of request.body) (Ok body))

-- the mode of the run that a command asks for where this many frames are alive, if it asks for a run
abbrev pub mode_by : ℕ → Command → Option Mode
mode_by depth command.ConfigurationDone = Some mode.Continue
mode_by depth (command.Resume resume.Continue asked) = Some mode.Continue
mode_by depth (command.Resume resume.Next asked) = Some (mode.Over depth)
mode_by depth (command.Resume resume.StepIn asked) = Some mode.In
mode_by depth (command.Resume resume.StepOut asked) = Some (mode.Out depth)
mode_by depth (command.Retreat retreat.StepBack asked) = Some mode.StepBack
mode_by depth (command.Retreat retreat.ReverseContinue asked) = Some mode.Reverse
mode_by depth _ = None

-- the mode in which a held run goes on
abbrev pub held_mode : SliceOutcome → Option Heading → Option Mode
held_mode slice.Held last = option_map (λ run. run.mode) last
held_mode _ last = None

-- the mode of the run that an item asks for, if it asks for one
abbrev pub mode_asked : History → Block → Item → Option Mode
mode_asked past main (Content (Some request)) = mode_by (depth_at main (position past)) request.body
mode_asked past main (Accepted r) = held_mode r.outcome (last_run past)
mode_asked past main _ = None

-- Each run is in the mode of the command that asks for it, or of the held run that it continues. In that mode is the
-- depth at which the program stands.
abbrev pub EachRunIsAsAsked : Type 0
EachRunIsAsAsked = OfLawfulSteps (λ before step.
    (run : Heading)
    → Orders step run
    → (l : Launched) × (launched before ≡ Some l) × (mode_asked before l.program step.item ≡ Some run.mode))

-- A granted command that asks for a run orders none where the program stops at position 0; or where it stands before a
-- fault, if the command resumes it.
abbrev pub IsExcused : Situation → Command → List EventBody → Type 0
IsExcused s command.ConfigurationDone events = IsSome (last_such stop_of_event events)
IsExcused s (command.Resume kind asked) events = (s ≡ Faulted) × (events ≡ event.Exited 1 ∷ event.Terminated ∷ [])
IsExcused s _ events = ⊥

-- A granted command that asks for a run has one ordered, unless the program stops at position 0, or ends before a
-- fault. It ends there where it was to go forward.
abbrev pub GrantedRunsAreOrdered : Type 0
GrantedRunsAreOrdered = OfSteps (λ before step.
    (request : Request)
    → Grants step request → IsSome (mode_by 0 request.body) → IsSome (run_in step)
    ⊎ IsExcused (situation before) request.body step.effect.events)

-- After a run was held, another is ordered if no pause waits. `PausesStop` says so too, by the requests themselves.
abbrev pub HeldRunsGoOn : Type 0
HeldRunsGoOn = OfSteps (λ before step.
    (r : PlainReport)
    → step.item ≡ Accepted r → r.outcome ≡ slice.Held → waiting_pause before ≡ false → IsSome (run_in step))

-- ---- holding

-- the command waits during a run until the run is held: it is a pause, or sets breakpoints at the launched path
abbrev pub IsToWait : History → Command → Type 0
IsToWait past (command.Pause asked) = Unit {0}
IsToWait past (command.SetBreakpoints asked) =
    (l : Launched) × (launched past ≡ Some l) × (asked.path ≡ Some l.path)
IsToWait past _ = ⊥

-- after these steps such a command is granted
pub record GrantsWait (past : History) (step : Step) : Type 0 where
  pub request : Request
  pub granted : Grants step request
  pub to_wait : IsToWait past request.body

-- A Hold is ordered only when a pause or breakpoints are granted in a run that doesn't go back, at most once for a
-- run. The program runs then, and the order comes directly after the Go of the run that it names.
abbrev pub HoldOnce : Type 0
HoldOnce = OfSteps (λ before step.
    (front back : List PlainOrder) (n : ℕ) → step.effect.orders ≡ front ++ Hold n ∷ back
    → (situation before ≡ Running) × GrantsWait before step × ((earlier : List PlainOrder) × (run : Heading)
    × (orders_of before ++ front ≡ earlier ++ Go run ∷ []) × (n ≡ run.run) × (goes_back run.mode ≡ false)))

-- After a pause or breakpoints were granted in a run that doesn't go back, the last order is its Hold.
abbrev pub WaitsAreHeld : Type 0
WaitsAreHeld = OfSteps (λ before step.
    situation before ≡ Running → (run : Heading) → last_run before ≡ Some run → goes_back run.mode ≡ false
    → GrantsWait before step
    → (earlier : List PlainOrder) × (orders_of (before ++ step ∷ []) ≡ earlier ++ Hold run.run ∷ []))
