-- States the laws of events: which of them are taken, as which items, that nothing else is, and which item ends a
-- session.
use Rattle.std.specs.Prelude.{◌≡◌, ◌++◌, ◌∷◌, [], ◌⊎◌, ℕ, List, Option, None, Some, Result, Ok, Err}
use Rattle.dap_msg.specs.declared.command.Command.{Command}
use Rattle.dap_msg.specs.declared.command.Command.TheVariants as command
use Rattle.dap_msg.specs.declared.request.Dialect.{Dialect}
use Rattle.dbg_runner.specs.Plain.{PlainReport, Heading}
use Rattle.dbg_runner.specs.declared.outcome.SliceOutcome.{SliceOutcome}
use Rattle.dbg_runner.specs.declared.outcome.SliceOutcome.TheVariants as slice
use Rattle.dap_history.specs.declared.launch.Launch.{Launch}
use Rattle.dap_history.specs.declared.fault.LoadFault.{LoadFault}
use Rattle.dap_history.specs.declared.fault.LoadFault.TheVariants as load_fault
use Rattle.dap_history.specs.declared.fault.SessionFault.TheVariants as session_fault
use Rattle.dap_history.specs.declared.ending.Ending.{Ending}
use Rattle.dap_history.specs.declared.ending.Ending.TheVariants as ending
use Rattle.dap_history.specs.declared.ending.Closed.TheVariants as closed
use Rattle.dap_history.specs.declared.situation.Situation.TheVariants.{Running}
use Rattle.dap_history.specs.History.{Item, Content, Loaded, Accepted, Fault, InputEnd, ReadFailure, MemoryFailure, Step, History}
use Rattle.dap_history.specs.Readings.{situation, last_run, position, ending_of}
use Rattle.dap_history.specs.Events.{Incoming, Piece, End, ReadFailed, NoMemory, File, Report, Rest, IsTaking, IsHistoryOf}
use Rattle.dap_history.specs.Always.{OfSteps}

-- the item that the file of a launch is: its bytes, or none where it can't be read, or that the loader lacks memory
abbrev pub file_item : Launch → Result (List ℕ) LoadFault → Item
file_item launch (Ok bytes) = Loaded launch (Some bytes)
file_item launch (Err load_fault.CannotRead) = Loaded launch None
file_item launch (Err load_fault.NoMemory) = MemoryFailure

-- The program runs, and the report goes on with the run that was ordered last, from where the program stands. It is
-- `Accepts` stated once more, so that the law can refuse a wrong one.
pub record GoesOnWith (past : History) (r : PlainReport) : Type 0 where
  pub running : situation past ≡ Running
  pub run : Heading
  pub run_is : last_run past ≡ Some run
  pub heading_is : r.heading ≡ record run { start = position past }

-- After these steps the event is this item: the end of the input, a failed read and a failed allocation in any case; a
-- file, where a launch waits for it; a report, where it goes on with the last run. A piece is none by itself.
abbrev pub IsItem : History → Rest → Incoming → Item → Type 0
IsItem past rest End item = item ≡ InputEnd
IsItem past rest ReadFailed item = item ≡ ReadFailure
IsItem past rest NoMemory item = item ≡ MemoryFailure
IsItem past rest (File file) item = (launch : Launch) × (rest.launch ≡ Some launch) × (item ≡ file_item launch file)
IsItem past rest (Report r) item = GoesOnWith past r × (item ≡ Accepted r)
IsItem past rest (Piece piece) item = ⊥

-- the item comes of the bytes of the stream: a content, or a framing fault
abbrev pub IsOfBytes : Item → Type 0
IsOfBytes (Content request) = Unit {0}
IsOfBytes (Fault k) = Unit {0}
IsOfBytes _ = ⊥

-- the same of each step
abbrev pub AreOfBytes : History → Type 0
AreOfBytes [] = Unit {0}
AreOfBytes (step ∷ steps) = IsOfBytes step.item × AreOfBytes steps

-- what is taken with the item of an event: after a file the contents that came while its launch waited
abbrev pub MayFollow : Incoming → History → Type 0
MayFollow (File file) more = AreOfBytes more
MayFollow _ more = more ≡ []

-- the steps begin with this item
pub record BeginWithItem (e : Incoming) (item : Item) (steps : History) : Type 0 where
  pub step : Step
  pub more : History
  pub steps_are : steps ≡ step ∷ more
  pub item_is : step.item ≡ item
  pub follow : MayFollow e more

-- what an event adds: a piece, what its bytes complete; any other, its item, or nothing where it is none
abbrev pub AddsSteps : History → Rest → Incoming → History → Type 0
AddsSteps past rest (Piece piece) steps = AreOfBytes steps
AddsSteps past rest e steps =
    ((item : Item) × IsItem past rest e item × BeginWithItem e item steps)
    ⊎ (((item : Item) → ¬ IsItem past rest e item) × (steps ≡ []))

-- While items are taken, each event that is one is taken, and no other. The end of the input, a failed read, a
-- failed allocation, the file of a launch that waits, and a report that goes on with the last run from where the
-- program stands are items; no other file or report is. After that no event adds anything.
abbrev pub EventsAreTaken : Type 0
EventsAreTaken =
    (dialect : Dialect) (events : List Incoming) (e : Incoming) (past new : History) (rest left : Rest)
    → IsHistoryOf dialect events past rest → IsHistoryOf dialect (events ++ e ∷ []) new left
    → (IsTaking past → (steps : History) × (new ≡ past ++ steps) × AddsSteps past rest e steps)
    × (¬ IsTaking past → new ≡ past)

-- ---- the end of a session

-- the one command that closes a session: `closing_command` once more, so that the law can refuse a wrong one
abbrev pub closes_by : Command → Option Ending
closes_by command.Disconnect = Some (ending.Closed closed.Disconnected)
closes_by _ = None

-- a report for which the runner had no memory: `closing_report` once more, for the same reason
abbrev pub fails_by : SliceOutcome → Option Ending
fails_by slice.NoMemory = Some (ending.Fault session_fault.NoMemory)
fails_by _ = None

-- How an item ends a session, if it does: `disconnect`, the end of the input and a failed read close it; a framing
-- fault and a failed allocation are its faults.
abbrev pub ends_by : Item → Option Ending
ends_by (Content (Some request)) = closes_by request.body
ends_by (Accepted r) = fails_by r.outcome
ends_by (Fault k) = Some (ending.Fault (session_fault.Frame k))
ends_by InputEnd = Some (ending.Closed closed.InputEnded)
ends_by ReadFailure = Some (ending.Closed closed.ReadFailed)
ends_by MemoryFailure = Some (ending.Fault session_fault.NoMemory)
ends_by _ = None

-- Each item is taken while the session goes on. `disconnect`, the end of the input and a failed read close it, a
-- framing fault and a failed allocation end it; nothing else does.
abbrev pub EachItemEndsOrNot : Type 0
EachItemEndsOrNot = OfSteps (λ before step.
    IsTaking before × (ending_of (before ++ step ∷ []) ≡ ends_by step.item))
