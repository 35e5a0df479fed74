-- Defines what one event that a session takes leads to.
use Rattle.std.specs.Prelude.{◌≡◌, ◌≢◌, ◌⊎◌, ◌++◌, ◌∷◌, [], ℕ, List, Option, Some, None, Result, Ok, Err}
use Rattle.dap_frame.specs.declared.fault.FramingFault.{FramingFault}
use Rattle.dap_msg.specs.declared.request.Dialect.{Dialect}
use Rattle.dbg_runner.specs.Plain.{PlainReport}
use Rattle.dap_history.specs.declared.fault.SessionFault.{SessionFault}
use Rattle.dap_history.specs.declared.fault.SessionFault.TheVariants.{Frame, NoMemory}
use Rattle.dap_history.specs.declared.fault.LoadFault.{LoadFault}
use Rattle.dap_history.specs.declared.fault.LoadFault.TheVariants as load_fault
use Rattle.dap_history.specs.declared.ending.Ending.TheVariants.{Fault}
use Rattle.dap_history.specs.declared.launch.Launch.{Launch}
use Rattle.dap_history.specs.History.{Item, Loaded, Accepted, InputEnd, ReadFailure, History}
use Rattle.dap_history.specs.Readings.{ending_of}
use Rattle.dap_history.specs.Reports.{Accepts}
use Rattle.dap_history.specs.Emission.{IsAfter}
use Rattle.dap_history.specs.Events.{Incoming, Piece, End, ReadFailed, File, Report, Rest, TakesSome, IsHistoryOf}
use Rattle.dap_history.specs.Events.{NoMemory as NoMemoryCame}
use Rattle.dap_replies.specs.declared.phase.Phase.{Phase}
use Rattle.dap_replies.specs.declared.phase.Phase.TheVariants as phase
use Rattle.dap_replies.specs.Phases.{launch_of}
use Rattle.dap_replies.specs.Runs.{heading_in}
use Rattle.dap_replies.specs.Replied.{IsQuiet}
use Rattle.dap_session.specs.declared.want.Want.{Want}
use Rattle.dap_session.specs.Ports.{Ports}
use Rattle.dap_session.specs.Sending.{Sends, RefusesNothing, BreaksOff}
use Rattle.dap_session.specs.State.{State, Represents, Wants}

-- ---- how far an event was taken

-- from `past`, some contents at the front of the bytes were taken, or none while a launch waits
abbrev pub TowardByPiece : Dialect → History → Option Launch → List ℕ → History → Type 0
TowardByPiece dialect past None bytes new = (left : List ℕ) × TakesSome dialect past bytes new left
TowardByPiece dialect past (Some launch) bytes new = new ≡ past

-- what a launch is made with: the file's bytes, or none where it can't be read; nothing where there was no memory
abbrev pub file_of : Result (List ℕ) LoadFault → Option (Option (List ℕ))
file_of (Ok file) = Some (Some file)
file_of (Err load_fault.CannotRead) = Some None
file_of (Err load_fault.NoMemory) = None

-- the launch was made with its file, and some contents after it were taken
pub record LoadsToward (dialect : Dialect) (past : History) (rest : Rest) (answer : Result (List ℕ) LoadFault)
    (new : History) : Type 0 where
  pub launch : Launch
  pub waits : rest.launch ≡ Some launch
  pub file : Option (List ℕ)
  pub file_is : file_of answer ≡ Some file
  pub mid : History
  pub loaded : IsAfter past (Loaded launch file) mid
  pub left : List ℕ
  pub taken : TakesSome dialect mid rest.bytes new left

-- From the history `past`, items of the event were taken in order, perhaps not all of them, which led to `new`.
abbrev pub Toward : Dialect → History → Rest → Incoming → History → Type 0
Toward dialect past rest (Piece piece) new = TowardByPiece dialect past rest.launch (rest.bytes ++ piece) new
Toward dialect past rest End new = (new ≡ past) ⊎ IsAfter past InputEnd new
Toward dialect past rest ReadFailed new = (new ≡ past) ⊎ IsAfter past ReadFailure new
Toward dialect past rest NoMemoryCame new = new ≡ past
Toward dialect past rest (File answer) new = (new ≡ past) ⊎ LoadsToward dialect past rest answer new
Toward dialect past rest (Report r) new = (new ≡ past) ⊎ (Accepts past r × IsAfter past (Accepted r) new)

-- ---- memory

-- the report continues the run
abbrev pub Expects : Phase → PlainReport → Type 0
Expects (phase.Running t run) r = r.heading ≡ heading_in t.runs run
Expects _ r = ⊥

-- The event needs no memory: it is the end of the input or a failed read, or, while no launch waits, a file, or a
-- report that isn't accepted or tells a client nothing.
abbrev pub NeedsNoMemory : Option Launch → (PlainReport → Type 0) → Incoming → Type 0
NeedsNoMemory launch accepts End = Unit {0}
NeedsNoMemory launch accepts ReadFailed = Unit {0}
NeedsNoMemory launch accepts (File answer) = launch ≡ None
NeedsNoMemory launch accepts (Report r) = (launch ≡ None) × ((¬ accepts r) ⊎ IsQuiet r)
NeedsNoMemory launch accepts _ = ⊥

-- The event says that memory was lacking, for a piece or for the file that a launch waits for.
abbrev pub LacksMemory : Incoming → Option Launch → Type 0
LacksMemory NoMemoryCame launch = Unit {0}
LacksMemory (File (Err load_fault.NoMemory)) (Some launch) = Unit {0}
LacksMemory _ _ = ⊥

-- ---- what an event leads to

-- The session gave up at the event. Some of its steps were sent completely, and one more step as far as the fault
-- allowed.
pub record EventGivesUp (dialect : Dialect) (fault : SessionFault) (past : History) (rest : Rest) (event : Incoming)
    (old later : Ports) : Type 0
  where
    pub mid : History
    pub toward : Toward dialect past rest event mid
    pub between : Ports
    pub sent : Sends past mid old between
    pub refuses_nothing : RefusesNothing old between
    pub next : History
    pub next_is : (next ≡ mid) ⊎ (Toward dialect past rest event next × ((item : Item) × IsAfter mid item next))
    pub breaks : BreaksOff fault mid next between later

-- A framing fault ended the session at the event, and everything that the event causes was sent.
pub record EventEndsInFault (dialect : Dialect) (fault : FramingFault) (events : List Incoming) (past : History)
    (event : Incoming) (old later : Ports) : Type 0 where
  pub new : History
  pub rest : Rest
  pub history : IsHistoryOf dialect (events ++ event ∷ []) new rest
  pub ending_is : ending_of new ≡ Some (Fault (Frame fault))
  pub sends : Sends past new old later
  pub refuses_nothing : RefusesNothing old later

-- The session represents the events and this one, and what this one causes was sent.
pub record EventIsTaken (dialect : Dialect) (events : List Incoming) (past : History) (event : Incoming) (want : Want)
    (session : State) (old later : Ports) : Type 0 where
  pub new : History
  pub stands : Represents dialect session (events ++ event ∷ []) new
  pub sends : Sends past new old later
  pub refuses_nothing : RefusesNothing old later
  pub wants : Wants want session session.ending

-- What an event leads to, by the result.
abbrev pub Comes : Dialect → Result Want SessionFault → List Incoming → History → Rest → Incoming → State → Ports
    → Ports → Type 0
Comes dialect (Ok want) events past rest event session old later =
    EventIsTaken dialect events past event want session old later
Comes dialect (Err (Frame fault)) events past rest event session old later =
    EventEndsInFault dialect fault events past event old later
Comes dialect (Err fault) events past rest event session old later =
    EventGivesUp dialect fault past rest event old later

-- The session, which goes on, takes the event with this result. Whatever events it represents, the result is what one
-- more leads to. Where memory was lacking for the event it is `NoMemory`; an event that needs none never leads to that.
pub record TakesEvent (session : State) (event : Incoming) (result : Result Want SessionFault) (after : State)
    (old later : Ports) : Type 0 where
  pub comes : (dialect : Dialect) (events : List Incoming) (past : History)
      (stands : Represents dialect session events past)
      → Comes dialect result events past stands.rest event after old later
  pub no_memory : LacksMemory event (launch_of session.phase) → result ≡ Err NoMemory
  pub enough : NeedsNoMemory (launch_of session.phase) (Expects session.phase) event → result ≢ Err NoMemory
