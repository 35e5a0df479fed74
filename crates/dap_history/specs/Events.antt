-- Defines which items a list of events gives, in order. Nothing is an item after the session has ended.
use Rattle.std.specs.Prelude.{◌≡◌, ◌⊎◌, ◌++◌, ◌∷◌, [], ℕ, List, Option, None, Some, Result, Ok, Err}
use Rattle.dap_frame.specs.declared.fault.FramingFault.{FramingFault}
use Rattle.dap_frame.specs.Frame.{IsFrameInFront, IsOpen}
use Rattle.dap_frame.specs.Header.{FaultAt}
use Rattle.dap_msg.specs.declared.request.Dialect.{Dialect}
use Rattle.dap_msg.specs.declared.request.Request.{Request}
use Rattle.dap_msg.specs.Request.{IsRequestFrom}
use Rattle.dbg_runner.specs.Plain.{PlainReport}
use Rattle.dbg_runner.specs.Lawful.{IsLawfulReport}
use Rattle.dap_history.specs.declared.fault.LoadFault.{LoadFault}
use Rattle.dap_history.specs.declared.fault.LoadFault.TheVariants as load_fault
use Rattle.dap_history.specs.declared.launch.Launch.{Launch}
use Rattle.dap_history.specs.History.{Item, Content, Loaded, Accepted, Fault, InputEnd, ReadFailure, MemoryFailure, History}
use Rattle.dap_history.specs.Readings.{situation, ending_of}
use Rattle.dap_history.specs.Launching.{wanted_in}
use Rattle.dap_history.specs.Reports.{Accepts}
use Rattle.dap_history.specs.Emission.{IsAfter}

-- what comes to a session, as plain data
pub data Incoming : Type 0 where
  Piece : List ℕ → Incoming
  End : Incoming
  ReadFailed : Incoming
  NoMemory : Incoming
  File : Result (List ℕ) LoadFault → Incoming
  Report : PlainReport → Incoming

-- Each report says what the meaning of its program says. The type of a report guarantees this.
abbrev pub AreLawful : List Incoming → Type 0
AreLawful [] = Unit {0}
AreLawful (Report r ∷ events) = IsLawfulReport r × AreLawful events
AreLawful (e ∷ events) = AreLawful events

-- what came and isn't taken yet: a launch that waits for its file, and bytes
pub record Rest : Type 0 where
  pub launch : Option Launch
  pub bytes : List ℕ

-- bytes, and no launch that waits
abbrev pub only_bytes : List ℕ → Rest
only_bytes bytes = record { launch = None; bytes = bytes }

-- the session still takes items
abbrev pub IsTaking : History → Type 0
IsTaking past = ending_of past ≡ None

-- the content at the front of the bytes, with the request that it is in the client's dialect, or none, and the bytes
-- after it
pub record IsInFront (dialect : Dialect) (bytes : List ℕ) (request : Option Request) (more : List ℕ) : Type 0 where
  pub content : List ℕ
  pub framed : IsFrameInFront bytes content more
  pub read : IsRequestFrom dialect content request

-- From the history `past`, some contents at the front of the bytes that want no file are taken one after another. The
-- history is `new` then, and the bytes `left` remain.
pub data TakesSome (dialect : Dialect) : History → List ℕ → History → List ℕ → Type 0 where
  no_content : {past : History} {bytes : List ℕ} → TakesSome dialect past bytes past bytes
  one_content : {past mid new : History} {bytes more left : List ℕ} (request : Option Request) → IsTaking past →
      IsInFront dialect bytes request more → wanted_in (situation past) request ≡ None →
      IsAfter past (Content request) mid → TakesSome dialect mid more new left → TakesSome dialect past bytes new left

-- Why no further content of the bytes is taken. The history is `new` then, and `rest` isn't taken yet.
pub data Rests (dialect : Dialect) (past : History) (bytes : List ℕ) : History → Rest → Type 0 where
  -- the session is closed
  closed : ¬ IsTaking past → Rests dialect past bytes past (only_bytes bytes)
  -- nothing complete stands in front
  open_ended : IsTaking past → IsOpen bytes → Rests dialect past bytes past (only_bytes bytes)
  -- a framing fault does
  faulty : (k : FramingFault) (new : History) → IsTaking past → FaultAt bytes k → IsAfter past (Fault k) new →
      Rests dialect past bytes new (only_bytes bytes)
  -- a launch does, which waits for its file
  waits : (request : Option Request) (launch : Launch) (more : List ℕ) → IsTaking past →
      IsInFront dialect bytes request more → wanted_in (situation past) request ≡ Some launch →
      Rests dialect past bytes past (record { launch = Some launch; bytes = more })

-- From the history `past`, contents at the front of the bytes are taken until no further one is.
abbrev pub Takes : Dialect → History → List ℕ → History → Rest → Type 0
Takes dialect past bytes new rest =
    (mid : History) × (left : List ℕ) × TakesSome dialect past bytes mid left × Rests dialect mid left new rest

-- an item is taken unless the session is closed
abbrev pub MayTake : History → Item → History → Type 0
MayTake past item new = ((¬ IsTaking past) × (new ≡ past)) ⊎ (IsTaking past × IsAfter past item new)

-- A piece of the stream. While a launch waits for its file, the bytes wait too.
abbrev pub LeadsByPiece : Dialect → History → Option Launch → List ℕ → History → Rest → Type 0
LeadsByPiece dialect past None bytes new left = Takes dialect past bytes new left
LeadsByPiece dialect past (Some launch) bytes new left =
    (new ≡ past) × (left ≡ record { launch = Some launch; bytes = bytes })

-- the file of a launch; then the contents after it
pub record Loads (dialect : Dialect) (past : History) (launch : Launch) (file : Option (List ℕ)) (bytes : List ℕ)
    (new : History) (left : Rest) : Type 0 where
  pub taking : IsTaking past
  pub mid : History
  pub loaded : IsAfter past (Loaded launch file) mid
  pub after : Takes dialect mid bytes new left

-- A file. One that no launch waits for is ignored, and so is any after the session is closed.
abbrev pub LeadsByFile : Dialect → History → Rest → Option Launch → Result (List ℕ) LoadFault → History → Rest → Type 0
LeadsByFile dialect past rest None file new left = (new ≡ past) × (left ≡ rest)
LeadsByFile dialect past rest (Some launch) (Ok file) new left =
    ((¬ IsTaking past) × (new ≡ past) × (left ≡ rest)) ⊎ Loads dialect past launch (Some file) rest.bytes new left
LeadsByFile dialect past rest (Some launch) (Err load_fault.CannotRead) new left =
    ((¬ IsTaking past) × (new ≡ past) × (left ≡ rest)) ⊎ Loads dialect past launch None rest.bytes new left
LeadsByFile dialect past rest (Some launch) (Err load_fault.NoMemory) new left =
    MayTake past MemoryFailure new × (left ≡ rest)

-- A report. One that isn't accepted is ignored.
abbrev pub LeadsByReport : History → PlainReport → History → Type 0
LeadsByReport past r new =
    ((¬ (IsTaking past × Accepts past r)) × (new ≡ past)) ⊎ (IsTaking past × Accepts past r
    × IsAfter past (Accepted r) new)

-- one event, by what it is
abbrev pub LeadsByEvent : Dialect → History → Rest → Incoming → History → Rest → Type 0
LeadsByEvent dialect past rest (Piece piece) new left =
    LeadsByPiece dialect past rest.launch (rest.bytes ++ piece) new left
LeadsByEvent dialect past rest End new left = MayTake past InputEnd new × (left ≡ rest)
LeadsByEvent dialect past rest ReadFailed new left = MayTake past ReadFailure new × (left ≡ rest)
LeadsByEvent dialect past rest NoMemory new left = MayTake past MemoryFailure new × (left ≡ rest)
LeadsByEvent dialect past rest (File file) new left = LeadsByFile dialect past rest rest.launch file new left
LeadsByEvent dialect past rest (Report r) new left = LeadsByReport past r new × (left ≡ rest)

-- Events, one after another, lead from the history `past` and the rest to the history `new` and the rest `left`.
abbrev pub LeadsByEvents : Dialect → History → Rest → List Incoming → History → Rest → Type 0
LeadsByEvents dialect past rest [] new left = (new ≡ past) × (left ≡ rest)
LeadsByEvents dialect past rest (e ∷ events) new left =
    (mid : History) × (between : Rest) × LeadsByEvent dialect past rest e mid between
    × LeadsByEvents dialect mid between events new left

-- The history that a list of events gives in the client's dialect, and what came and isn't taken yet.
abbrev pub IsHistoryOf : Dialect → List Incoming → History → Rest → Type 0
IsHistoryOf dialect events past rest = LeadsByEvents dialect [] (only_bytes []) events past rest
