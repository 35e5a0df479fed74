-- Defines when a launch loads a program, and when it is refused: the text is what reading the file at its path gave.
use Rattle.std.specs.Prelude.{◌≡◌, ◌⊎◌, ◌+◌, ◌<◌, ◌≤◌, ℕ, List, [], ◌∷◌, length, codes, Option, None, Some, Result, Ok, Err}
use Rattle.std.specs.Str.{IsUtf8}
use Rattle.serde_json.specs.Data.{Data, depth}
use Rattle.serde_json.specs.Read.{max_depth, read}
use Rattle.byte_streams.specs.Files.{ReadsFile}
use Rattle.byte_streams.specs.Streams.{Supply}
use Rattle.byte_streams.specs.declared.files.FileFault.{FileFault}
use Rattle.byte_streams.specs.declared.files.FileFault.TheVariants.{Missing, Folder, Forbidden}
use Rattle.byte_streams.specs.declared.files.FileKinds.{FileKinds}
use Rattle.byte_streams.specs.declared.files.FileKinds.TheVariants.{Regular}
use Rattle.dap_bodies.specs.Events.{initialized}
use Rattle.dap_bodies.specs.Sizes.{shown_text}
use Rattle.dap_server.specs.Messages.{PlainReply}
use Rattle.dap_debug.specs.declared.state.Phase.{Phase}
use Rattle.dap_debug.specs.declared.state.Phase.TheVariants as phase
use Rattle.dap_bodies.specs.Arguments.{text_at, truth_at}
use Rattle.dap_debug.specs.Running.{success, refusal, IsQuiet}
use Rattle.dap_debug.specs.Standings.{Standing}

-- A program is loaded, and waits to be started, as the arguments say; its path is that among them, no fault has come,
-- and no breakpoint is set in it.
pub record IsLoaded {S : Type 0} (arguments : Option Data) (program : S) (reply : PlainReply) (stands : Standing S)
    : Type 0 where
  pub reply_is : reply ≡ success None (initialized ∷ [])
  pub path_is : text_at (codes "program") arguments ≡ Some stands.path
  pub phase_is : stands.phase ≡ phase.Configuring program (truth_at (codes "stopOnEntry") arguments)
  pub no_fault : stands.fault ≡ None
  pub none_set : stands.breakpoints ≡ []

-- what a text is, by its language: a program, or a mistake, with which the launch is refused
abbrev pub LoadsAs : {S : Type 0} → Option Data → Result S (List ℕ) → Standing S → PlainReply → Standing S → Type 0
LoadsAs arguments (Ok program) stood reply stands =
    IsLoaded arguments program reply stands × (stands.counting ≡ stood.counting)
LoadsAs arguments (Err mistake) stood reply stands = IsQuiet (refusal (shown_text mistake)) stood reply stands

-- why a file gave nothing, as far as it is known
abbrev pub unread_text : FileFault → List ℕ
unread_text Missing = codes "the program can't be read: there is no such file"
unread_text Folder = codes "the program can't be read: it is a folder"
unread_text Forbidden = codes "the program can't be read: it is not allowed"
unread_text _ = codes "the program can't be read"

-- the most bytes of a program's text, 16 MiB
abbrev pub text_limit : ℕ
text_limit = 16777216

-- a JSON text of the arguments; an empty text where there are none
abbrev pub IsJsonOf : Option Data → List ℕ → Type 0
IsJsonOf None text = text ≡ []
IsJsonOf (Some value) text = depth value ≤ max_depth → read text ≡ Some value

-- the file that a request reads: its path, and what reading it gave; or none
abbrev pub FileRead : Type 0
FileRead = Option (List ℕ × Result (List ℕ) FileFault)

module _ {S : Type 0} (reads_as : List ℕ → List ℕ → Result S (List ℕ) → Type 0) (arguments : Option Data) where
  -- The language reads a text that is UTF-8, with the arguments.
  abbrev pub LoadsText : List ℕ → Standing S → PlainReply → Standing S → Type 0
  LoadsText bytes stood reply stands =
      (IsUtf8 bytes × (json : List ℕ) × IsJsonOf arguments json × (loaded : Result S (List ℕ))
      × reads_as bytes json loaded × LoadsAs arguments loaded stood reply stands)
      ⊎ ((¬ IsUtf8 bytes) × IsQuiet (refusal (codes "the program isn't UTF-8")) stood reply stands)

  -- What was read of a file, or why it couldn't be opened or read. A text that isn't too long was read to its end.
  abbrev pub LoadsRead : Result (List ℕ) FileFault → Standing S → PlainReply → Standing S → Type 0
  LoadsRead (Err why) stood reply stands = IsQuiet (refusal (unread_text why)) stood reply stands
  LoadsRead (Ok bytes) stood reply stands =
      ((text_limit < length bytes) × IsQuiet (refusal (codes "tooLong")) stood reply stands)
      ⊎ ((length bytes ≤ text_limit) × LoadsText bytes stood reply stands)

  -- a path has to be given, and the file there is read
  abbrev pub LoadsAt : Option (List ℕ) → FileRead → Standing S → PlainReply → Standing S → Type 0
  LoadsAt None file stood reply stands =
      (file ≡ None) × IsQuiet (refusal (codes "`program` is missing")) stood reply stands
  LoadsAt (Some path) file stood reply stands =
      (read : Result (List ℕ) FileFault) × (file ≡ Some (path, read)) × LoadsRead read stood reply stands

-- a program is loaded in the place of another, but for one that runs
abbrev pub LoadsFrom : {S : Type 0} → (List ℕ → List ℕ → Result S (List ℕ) → Type 0) → Phase S → Option Data → FileRead
    → Standing S → PlainReply → Standing S → Type 0
LoadsFrom reads_as (phase.Running program how) arguments file stood reply stands =
    (file ≡ None) × IsQuiet (refusal (codes "a program runs")) stood reply stands
LoadsFrom reads_as _ arguments file stood reply stands =
    LoadsAt reads_as arguments (text_at (codes "program") arguments) file stood reply stands

abbrev pub Loads : {S : Type 0} → (List ℕ → List ℕ → Result S (List ℕ) → Type 0) → Option Data → FileRead → Standing S
    → PlainReply → Standing S → Type 0
Loads reads_as arguments file stood reply stands = LoadsFrom reads_as stood.phase arguments file stood reply stands

-- ---- the opener of the files

-- what holds, by an opener, before a file is read, of its path, of what reading it gave, and after
abbrev pub ReadsFiles : Type 0 → Type 1
ReadsFiles F = F → List ℕ → Result (List ℕ) FileFault → F → Type 0

-- A regular file is opened, read up to one byte more than a text may have, and closed.
abbrev pub reads_by : {F File : Type 0} → (FileKinds → F → List ℕ → Result File FileFault → F → Type 0)
    → (F → File → F → Type 0) → (File → Supply) → ReadsFiles F
reads_by opens closes supply_of =
    λ files path read later. ReadsFile (text_limit + 1) (opens Regular) closes supply_of path read files later

-- no file is touched, or this one is read
abbrev pub IsRead : {F : Type 0} → ReadsFiles F → FileRead → F → F → Type 0
IsRead reads None files later = later ≡ files
IsRead reads (Some file) files later = reads files file.0 file.1 later

-- how a session stands, and the opener of its files
pub record Situation (S F : Type 0) : Type 0 where
  pub stands : Standing S
  pub files : F

abbrev pub situation : {S F : Type 0} → Standing S → F → Situation S F
situation stands files = record { stands = stands; files = files }

-- a launch loads what was read of the file at its path
abbrev pub Launches : {S F : Type 0} → (List ℕ → List ℕ → Result S (List ℕ) → Type 0) → ReadsFiles F → Option Data
    → Situation S F
    → PlainReply → Situation S F → Type 0
Launches reads_as reads arguments a reply b =
    (file : FileRead) × Loads reads_as arguments file a.stands reply b.stands × IsRead reads file a.files b.files
