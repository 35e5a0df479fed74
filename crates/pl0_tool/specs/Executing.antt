-- What the program does with its arguments, and what it tells of that.
use Rattle.std.specs.Prelude.{◌≡◌, ◌≢◌, ◌⊎◌, Bool, false, ℕ, List, [], ◌∷◌, ◌++◌, map, codes, Result, Ok, Err, string_bytes}
use Rattle.std.specs.IoError.{error_kind}
use Rattle.std.specs.Vec.Iter.{into_iter_items}
use Rattle.std.specs.declared.alloc.Global.{Global}
use Rattle.std.specs.declared.io.Error.{Error}
use Rattle.std.specs.declared.io.ErrorKind.{ErrorKind}
use Rattle.std.specs.declared.io.ErrorKind.TheVariants as kind
use Rattle.std.specs.declared.string.String.{String}
use Rattle.std.specs.declared.vec.IntoIter.{IntoIter}
use Rattle.clap.specs.Words.{Text, IsAmong, fault_of}
use Rattle.clap.specs.declared.error.kind.ErrorKind.{ErrorKind as Refusal}
use Rattle.clap.specs.declared.error.kind.ErrorKind.TheVariants.{DisplayHelp, DisplayVersion}
use Rattle.byte_streams.specs.Files.{HasRead, ReadsFile}
use Rattle.byte_streams.specs.Streams.{Output, WritesOrFails, Supply}
use Rattle.byte_streams.specs.declared.files.FileFault.{FileFault}
use Rattle.byte_streams.specs.declared.files.FileFault.TheVariants.{Folder, Forbidden, Missing, NoMemory}
use Rattle.pl0_tool.specs.declared.arguments.Request.{Request}
use Rattle.pl0_tool.specs.declared.arguments.Task.{Task}
use Rattle.pl0_tool.specs.declared.report.Ending.{Ending}
use Rattle.pl0_tool.specs.declared.report.Ending.TheVariants.{Success, Failure, Unwritten, NotUnderstood}
use Rattle.pl0_tool.specs.declared.report.Report.{Report}
use Rattle.pl0_tool.specs.Arguments.{Asks, command_line}
use Rattle.pl0_tool.specs.Commands.{IsReport, Tells, WritesNumbers}
use Rattle.pl0_tool.specs.Reporting.{HasTold, IsSum}

-- What texts come from, at one moment: the files, and the input.
pub record Origins (Files : Type 0) : Type 0 where
  pub files : Files
  pub input : Supply

abbrev pub origins : {Files : Type 0} → Files → Supply → Origins Files
origins files input = record { files = files; input = input }

-- ---- what is told

-- what is told by the way in which clap refuses arguments: the help or the version, or what is wrong with them
abbrev pub IsToldFor : Refusal → Report → Type 0
IsToldFor kind report =
    (text : List ℕ) × ((((kind ≡ DisplayHelp) ⊎ (kind ≡ DisplayVersion)) × IsReport text [] Success report)
    ⊎ ((kind ≢ DisplayHelp) × (kind ≢ DisplayVersion) × IsReport [] text NotUnderstood report))

-- clap refuses the arguments, and this is told
abbrev pub IsUnasked : List Text → Report → Type 0
IsUnasked arguments report =
    (kind : Refusal) × IsAmong kind (fault_of command_line arguments) × IsToldFor kind report

-- why a file can't be read, as far as it is known
abbrev pub reason : FileFault → List ℕ
reason Missing = codes ": there is no such file"
reason Folder = codes ": it is a folder"
reason Forbidden = codes ": it is not allowed"
reason fault = []

-- the lines for a file that can't be read, for memory that ran out, for an argument that is not text, and for an output
-- that failed
abbrev pub unread_line : Text → FileFault → List ℕ
unread_line name fault = codes "pl0: cannot read " ++ (name ++ (reason fault ++ codes "\n"))

abbrev pub memory_line : List ℕ
memory_line = codes "pl0: no memory\n"

abbrev pub not_text_line : List ℕ
not_text_line = codes "pl0: an argument is not text\n"

abbrev pub unwritten_line : List ℕ
unwritten_line = codes "pl0: cannot write the output\n"

-- At the end it is told that the output failed, unless nobody reads that any more.
abbrev pub ClosesWith : Ending → Bool → Output → Output → Type 0
ClosesWith Unwritten false errors later_errors = WritesOrFails unwritten_line errors later_errors
ClosesWith ending unread errors later_errors = later_errors ≡ errors

-- ---- a text

-- what a task writes of a text, where memory runs out
abbrev pub WritesOf : Task → Result (List ℕ) FileFault → Output → Output → Type 0
WritesOf task (Ok text) before after = WritesNumbers task text before after
WritesOf task (Err fault) before after = after ≡ before

-- how many bytes of a file are read: one more than a text may have, so that a longer one is noticed
abbrev pub beginning : ℕ
beginning = 65537

-- the names of the files that are asked for
abbrev pub files_of : Request → List Text
files_of asked = map (λ file. file.now) asked.files.items

-- By `opens` files are opened by their names, by `closes` they are given back, and by `supply_of` it is known what was
-- read of one until then.
module _ {Files File : Type 0} (opens : Files → Text → Result File FileFault → Files → Type 0)
    (closes : Files → File → Files → Type 0) (supply_of : File → Supply) where
  -- The name `-` stands for the input, and each other name for a file.
  abbrev pub Reads : Text → Result (List ℕ) FileFault → Origins Files → Origins Files → Type 0
  Reads name read old later =
      ((name ≡ codes "-") × HasRead beginning read old.input later.input × (later.files ≡ old.files))
      ⊎ ((name ≢ codes "-") × ReadsFile beginning opens closes supply_of name read old.files later.files
      × (later.input ≡ old.input))

  -- ---- files, one after another

  -- A file was read, and its task was done with its text.
  pub record Does (task : Task) (name : Text) (one : Report) (old later : Origins Files) (before after : Output)
      : Type 0 where
    pub text : List ℕ
    pub reads : Reads name (Ok text) old later
    pub tells : Tells task name text one before after

  -- A file can't be read. It is told, and nothing is written.
  pub record CannotDo (name : Text) (one : Report) (old later : Origins Files) (before after : Output) : Type 0 where
    pub fault : FileFault
    pub reads : Reads name (Err fault) old later
    pub no_memory : fault ≢ NoMemory
    pub tells : IsReport [] (unread_line name fault) Failure one
    pub kept : after ≡ before

  -- Memory ran out at a file. Nothing was written for it, or the numbers of its run.
  pub record RunsOut (task : Task) (name : Text) (old later : Origins Files) (before after : Output) : Type 0 where
    pub read : Result (List ℕ) FileFault
    pub reads : Reads name read old later
    pub writes : WritesOf task read before after

  -- A file was done, or it can't be read, and that was put behind what was told before.
  abbrev pub Adds : Task → Text → Report → Report → Origins Files → Origins Files → Output → Output → Type 0
  Adds task name first sum old later before after =
      (one : Report) × (Does task name one old later before after ⊎ CannotDo name one old later before after)
      × IsSum first one sum

  -- The task was done with each of these files that can be read, in their order, and this is told of all together.
  pub data AreDone (task : Task) (old : Origins Files) (before : Output)
      : List Text → Report → Origins Files → Output → Type 0 where
    none : (report : Report) → IsReport [] [] Success report → AreDone task old before [] report old before
    next : (names : List Text) (name : Text) (first sum : Report) (mid later : Origins Files) (out after : Output)
        → AreDone task old before names first mid out → Adds task name first sum mid later out after
        → AreDone task old before (names ++ (name ∷ [])) sum later after

  -- Files before one, and what was told of them.
  pub record Before (task : Task) (names : List Text) (old : Origins Files) (before : Output) : Type 0 where
    pub done : List Text
    pub name : Text
    pub rest : List Text
    pub names_are : names ≡ done ++ (name ∷ rest)
    pub first : Report
    pub mid : Origins Files
    pub out : Output
    pub are_done : AreDone task old before done first mid out

  -- Memory ran out at one of the files.
  abbrev pub GivesUp : Task → List Text → Origins Files → Origins Files → Output → Output → Type 0
  GivesUp task names old later before after =
      (b : Before task names old before) × RunsOut task b.name b.mid later b.out after

  -- ---- the whole

  -- This is to be told of what the arguments ask for, which was done.
  abbrev pub Comes : List Text → Report → Origins Files → Origins Files → Output → Output → Type 0
  Comes arguments report old later before after =
      ((asked : Request) × Asks arguments asked
      × AreDone asked.task old before (files_of asked) report later after)
      ⊎ (IsUnasked arguments report × (later ≡ old) × (after ≡ before))

  -- Memory ran out: before anything was read and written, or at one of the files.
  abbrev pub LacksMemory : List Text → Origins Files → Origins Files → Output → Output → Type 0
  LacksMemory arguments old later before after =
      ((later ≡ old) × (after ≡ before))
      ⊎ ((asked : Request) × Asks arguments asked × GivesUp asked.task (files_of asked) old later before after)

  -- What the arguments ask for was done, and what is to be told of it was told; or memory ran out, and that was told.
  abbrev pub Executes : List Text → Ending → Origins Files → Origins Files → Output → Output → Output → Output → Type 0
  Executes arguments ending old later before after errors later_errors =
      ((report : Report) × (out : Output) × Comes arguments report old later before out
      × HasTold report ending out after errors later_errors)
      ⊎ ((ending ≡ Failure) × LacksMemory arguments old later before after
      × WritesOrFails memory_line errors later_errors)

  -- There are no arguments: there was no memory for them, or one of them is not text. This was told, and nothing else
  -- was done.
  pub record GetsNoArguments (error : ErrorKind) (ending : Ending) (old later : Origins Files)
      (before after errors later_errors : Output) : Type 0 where
    pub origins : later ≡ old
    pub output : after ≡ before
    pub told : ((error ≡ kind.OutOfMemory) × (ending ≡ Failure) × WritesOrFails memory_line errors later_errors)
        ⊎ ((error ≢ kind.OutOfMemory) × (ending ≡ NotUnderstood) × WritesOrFails not_text_line errors later_errors)

  -- what is done with the arguments that were given, or with the error that was given in their place
  abbrev pub ExecutesGiven : Result (List Text) ErrorKind → Ending → Origins Files → Origins Files → Output → Output
      → Output → Output → Type 0
  ExecutesGiven (Ok arguments) ending old later before after errors later_errors =
      Executes arguments ending old later before after errors later_errors
  ExecutesGiven (Err error) ending old later before after errors later_errors =
      GetsNoArguments error ending old later before after errors later_errors

  -- The same; and at the end it was told that the output failed, unless nobody reads that any more.
  pub record Runs (given : Result (List Text) ErrorKind) (ending : Ending) (unread : Bool) (old later : Origins Files)
      (before after errors later_errors : Output) : Type 0 where
    pub mid_errors : Output
    pub executes : ExecutesGiven given ending old later before after errors mid_errors
    pub ends : ClosesWith ending unread mid_errors later_errors

-- the arguments that were given, the program's name first, or the kind of the error in their place
abbrev pub given_of : Result (IntoIter (String Global) Global) Error → Result (List Text) ErrorKind
given_of (Ok arguments) = Ok (map string_bytes (into_iter_items arguments))
given_of (Err error) = Err (error_kind error)
