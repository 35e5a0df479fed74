-- Defines what the program does with its arguments, and how it ends.
use Rattle.std.specs.Prelude.{◌≡◌, ◌⊎◌, ℕ, List, [], ◌∷◌, ◌++◌, map, Some, None, Result, Ok, Err, string_bytes}
use Rattle.std.specs.IoError.{error_kind}
use Rattle.std.specs.Vec.Iter.{into_iter_items}
use Rattle.std.specs.declared.alloc.Global.{Global}
use Rattle.std.specs.declared.io.Error.{Error}
use Rattle.std.specs.declared.io.ErrorKind.{ErrorKind}
use Rattle.std.specs.declared.string.String.{String}
use Rattle.std.specs.declared.vec.IntoIter.{IntoIter}
use Rattle.clap.specs.Words.{Text}
use Rattle.clap.specs.declared.error.kind.ErrorKind.TheVariants.{DisplayHelp}
use Rattle.dap_msg.specs.declared.request.Dialect.{Dialect}
use Rattle.dap_history.specs.Interleaving.{Load}
use Rattle.adapter.specs.declared.arguments.ArgumentsFault.TheVariants as fault
use Rattle.adapter.specs.declared.arguments.TheConstants.{HELP, USAGE}
use Rattle.adapter.specs.declared.checking.CheckFault.{CheckFault}
use Rattle.adapter.specs.declared.exit_reason.ExitReason.{ExitReason}
use Rattle.adapter.specs.declared.exit_reason.ExitReason.TheVariants.{Success, WriteFailed, NoMemory, NotText, NotUnderstood}
use Rattle.adapter.specs.declared.serving.Served.{Served}
use Rattle.adapter.specs.declared.serving.ServeFault.{ServeFault}
use Rattle.adapter.specs.Arguments.{Reads, IsParsed, refusals}
use Rattle.adapter.specs.Checking.{IsChecked}
use Rattle.adapter.specs.ExitReasons.{reason_of_serve, reason_of_check, reason_of_reading, last_line}
use Rattle.adapter.specs.Listing.{line_feed}
use Rattle.adapter.specs.Serving.{Streams, world, IsServed}
use Rattle.adapter.specs.Loading.{AreLoaded}
use Rattle.byte_streams.specs.Streams.{Supply, Output, WritesAll, FailsIn, WritesOrFails}
use Rattle.byte_streams.specs.declared.files.FileFault.{FileFault}
use Rattle.byte_streams.specs.declared.files.FileKinds.{FileKinds}
use Rattle.byte_streams.specs.declared.files.FileKinds.TheVariants.{All, Regular}

-- A client of the dialect was served, through a gate that nothing had passed, and the reason says how that went.
pub record EndsServing (dialect : Dialect) (reason : ExitReason) (loads later_loads : List Load) (old later : Streams)
    : Type 0 where
  pub outcome : Result Served ServeFault
  pub passed : List (ℕ × ℕ)
  pub served : IsServed dialect outcome (world loads [] old) (world later_loads passed later)
  pub reason_is : reason ≡ reason_of_serve outcome

-- The file at the path was checked, and the reason says how that went.
pub record EndsChecking (path : Text) (reason : ExitReason) (loads later_loads : List Load) (old later : Streams) : Type
    0 where
  pub outcome : Result (Unit {0}) CheckFault
  pub checked : IsChecked path outcome loads later_loads old.output later.output
  pub input : later.input ≡ old.input
  pub reason_is : reason ≡ reason_of_check outcome

-- The help was written, or the output failed.
abbrev pub EndsHelping : ExitReason → Output → Output → Type 0
EndsHelping reason before after =
    ((reason ≡ Success) × WritesAll HELP.now before after) ⊎ ((reason ≡ WriteFailed) × FailsIn HELP.now before after)

-- The arguments are not understood, or there was no memory to read them.
abbrev pub EndsIdle : List Text → ExitReason → Type 0
EndsIdle arguments reason =
    ((reason ≡ NotUnderstood) × IsParsed arguments (Err fault.NotUnderstood)) ⊎ (reason ≡ NoMemory)

-- The arguments ask for one of these, and it was done.
abbrev pub Performs : Dialect → List Text → ExitReason → List Load → List Load → Streams → Streams → Type 0
Performs dialect arguments reason loads later_loads old later =
    (Reads arguments None × EndsServing dialect reason loads later_loads old later)
    ⊎ (((path : Text) × Reads arguments (Some path) × EndsChecking path reason loads later_loads old later)
    ⊎ (((refusals arguments ≡ DisplayHelp ∷ []) × EndsHelping reason old.output later.output
    × (later.input ≡ old.input) × (later_loads ≡ loads))
    ⊎ ((later ≡ old) × EndsIdle arguments reason × (later_loads ≡ loads))))

-- what is said of arguments that are not understood: some message, and then the usage
abbrev pub IsUsage : List ℕ → Type 0
IsUsage text = (message : List ℕ) × (text ≡ message ++ USAGE.now)

-- What is written to standard error: nothing at status 0, at status 4 what was wrong and then the usage, else the last
-- line.
abbrev pub Reports : ExitReason → Output → Output → Type 0
Reports Success before after = after ≡ before
Reports NotUnderstood before after = (text : List ℕ) × IsUsage text × WritesOrFails text before after
Reports NotText before after = WritesOrFails (last_line NotText ++ (line_feed ++ USAGE.now)) before after
Reports reason before after = WritesOrFails (last_line reason ++ line_feed) before after

-- The program did what the arguments ask for, ended as that went, and said so on standard error.
pub record Executes (dialect : Dialect) (arguments : List Text) (reason : ExitReason) (loads later_loads : List Load)
    (old later : Streams) (errors later_errors : Output) : Type 0 where
  pub performs : Performs dialect arguments reason loads later_loads old later
  pub reports : Reports reason errors later_errors

-- the arguments that were given, or the kind of the error that was given in their place
abbrev pub Given : Type 0
Given = Result (List Text) ErrorKind

abbrev pub given_of : Result (IntoIter (String Global) Global) Error → Given
given_of (Ok arguments) = Ok (map string_bytes (into_iter_items arguments))
given_of (Err error) = Err (error_kind error)

-- There are no arguments. The program said so on standard error, and did nothing else.
pub record GetsNoArguments (error : ErrorKind) (reason : ExitReason) (old later : Streams)
    (errors later_errors : Output) : Type 0 where
  pub reason_is : reason ≡ reason_of_reading error
  pub kept : later ≡ old
  pub reports : Reports reason errors later_errors

-- By `opens` files of these kinds are opened by their names, by `closes` they are given back, and by `supply_of` it is
-- known what was read of one until then.
module _ {Files File : Type 0} (opens : FileKinds → Files → List ℕ → Result File FileFault → Files → Type 0)
    (closes : Files → File → Files → Type 0) (supply_of : File → Supply) where
  -- The program did what the arguments ask for, with a loader that was asked for no file before. What it answered is
  -- what reading the files gave. Where a client was served, these were regular files alone; where the arguments name a
  -- file to check, a file of any kind, or none if memory ran out before.
  pub record ExecutesOnFiles (dialect : Dialect) (arguments : List Text) (reason : ExitReason)
      (files later_files : Files) (old later : Streams) (errors later_errors : Output) : Type 0 where
    pub loads : List Load
    pub kinds : FileKinds
    pub loaded : ∥ AreLoaded (opens kinds) closes supply_of files loads later_files ∥₁
    pub regular : Reads arguments None → kinds ≡ Regular
    pub any : (path : Text) → Reads arguments (Some path) → (loads ≡ []) ⊎ (kinds ≡ All)
    pub executes : Executes dialect arguments reason [] loads old later errors later_errors

  -- The program ran on the arguments that were given.
  abbrev pub Runs : Dialect → Given → ExitReason → Files → Files → Streams → Streams → Output → Output → Type 0
  Runs dialect (Ok arguments) reason files later_files old later errors later_errors =
      ExecutesOnFiles dialect arguments reason files later_files old later errors later_errors
  Runs dialect (Err error) reason files later_files old later errors later_errors =
      GetsNoArguments error reason old later errors later_errors × (later_files ≡ files)
