-- Defines the command line of the program, and what its arguments ask for.
use Rattle.std.specs.Prelude.{◌≡◌, ◌≢◌, List, [], ◌∷◌, Option, Some, None, Result, Ok, Err, codes}
use Rattle.clap.specs.Words.{App, Kinds, Rule, Text, fault_of, first_of, matches_of}
use Rattle.clap.specs.Words.{new_app, new_rule, with_rule}
use Rattle.clap.specs.declared.builder.action.ArgAction.TheVariants.{Set}
use Rattle.clap.specs.declared.error.kind.ErrorKind.{ErrorKind}
use Rattle.clap.specs.declared.error.kind.ErrorKind.TheVariants.{DisplayHelp}
use Rattle.byte_streams.specs.declared.files.FileKinds.{FileKinds}
use Rattle.byte_streams.specs.declared.files.FileKinds.TheVariants.{All, Regular}
use Rattle.adapter.specs.declared.arguments.Invocation.{Invocation}
use Rattle.adapter.specs.declared.arguments.Invocation.TheVariants.{Serve, Check}
use Rattle.adapter.specs.declared.arguments.ArgumentsFault.{ArgumentsFault}
use Rattle.adapter.specs.declared.arguments.ArgumentsFault.TheVariants.{NotUnderstood, Help, NoMemory}

-- the option `--check FILE`, which takes one value
abbrev pub check_option : Rule
check_option = record (new_rule (codes "check")) {
  long = Some (codes "check");
  action = Some Set;
  value_names = 1;
}

-- the command line: this option, and the `-h` and `--help` that clap adds to each
abbrev pub command_line : App
command_line = with_rule (new_app (codes "pl0dap")) check_option

-- why clap refuses the arguments, the program's name first; empty where it reads them
abbrev pub refusals : List Text → Kinds
refusals arguments = fault_of command_line arguments

-- what clap reads from the arguments as the value of `check`
abbrev pub checked_file : List Text → Option Text
checked_file arguments = first_of (codes "check") (matches_of command_line arguments)

-- clap reads the arguments, and this as the value of `check`
abbrev pub Reads : List Text → Option Text → Type 0
Reads arguments file = (refusals arguments ≡ []) × (checked_file arguments ≡ file)

-- what reading the arguments returns; memory can run out for any
abbrev pub IsParsed : List Text → Result Invocation ArgumentsFault → Type 0
IsParsed arguments (Ok Serve) = Reads arguments None
IsParsed arguments (Ok (Check file)) = Reads arguments (Some file.now)
IsParsed arguments (Err Help) = refusals arguments ≡ DisplayHelp ∷ []
IsParsed arguments (Err NotUnderstood) =
    (kind : ErrorKind) × (kind ≢ DisplayHelp) × (refusals arguments ≡ kind ∷ [])
IsParsed arguments (Err NoMemory) = Unit {0}

-- the kinds of files that are opened: what may block only where a file is checked
abbrev pub kinds_for : Result Invocation ArgumentsFault → FileKinds
kinds_for (Ok (Check file)) = All
kinds_for (Ok Serve) = Regular
kinds_for (Err fault) = Regular
