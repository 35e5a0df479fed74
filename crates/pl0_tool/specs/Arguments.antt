-- Defines the command line of the program `pl0`, and what its arguments ask for.
use Rattle.std.specs.Prelude.{◌≡◌, ◌≢◌, ℕ, ◌<◌, ◌^◌, Bool, true, false, List, [], ◌∷◌, map, Option, Some, None, Result, Ok, Err, unwrap_or, codes}
use Rattle.std.specs.Str.Parse.{IsNumeral, digits_value, without_leading_plus}
use Rattle.clap.specs.Lexer.{usize_max}
use Rattle.clap.specs.Words.{App, HasKind, Row, Rule, Shape, Text, all_of, fault_of, new_app, new_rule, one_of, subcommand_of, with_subcommand}
use Rattle.clap.specs.declared.builder.action.ArgAction.TheVariants.{Append, Set, SetTrue}
use Rattle.clap.specs.declared.builder.value_parser.ValueParser.TheVariants.{Unsigned}
use Rattle.clap.specs.declared.error.Error.{Error}
use Rattle.pl0_tool.specs.declared.arguments.Request.{Request}
use Rattle.pl0_tool.specs.declared.arguments.Task.{Task}
use Rattle.pl0_tool.specs.declared.arguments.Task.TheVariants.{Run, Trace, Check, Tree, List as Listing, Tokens}

-- ---- the command line

-- the file that a command is for
abbrev pub one_file : Rule
one_file = record (new_rule (codes "FILE")) { required = true; action = Some Set }

-- the files that `check` is for, one or more
abbrev pub files : Rule
files = record (new_rule (codes "FILE")) {
  required = true;
  action = Some Append;
  range = Some (record { start_inclusive = 1; end_inclusive = usize_max });
}

-- an option with a number from `least` to `most`
abbrev pub number_option : Text → ℕ → ℕ → Rule
number_option name least most = record (new_rule name) {
  long = Some name;
  value_names = 1;
  parser = Some (Unsigned least most);
}

-- a flag
abbrev pub flag : Text → Rule
flag name = record (new_rule name) { long = Some name; action = Some SetTrue }

-- a command with these arguments
abbrev pub command_with : Text → List Rule → Shape
command_with name rules = record (new_app name).top { rules = rules }

-- how many positions are traced at most
abbrev pub most_steps : ℕ
most_steps = 65536

-- and how many where the command line doesn't say
abbrev pub usual_steps : ℕ
usual_steps = 100

-- how many steps a run may take where the command line doesn't say; each run ends before
abbrev pub no_limit : ℕ
no_limit = 18446744073709551615

-- the program: one of its commands has to be named, and it tells its version
abbrev pub program : App
program = record {
  top = record (new_app (codes "pl0")).top { has_version = true; subcommand_required = true };
  subs = [];
}

-- its commands
abbrev pub run_command : Shape
run_command = command_with (codes "run") (one_file ∷ number_option (codes "steps") 1 usize_max ∷ [])

abbrev pub trace_command : Shape
trace_command =
    command_with (codes "trace") (one_file ∷ number_option (codes "from") 0 usize_max
    ∷ number_option (codes "steps") 1 most_steps ∷ flag (codes "machine") ∷ flag (codes "instructions") ∷ [])

abbrev pub check_command : Shape
check_command = command_with (codes "check") (files ∷ [])

abbrev pub list_command : Shape
list_command = command_with (codes "list") (one_file ∷ flag (codes "names") ∷ [])

abbrev pub file_command : Text → Shape
file_command name = command_with name (one_file ∷ [])

-- a command, below which there is none
abbrev pub alone : Shape → App
alone command = record { top = command; subs = [] }

abbrev pub command_line : App
command_line =
    with_subcommand (with_subcommand (with_subcommand (with_subcommand (with_subcommand (with_subcommand program
    run_command) trace_command) check_command) list_command) (file_command (codes "tree")))
    (file_command (codes "tokens"))

-- ---- what is asked for

-- The number that an option's text is, or another where the option wasn't given. A text that is no number of 64 bits is
-- refused by clap.
abbrev pub IsNumber : ℕ → Option Text → ℕ → Type 0
IsNumber default None n = n ≡ default
IsNumber default (Some text) n =
    IsNumeral 10 (without_leading_plus text) → digits_value 10 (without_leading_plus text) < 2 ^ 64
    → n ≡ digits_value 10 (without_leading_plus text)

-- whether a flag was given, by what clap keeps of it
abbrev pub IsFlag : Option Text → Bool → Type 0
IsFlag given is =
    (given ≡ Some (codes "true") → is ≡ true) × (given ≡ Some (codes "false") → is ≡ false)
    × (given ≡ None → is ≡ false)

-- the task of a command, by its name and its arguments
abbrev pub IsTask : Text → List Row → Task → Type 0
IsTask name rows (Run limit) = (name ≡ codes "run") × IsNumber no_limit (one_of (codes "steps") rows) limit
IsTask name rows (Listing names) = (name ≡ codes "list") × IsFlag (one_of (codes "names") rows) names
IsTask name rows (Trace from steps view) =
    (name ≡ codes "trace") × IsNumber 0 (one_of (codes "from") rows) from
    × IsNumber usual_steps (one_of (codes "steps") rows) steps × IsFlag (one_of (codes "machine") rows) view.machine
    × IsFlag (one_of (codes "instructions") rows) view.instructions
IsTask name rows Tree = name ≡ codes "tree"
IsTask name rows Tokens = name ≡ codes "tokens"
IsTask name rows Check =
    (name ≢ codes "run") × (name ≢ codes "list") × (name ≢ codes "trace") × (name ≢ codes "tree")
    × (name ≢ codes "tokens")

-- clap reads the arguments, the program's name first, as a command, and this is its task and its files
pub record Asks (arguments : List Text) (asked : Request) : Type 0 where
  pub name : Text
  pub rows : List Row
  pub passes : fault_of command_line arguments ≡ []
  pub command : subcommand_of command_line arguments ≡ Some (name, rows)
  pub task : IsTask name rows asked.task
  pub files : map (λ file. file.now) asked.files.items ≡ unwrap_or (all_of (codes "FILE") rows) []

-- what reading the arguments returns: what they ask for, or why clap refuses them, or that memory ran out
abbrev pub IsParsed : List Text → Result Request Error → Type 0
IsParsed arguments (Ok asked) = Asks arguments asked
IsParsed arguments (Err error) = HasKind (fault_of command_line arguments) error
