-- States what a request asks, in the words of the Debug Adapter Protocol: a command by its name, and its arguments by
-- their keys. Profile: the bounds and the defaults.
use Rattle.std.specs.Prelude.{◌≡◌, ◌≤◌, ◌^◌, ◌-◌, ℕ, true, false, List, [], All, length, codes, Option, Some, option_map}
use Rattle.serde_json.specs.Data.{Data, boolean, number, unsigned, string, array, object, Items, no_items, Members}
use Rattle.serde_json.specs.Find.{get}
use Rattle.dap_msg.specs.Members.{Has, HasOr, IsObjectOrAbsent, IsSmall, SayEach}
use Rattle.dap_msg.specs.Questions.{IsQuestionCalled, AsksQuestion}
use Rattle.dap_msg.specs.declared.command.Command.{Command}
use Rattle.dap_msg.specs.declared.command.Command.TheVariants as command
use Rattle.dap_msg.specs.declared.requests.initialize.InitializeArguments.{InitializeArguments}
use Rattle.dap_msg.specs.declared.requests.launch.LaunchArguments.{LaunchArguments}
use Rattle.dap_msg.specs.declared.requests.resume.ResumeKind.TheVariants as resume
use Rattle.dap_msg.specs.declared.requests.resume.RetreatKind.TheVariants as retreat
use Rattle.dap_msg.specs.declared.requests.resume.ThreadArguments.{ThreadArguments}
use Rattle.dap_msg.specs.declared.requests.set_breakpoints.SetBreakpointsArguments.{SetBreakpointsArguments}
use Rattle.dap_msg.specs.declared.requests.set_breakpoints.SourceBreakpoint.{SourceBreakpoint}

-- ---- names

-- the command of this name
abbrev pub IsCalled : Command → List ℕ → Type 0
IsCalled (command.Initialize asked) name = name ≡ codes "initialize"
IsCalled (command.Launch asked) name = name ≡ codes "launch"
IsCalled (command.SetBreakpoints asked) name = name ≡ codes "setBreakpoints"
IsCalled command.ConfigurationDone name = name ≡ codes "configurationDone"
IsCalled command.Threads name = name ≡ codes "threads"
IsCalled (command.Resume resume.Continue asked) name = name ≡ codes "continue"
IsCalled (command.Resume resume.Next asked) name = name ≡ codes "next"
IsCalled (command.Resume resume.StepIn asked) name = name ≡ codes "stepIn"
IsCalled (command.Resume resume.StepOut asked) name = name ≡ codes "stepOut"
IsCalled (command.Retreat retreat.StepBack asked) name = name ≡ codes "stepBack"
IsCalled (command.Retreat retreat.ReverseContinue asked) name = name ≡ codes "reverseContinue"
IsCalled (command.Pause asked) name = name ≡ codes "pause"
IsCalled (command.Inspect asked) name = IsQuestionCalled asked name
IsCalled command.Disconnect name = name ≡ codes "disconnect"
IsCalled (command.Unsupported text) name = ⊥
IsCalled (command.BadArguments k) name = ⊥

-- ---- arguments

-- a byte from 0x20 to 0x7E
abbrev pub IsPrintable : ℕ → Type 0
IsPrintable byte = (32 ≤ byte) × (byte ≤ 126)

pub record AsksInitialize (asked : InitializeArguments) (given : Option Data) : Type 0 where
  pub given_well : IsObjectOrAbsent given
  pub lines : HasOr (boolean true) (codes "linesStartAt1") (boolean asked.lines_start_at_1) given
  pub columns : HasOr (boolean true) (codes "columnsStartAt1") (boolean asked.columns_start_at_1) given

pub record AsksLaunch (asked : LaunchArguments) (given : Option Data) : Type 0 where
  pub given_well : IsObjectOrAbsent given
  pub program : Has (codes "program") (string asked.program) given
  pub not_empty : 1 ≤ length asked.program
  pub not_long : length asked.program ≤ 255
  pub printable : All IsPrintable asked.program
  pub stops : HasOr (boolean false) (codes "stopOnEntry") (boolean asked.stop_on_entry) given
  pub debugs : HasOr (boolean false) (codes "noDebug") (boolean false) given

pub record AsksBreakpoint (asked : SourceBreakpoint) (d : Data) : Type 0 where
  pub given_well : IsObjectOrAbsent (Some d)
  pub line : Has (codes "line") (number (unsigned asked.line)) (Some d)
  pub to_last_line : asked.line ≤ 2 ^ 31 - 1
  pub condition : HasOr (string []) (codes "condition") (string asked.condition) (Some d)
  pub condition_fits : length asked.condition ≤ 1024
  pub hit_condition : HasOr (string []) (codes "hitCondition") (string asked.hit_condition) (Some d)
  pub hit_condition_fits : length asked.hit_condition ≤ 1024
  pub log_message : HasOr (string []) (codes "logMessage") (string asked.log_message) (Some d)
  pub log_message_fits : length asked.log_message ≤ 1024

pub record AsksSetBreakpoints (asked : SetBreakpointsArguments) (given : Option Data) : Type 0 where
  pub given_well : IsObjectOrAbsent given
  pub source : Members
  pub has_source : Has (codes "source") (object source) given
  pub path : get (codes "path") (object source) ≡ option_map string asked.path
  pub breakpoints : Items
  pub has_breakpoints : HasOr (array no_items) (codes "breakpoints") (array breakpoints) given
  pub each : SayEach AsksBreakpoint asked.breakpoints breakpoints
  pub not_many : length asked.breakpoints ≤ 256

pub record AsksThread (asked : ThreadArguments) (given : Option Data) : Type 0 where
  pub given_well : IsObjectOrAbsent given
  pub thread : Has (codes "threadId") (number (unsigned asked.thread_id)) given
  pub small : IsSmall asked.thread_id

-- The member `arguments`, or its absence, gives the command these arguments; three commands ignore it. What a question
-- asks stands in the file of that question: `StackTrace`, `Scopes`, `Variables` or `Evaluate`.
abbrev pub IsGiven : Command → Option Data → Type 0
IsGiven (command.Initialize asked) given = AsksInitialize asked given
IsGiven (command.Launch asked) given = AsksLaunch asked given
IsGiven (command.SetBreakpoints asked) given = AsksSetBreakpoints asked given
IsGiven command.ConfigurationDone given = Unit {0}
IsGiven command.Threads given = Unit {0}
IsGiven (command.Resume kind asked) given = AsksThread asked given
IsGiven (command.Retreat kind asked) given = AsksThread asked given
IsGiven (command.Pause asked) given = AsksThread asked given
IsGiven (command.Inspect asked) given = AsksQuestion asked given
IsGiven command.Disconnect given = Unit {0}
IsGiven (command.Unsupported text) given = ⊥
IsGiven (command.BadArguments k) given = ⊥

-- ---- commands

-- A name and arguments ask for the command that has that name and is given these arguments. They are unsupported where
-- no command has the name, and the arguments are bad where none that has it is given them.
abbrev pub IsAsked : Command → List ℕ → Option Data → Type 0
IsAsked (command.Unsupported text) name given = (name ≡ text) × ((c : Command) → IsCalled c name → ⊥)
IsAsked (command.BadArguments k) name given =
    ((c : Command) × IsCalled c name) × ((c : Command) → IsCalled c name → IsGiven c given → ⊥)
IsAsked c name given = IsCalled c name × IsGiven c given
