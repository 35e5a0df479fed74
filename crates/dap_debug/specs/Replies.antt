-- Defines what is replied to each command: the contract of a session.
use Rattle.std.specs.Prelude.{◌≡◌, true, [], codes, Option, None, Some}
use Rattle.dap_debug.specs.declared.state.Counting.{Counting}
use Rattle.serde_json.specs.Data.{Data, boolean, object, no_members, member}
use Rattle.dap_server.specs.Messages.{PlainReply}
use Rattle.dap_bodies.specs.Arguments.{truth_or}
use Rattle.dap_bodies.specs.Bodies.{threads}
use Rattle.debuggee.specs.Due.{Sight}
use Rattle.debuggee.specs.Runs.{Meaning}
use Rattle.dap_debug.specs.declared.command.Command.{Command}
use Rattle.dap_debug.specs.declared.command.Command.TheVariants as command
use Rattle.dap_debug.specs.Commands.{checked, refusal_text}
use Rattle.dap_debug.specs.Breakpoints.{Sets}
use Rattle.dap_debug.specs.Inspecting.{Explains, Inspects}
use Rattle.dap_debug.specs.Loading.{FileRead, Loads}
use Rattle.dap_debug.specs.Running.{success, refusal, IsQuiet, Starts, Resumes, Pauses, Terminates}
use Rattle.debuggee.specs.Shown.{Shows}
use Rattle.dap_debug.specs.Standings.{Standing}

-- what is known of a language: its steps; what is seen of a state; and what it says of its texts and programs
pub record Known (S : Type 0) : Type 1 where
  pub takes : Meaning S
  pub sees : Sight S
  pub shows : Shows S

abbrev pub known_of : {S : Type 0} → Meaning S → Sight S → Shows S → Known S
known_of takes sees shows = record { takes = takes; sees = sees; shows = shows }

-- what the adapter can do
abbrev pub capabilities : Data
capabilities =
    object (member (codes "supportsConditionalBreakpoints") (boolean true)
    (member (codes "supportsConfigurationDoneRequest") (boolean true)
    (member (codes "supportsEvaluateForHovers") (boolean true)
    (member (codes "supportsExceptionInfoRequest") (boolean true)
    (member (codes "supportsHitConditionalBreakpoints") (boolean true)
    (member (codes "supportsLogPoints") (boolean true)
    (member (codes "supportsTerminateRequest") (boolean true) no_members)))))))

-- how the client counts, as `initialize` says; from 1 where it doesn't
abbrev pub counting_asked : Option Data → Counting
counting_asked arguments = record {
  lines_start_at_1 = truth_or true (codes "linesStartAt1") arguments;
  columns_start_at_1 = truth_or true (codes "columnsStartAt1") arguments;
}

-- what is replied to a command that isn't refused for its arguments
abbrev pub Answers : {S : Type 0} → Known S → Command → Option Data → Standing S → PlainReply → Standing S → Type 0
Answers known command.Initialize arguments stood reply stands =
    (reply ≡ success (Some capabilities) []) × (stands ≡ record stood { counting = counting_asked arguments })
Answers known command.Launch arguments stood reply stands =
    (file : FileRead) × Loads known.shows.reads_as arguments file stood reply stands
Answers known command.SetBreakpoints arguments stood reply stands =
    Sets known.shows arguments stood reply stands
Answers known command.ConfigurationDone arguments stood reply stands =
    Starts known.takes known.sees stood reply stands
Answers known command.Threads arguments stood reply stands =
    IsQuiet (success (Some (threads (codes "main"))) []) stood reply stands
Answers known (command.Resume how) arguments stood reply stands =
    Resumes known.takes known.sees how stood reply stands
Answers known command.Pause arguments stood reply stands = Pauses stood reply stands
Answers known command.Terminate arguments stood reply stands = Terminates stood reply stands
Answers known (command.Inspect asked) arguments stood reply stands =
    Inspects known.sees known.shows asked arguments stood reply × (stands ≡ stood)
Answers known command.ExceptionInfo arguments stood reply stands = Explains stood reply × (stands ≡ stood)
Answers known command.Disconnect arguments stood reply stands = IsQuiet (success None []) stood reply stands
Answers known (command.Refused why) arguments stood reply stands =
    IsQuiet (refusal (refusal_text why)) stood reply stands

-- what is replied to a command with these arguments
abbrev pub RepliesTo : {S : Type 0} → Known S → Command → Option Data → Standing S → PlainReply → Standing S → Type 0
RepliesTo known asked arguments stood reply stands =
    Answers known (checked asked arguments) arguments stood reply stands
