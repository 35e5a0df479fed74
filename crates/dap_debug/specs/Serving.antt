-- Defines what is promised of a conversation over a language: `Debugged` is the contract of `serve_language_inbox`,
-- and `DebuggedByReader` that of `serve_language`.
use Rattle.std.specs.Prelude.{◌≡◌, Bool, Option, Result, Ok, Err}
use Rattle.byte_streams.specs.Streams.{StreamLog, Supply, Output, IsOfWhole}
use Rattle.dap_reader.specs.Serving.{Looks, FrontOf}
use Rattle.serde_json.specs.Data.{Data}
use Rattle.dap_server.specs.Messages.{PlainReply}
use Rattle.dap_server.specs.Conversation.{Replies}
use Rattle.dap_server.specs.Inbox.{Gives, Reads}
use Rattle.dap_server.specs.ServingInbox.{OutputFailures}
use Rattle.dap_server.specs.Working.{Works, Polls, ServedWorker, OwesNothing as WorkerOwesNothing, OwesNothingIdle as WorkerOwesNothingIdle}
use Rattle.dap_server.specs.declared.ending.Ending.{Ending}
use Rattle.dap_server.specs.declared.ending.ServeFault.{ServeFault}
use Rattle.dap_debug.specs.Commands.{checked, command_of}
use Rattle.dap_debug.specs.declared.command.Command.{Command}
use Rattle.dap_debug.specs.declared.command.Command.TheVariants as command
use Rattle.dap_debug.specs.declared.serving.DebugFault.{DebugFault}
use Rattle.dap_debug.specs.declared.serving.DebugFault.TheVariants as fault
use Rattle.dap_debug.specs.Loading.{ReadsFiles, Situation, situation, Launches}
use Rattle.dap_debug.specs.Replies.{Known, RepliesTo}
use Rattle.dap_debug.specs.Running.{WorksOn}
use Rattle.dap_debug.specs.Standings.{Standing, unused, is_running}

-- What a command, if it isn't refused for its arguments, does with files: a launch loads what was read of the file at
-- its path, and no other touches one.
abbrev pub FilesFor : {S F : Type 0} → Known S → ReadsFiles F → Command → Option Data → Situation S F → PlainReply
    → Situation S F → Type 0
FilesFor known reads command.Launch arguments a reply b = Launches known.shows.reads_as reads arguments a reply b
FilesFor known reads _ arguments a reply b = b.files ≡ a.files

-- what a session promises of replies and of its work, and whether there is some to do
abbrev pub replied_by : {S F : Type 0} → Known S → ReadsFiles F → Replies (Situation S F)
replied_by known reads =
    λ a command arguments reply b. RepliesTo known (command_of command) arguments a.stands reply b.stands
    × FilesFor known reads (checked (command_of command) arguments) arguments a reply b

abbrev pub worked_by : {S F : Type 0} → Known S → Works (Situation S F)
worked_by known = λ a events b. WorksOn known.takes known.sees a.stands events b.stands × (b.files ≡ a.files)

abbrev pub runs_in : {S F : Type 0} → Situation S F → Bool
runs_in a = is_running a.stands.phase

-- A client was served from a session without a program on: each request was answered once, in order, as `RepliesTo`
-- says; and each time that the program ran and nothing had come, it ran on for a slice, and all of that was told, as
-- `WorksOn` says. Files were read as `FilesFor` says, by the opener that was lent.
pub record Debugged {S F I : Type 0} (known : Known S) (reads : ReadsFiles F) (gives : Gives I) (polls : Polls I)
    (files later_files : F) (inbox left : I) (written later : StreamLog) (result : Result Ending ServeFault)
    : Type 0 where
  pub last : Standing S
  pub served :
      ServedWorker (replied_by known reads) (worked_by known) runs_in gives polls (situation unused files)
      (situation last later_files) inbox left written later result

-- A session that goes on owes nothing: of what came so far each request was answered, each slice was told, all that was
-- written, and neither a whole frame nor a framing fault waits.
abbrev pub OwesNothing : {S F I : Type 0} → Known S → ReadsFiles F → Gives I → Polls I → F → I → I → StreamLog
    → StreamLog
    → Type 0
OwesNothing known reads gives polls files inbox now written later =
    WorkerOwesNothing (replied_by known reads) (worked_by known) runs_in gives polls (situation unused files) inbox now
    written later

-- the same, and no program runs
abbrev pub OwesNothingIdle : {S F I : Type 0} → Known S → ReadsFiles F → Gives I → Polls I → F → I → I → StreamLog
    → StreamLog → Type 0
OwesNothingIdle known reads gives polls files inbox now written later =
    WorkerOwesNothingIdle (replied_by known reads) (worked_by known) runs_in gives polls (situation unused files) inbox
    now written later

-- A client was served over what reads of an input gave. `taken` is what they gave up to the item that was taken last,
-- the front of all that they gave; of an input that tells its bytes, these are its own.
abbrev pub DebuggedFrom : {S F : Type 0} → Known S → ReadsFiles F → F → F → Supply → Supply → Output → Output
    → Result Ending ServeFault → Type 0
DebuggedFrom known reads files later_files input later_input before after result =
    (taken : Supply) × ∥ IsOfWhole taken ∥₁ × FrontOf taken later_input
    × Debugged known reads Reads Looks files later_files input taken before.written after.written result
    × OutputFailures result before.failures after.failures

-- the same; or the thread that reads isn't started, nothing is written, and no file is touched
abbrev pub DebuggedByReader : {S F : Type 0} → Known S → ReadsFiles F → F → F → Supply → Supply → Output → Output
    → Result Ending DebugFault → Type 0
DebuggedByReader known reads files later_files input later_input before after (Ok ending) =
    DebuggedFrom known reads files later_files input later_input before after (Ok ending)
DebuggedByReader known reads files later_files input later_input before after (Err (fault.Serve why)) =
    DebuggedFrom known reads files later_files input later_input before after (Err why)
DebuggedByReader known reads files later_files input later_input before after (Err (fault.Start why)) =
    (after ≡ before) × (later_files ≡ files)
