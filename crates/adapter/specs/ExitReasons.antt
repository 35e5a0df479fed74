-- Defines how the program ends: its exit status and the last line on standard error.
use Rattle.std.specs.Prelude.{ℕ, List, [], ◌++◌, codes, decimal, Result, Ok, Err}
use Rattle.std.specs.declared.io.ErrorKind.{ErrorKind}
use Rattle.std.specs.declared.io.ErrorKind.TheVariants as kind
use Rattle.dap_frame.specs.declared.fault.FramingFault.{FramingFault}
use Rattle.dap_frame.specs.declared.fault.FramingFault.TheVariants as frame
use Rattle.dap_history.specs.declared.fault.SessionFault.{SessionFault}
use Rattle.dap_history.specs.declared.fault.SessionFault.TheVariants as session
use Rattle.adapter.specs.declared.serving.Served.{Served}
use Rattle.adapter.specs.declared.serving.ServeFault.{ServeFault}
use Rattle.adapter.specs.declared.serving.ServeFault.TheVariants as serve
use Rattle.pl0_tree.specs.Faults.{fault_number}
use Rattle.adapter.specs.declared.checking.CheckFault.{CheckFault}
use Rattle.adapter.specs.declared.checking.CheckFault.TheVariants as check
use Rattle.adapter.specs.declared.arguments.ArgumentsFault.{ArgumentsFault}
use Rattle.adapter.specs.declared.arguments.ArgumentsFault.TheVariants as arguments
use Rattle.adapter.specs.declared.exit_reason.ExitReason.{ExitReason}
use Rattle.adapter.specs.declared.exit_reason.ExitReason.TheVariants.{Success, ReadFailed, WriteFailed, Framing, Refused, CannotRead, Syntax, NoMemory, NotText, NotUnderstood}

-- framing faults by their numbers; out of memory is a refusal of the session
abbrev pub reason_of_framing : FramingFault → ExitReason
reason_of_framing frame.HeaderTooLong = Framing 1
reason_of_framing frame.BadField = Framing 2
reason_of_framing frame.NoLength = Framing 3
reason_of_framing frame.TwoLengths = Framing 4
reason_of_framing frame.BadLength = Framing 5
reason_of_framing frame.TooLarge = Framing 6
reason_of_framing frame.NoMemory = Refused 2

-- the session's other faults by their numbers
abbrev pub reason_of_session : SessionFault → ExitReason
reason_of_session (session.Frame fault) = reason_of_framing fault
reason_of_session session.NoMemory = Refused 2
reason_of_session session.SeqExhausted = Refused 3
reason_of_session session.OrdersFull = Refused 4
reason_of_session session.RunnerGone = Refused 5
reason_of_session session.WriterGone = Refused 6

-- the reason after serving; a thread that can't be started is a refusal too
abbrev pub reason_of_serve : Result Served ServeFault → ExitReason
reason_of_serve (Ok served) = Success
reason_of_serve (Err serve.WriteFailed) = WriteFailed
reason_of_serve (Err serve.ReadFailed) = ReadFailed
reason_of_serve (Err (serve.Session fault)) = reason_of_session fault
reason_of_serve (Err serve.NoThread) = Refused 7

-- faults of a text by their numbers
abbrev pub reason_of_check : Result (Unit {0}) CheckFault → ExitReason
reason_of_check (Ok done) = Success
reason_of_check (Err check.CannotRead) = CannotRead
reason_of_check (Err (check.Syntax kind place)) = Syntax (fault_number kind) place
reason_of_check (Err check.WriteFailed) = WriteFailed
reason_of_check (Err check.NoMemory) = NoMemory

-- help is no fault of the program's
abbrev pub reason_of_arguments : ArgumentsFault → ExitReason
reason_of_arguments arguments.Help = Success
reason_of_arguments arguments.NotUnderstood = NotUnderstood
reason_of_arguments arguments.NoMemory = NoMemory

-- why there are no arguments: no memory for them, or one of them is no text
abbrev pub reason_of_reading : ErrorKind → ExitReason
reason_of_reading kind.OutOfMemory = NoMemory
reason_of_reading _ = NotText

-- the exit status
abbrev pub status_of : ExitReason → ℕ
status_of Success = 0
status_of ReadFailed = 1
status_of WriteFailed = 1
status_of (Framing number) = 2
status_of (Refused number) = 3
status_of CannotRead = 1
status_of (Syntax number place) = 3
status_of NoMemory = 3
status_of NotText = 4
status_of NotUnderstood = 4

-- The last line on standard error, without its line feed. At success there is none, the usage stands in its place where
-- arguments are not understood, and behind it where one is no text.
abbrev pub last_line : ExitReason → List ℕ
last_line Success = []
last_line ReadFailed = codes "pl0dap: read failed"
last_line WriteFailed = codes "pl0dap: write failed"
last_line (Framing number) = codes "pl0dap: frame " ++ decimal number
last_line (Refused number) = codes "pl0dap: refused " ++ decimal number
last_line CannotRead = codes "pl0dap: cannot read"
last_line (Syntax number place) =
    codes "pl0dap: syntax " ++ (decimal number ++ (codes
    " " ++ (decimal place.line ++ (codes " " ++ decimal place.column))))
last_line NoMemory = codes "pl0dap: no memory"
last_line NotText = codes "pl0dap: an argument is not text"
last_line NotUnderstood = []
