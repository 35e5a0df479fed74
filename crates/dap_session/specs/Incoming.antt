-- Defines an event as plain data.
use Rattle.std.specs.Prelude.{Ok, Err}
use Rattle.dbg_runner.specs.Reported.{plain_report}
use Rattle.dap_history.specs.Events.{Incoming, Piece, End, ReadFailed, NoMemory, File, Report}
use Rattle.dap_session.specs.declared.ports.Event.{Event}
use Rattle.dap_session.specs.declared.ports.Event.TheVariants as event

-- an event as plain data
abbrev pub incoming_of : Event → Incoming
incoming_of (event.Piece piece) = Piece piece.items
incoming_of event.End = End
incoming_of event.ReadFailed = ReadFailed
incoming_of event.NoMemory = NoMemory
incoming_of (event.File (Ok file)) = File (Ok file.items)
incoming_of (event.File (Err fault)) = File (Err fault)
incoming_of (event.Report r) = Report (plain_report r)
