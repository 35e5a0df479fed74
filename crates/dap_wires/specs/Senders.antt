-- Defines what stands in an inbox, and who sends it.
use Rattle.std.specs.Prelude.{Bool, true, false, ◌&&◌, List, [], ◌∷◌, map}
use Rattle.dap_session.specs.declared.ports.Event.{Event}
use Rattle.dap_session.specs.declared.ports.Event.TheVariants as event
use Rattle.dbg_runner.specs.declared.outcome.SliceOutcome.{SliceOutcome}
use Rattle.dbg_runner.specs.declared.outcome.SliceOutcome.TheVariants as out
use Rattle.dbg_runner.specs.Plain.{PlainReport}
use Rattle.dbg_runner.specs.Reported.{Reported}
use Rattle.dap_history.specs.Events.{Incoming, Piece, End, ReadFailed, NoMemory, File, Report}
use Rattle.dap_wires.specs.declared.arrival.Arrival.{Arrival}
use Rattle.dap_wires.specs.declared.arrival.Arrival.TheVariants as arrival

-- whether the runner sends it
abbrev pub is_report : Event → Bool
is_report (event.Report r) = true
is_report _ = false

abbrev pub is_by_runner : Arrival → Bool
is_by_runner (arrival.Event e) = is_report e
is_by_runner (arrival.Quiet reports) = true

-- the events in a message of the queue, in their order
abbrev pub events_in : Arrival → List Event
events_in (arrival.Event e) = e ∷ []
events_in (arrival.Quiet reports) = map event.Report reports.items

-- those of these events that a client sent
abbrev pub from_client : List Incoming → List Incoming
from_client [] = []
from_client (Piece bytes ∷ events) = Piece bytes ∷ from_client events
from_client (End ∷ events) = End ∷ from_client events
from_client (ReadFailed ∷ events) = ReadFailed ∷ from_client events
from_client (NoMemory ∷ events) = NoMemory ∷ from_client events
from_client (File file ∷ events) = File file ∷ from_client events
from_client (Report r ∷ events) = from_client events

-- the reports among these events
abbrev pub reports_among : List Incoming → List PlainReport
reports_among [] = []
reports_among (Report r ∷ events) = r ∷ reports_among events
reports_among (e ∷ events) = reports_among events

-- ---- quiet reports, for which a client gets no message

-- whether the run goes on after a slice with this outcome
abbrev pub goes_on : SliceOutcome → Bool
goes_on out.More = true
goes_on _ = false

-- whether the list is empty
abbrev pub is_none_of : {A : Type 0} → List A → Bool
is_none_of [] = true
is_none_of (x ∷ xs) = false

-- whether a report is quiet: its run goes on, and it has no numbers and no logs
abbrev pub is_quiet : Reported → Bool
is_quiet r = goes_on r.outcome && is_none_of r.numbers && is_none_of r.logs

-- whether each of them is quiet
abbrev pub are_quiet : List Reported → Bool
are_quiet [] = true
are_quiet (r ∷ reports) = is_quiet r && are_quiet reports
