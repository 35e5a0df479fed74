-- What each command writes and tells of a text.
use Rattle.std.specs.Prelude.{◌≡◌, ◌⊎◌, ◌++◌, ℕ, List, [], codes, decimal}
use Rattle.pl0_tree.specs.declared.tree.Place.{Place}
use Rattle.pl0_tree.specs.declared.fault.FaultKind.{FaultKind}
use Rattle.pl0_tree.specs.Faults.{IsFirstFault}
use Rattle.pl0_unit.specs.declared.unit.Unit.{Unit as Compiled}
use Rattle.pl0_machine.specs.Machine.{Standing}
use Rattle.pl0_mistakes.specs.Lines.{AreMistakeLines, IsMistakeLine}
use Rattle.pl0_mistakes.specs.Warnings.{warning_lines}
use Rattle.byte_streams.specs.Streams.{Output}
use Rattle.pl0_tool.specs.declared.arguments.Task.{Task}
use Rattle.pl0_tool.specs.declared.arguments.Task.TheVariants.{Run, Trace, Check, Tokens}
use Rattle.pl0_tool.specs.declared.report.Ending.{Ending}
use Rattle.pl0_tool.specs.declared.report.Ending.TheVariants.{Success, Fault, Mistake, Stopped, Unwritten}
use Rattle.pl0_tool.specs.declared.report.Report.{Report}
use Rattle.pl0_tool.specs.declared.running.RunEnd.{RunEnd}
use Rattle.pl0_tool.specs.declared.running.RunEnd.TheVariants.{Ended, Faulted, FaultedUnwritten, StoppedAt, WriteFailed}
use Rattle.pl0_tool.specs.Loading.{IsProgramOf}
use Rattle.pl0_tool.specs.Running.{HasRun, IsWithin}
use Rattle.pl0_tool.specs.Faulting.{fault_report, stop_report}
use Rattle.pl0_tool.specs.Traced.{Grows, HasTraced}
use Rattle.pl0_tool.specs.declared.tracing.TraceEnd.{TraceEnd}
use Rattle.pl0_tool.specs.declared.tracing.TraceEnd.TheVariants.{GoesOn, Ended as TraceEnded, EndedBefore, Faulted as TraceFaulted, WriteFailed as TraceUnwritten}

-- a report of these bytes, and of a command that ends so
abbrev pub IsReport : List ℕ → List ℕ → Ending → Report → Type 0
IsReport output errors ending report =
    (report.output.items ≡ output) × (report.errors.items ≡ errors) × (report.ending ≡ ending)

-- ---- a run

-- What is told, by how the run ended where a machine stands: of a step that faults, the fault and the newest frames; of
-- a run that was stopped, its position and these.
abbrev pub IsRunReport : RunEnd → List ℕ → Standing → Report → Type 0
IsRunReport Ended file m report = IsReport [] [] Success report
IsRunReport (Faulted fault) file m report = IsReport [] (fault_report file m fault) Fault report
IsRunReport (FaultedUnwritten fault) file m report = IsReport [] (fault_report file m fault) Unwritten report
IsRunReport StoppedAt file m report = IsReport [] (stop_report file m) Stopped report
IsRunReport WriteFailed file m report = IsReport [] [] Unwritten report

-- the run from a machine's position on, up to a limit, was written, and it is told how it ended
abbrev pub RunTells : ℕ → List ℕ → Standing → Report → Output → Output → Type 0
RunTells limit file start report before after =
    (end : RunEnd) × (last : Standing) × HasRun end start last before after × IsWithin limit end last
    × IsRunReport end file last report

-- ---- a trace

-- the line that says where a run goes on or ends
abbrev pub position_line : List ℕ → ℕ → List ℕ
position_line does position =
    codes "pl0: the run " ++ (does ++ (codes " at position " ++ (decimal position ++ codes "\n")))

-- What is told, by how the trace ended where a machine stands: what is pending of the table, and where the run goes on,
-- ended before the first position or faults. Where the output failed nothing is.
abbrev pub IsTraceReport : TraceEnd → List ℕ → Standing → List ℕ → Report → Type 0
IsTraceReport GoesOn file m pending report =
    IsReport pending (position_line (codes "goes on") m.position) Success report
IsTraceReport TraceEnded file m pending report = IsReport pending [] Success report
IsTraceReport EndedBefore file m pending report =
    IsReport pending (position_line (codes "ends") m.position) Success report
IsTraceReport (TraceFaulted fault) file m pending report = IsReport pending (fault_report file m fault) Fault report
IsTraceReport TraceUnwritten file m pending report = IsReport [] [] Unwritten report

-- positions of the run were told: the first part of their table, which has some head, was written, and this is told of
-- the rest
abbrev pub TraceTells : List ℕ → Standing → ℕ → ℕ → Report → Output → Output → Type 0
TraceTells file start from steps report before after =
    (end : TraceEnd) × (last : Standing) × (head : List ℕ) × (pending : List ℕ)
    × HasTraced end start from steps last head before after pending × IsTraceReport end file last pending report

-- ---- a page

-- A page was made, and all went well. What stands on it is tested.
abbrev pub PageTells : Report → Type 0
PageTells report = (report.errors.items ≡ []) × (report.ending ≡ Success)

-- ---- a text

-- a machine before the first step of a program
abbrev pub start_of : Compiled → Standing
start_of unit = record { unit = unit; position = 0 }

-- what a task makes of a text that is no program's: nothing, or its tokens
abbrev pub IsPage : Task → List ℕ → Type 0
IsPage Tokens page = Unit {0}
IsPage task page = page ≡ []

-- what a task tells of such a text: its first mistake; a check also further ones of names
abbrev pub AreMistakesTold : Task → List ℕ → List ℕ → FaultKind → Place → List ℕ → Type 0
AreMistakesTold Check file text kind place lines = AreMistakeLines file text kind place lines
AreMistakesTold task file text kind place lines = IsMistakeLine file text kind place lines

abbrev pub MistakeTells : Task → List ℕ → List ℕ → Report → Type 0
MistakeTells task file text report =
    (kind : FaultKind) × (place : Place) × IsFirstFault text kind place
    × AreMistakesTold task file text kind place report.errors.items × IsPage task report.output.items
    × (report.ending ≡ Mistake)

abbrev pub ProgramTells : Task → List ℕ → Compiled → Report → Output → Output → Type 0
ProgramTells (Run limit) file unit report before after = RunTells limit file (start_of unit) report before after
ProgramTells (Trace from steps view) file unit report before after =
    TraceTells file (start_of unit) from steps report before after
ProgramTells Check file unit report before after =
    IsReport [] (warning_lines file unit.tree.text.items) Success report × (after ≡ before)
ProgramTells _ file unit report before after = PageTells report × (after ≡ before)

-- a text's first mistake is told; or, where it is a program's, what the task tells of that
abbrev pub Tells : Task → List ℕ → List ℕ → Report → Output → Output → Type 0
Tells task file text report before after =
    (MistakeTells task file text report × (after ≡ before))
    ⊎ ((unit : Compiled) × IsProgramOf text unit × ProgramTells task file unit report before after)

-- ---- where memory runs out

-- the run from a machine's position on was written
abbrev pub WritesRun : Standing → Output → Output → Type 0
WritesRun start before after = (end : RunEnd) × (last : Standing) × HasRun end start last before after

-- the run of a program was written, or nothing
abbrev pub StartWrites : Compiled → Output → Output → Type 0
StartWrites unit before after = (after ≡ before) ⊎ WritesRun (start_of unit) before after

-- a part of a trace was written, or nothing
abbrev pub StartTraces : Output → Output → Type 0
StartTraces before after = (after ≡ before) ⊎ Grows before after

-- what a task writes of a program
abbrev pub ProgramWrites : Task → Compiled → Output → Output → Type 0
ProgramWrites (Run limit) unit before after = StartWrites unit before after
ProgramWrites (Trace from steps view) unit before after = StartTraces before after
ProgramWrites _ unit before after = after ≡ before

-- nothing was written of a text, or the run of its program, or a part of its trace
abbrev pub WritesNumbers : Task → List ℕ → Output → Output → Type 0
WritesNumbers task text before after =
    (after ≡ before) ⊎ ((unit : Compiled) × IsProgramOf text unit × ProgramWrites task unit before after)
