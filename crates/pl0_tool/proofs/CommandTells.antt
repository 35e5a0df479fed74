-- What commands tell, from what their parts told.
use Rattle.std.proofs.Common.{◌≡◌, ◌+◌, ◌-◌, ℕ, List, [], Result, Ok, Err, Global, Vec, IfOk, refl, sym, subst, inl, inr}
use Rattle.pl0_unit.specs.declared.unit.Unit.{Unit as Compiled}
use Rattle.pl0_machine.specs.Machine.{Standing}
use Rattle.byte_streams.specs.Streams.{Output}
use Rattle.pl0_tool.specs.declared.arguments.Task.{Task}
use Rattle.pl0_tool.specs.declared.arguments.Task.TheVariants.{Run, Trace, Check, Tree, List as Listing, Tokens}
use Rattle.pl0_tool.specs.declared.report.Ending.TheVariants.{Success}
use Rattle.pl0_tool.specs.declared.report.Report.{Report}
use Rattle.pl0_tool.specs.declared.running.RunEnd.{RunEnd}
use Rattle.pl0_tool.specs.Loading.{IsProgramOf}
use Rattle.pl0_tool.specs.Running.{HasRun, IsWithin}
use Rattle.pl0_tree.specs.declared.tree.Place.{Place}
use Rattle.pl0_tree.specs.declared.fault.FaultKind.{FaultKind}
use Rattle.pl0_mistakes.specs.Lines.{AreMistakeLines, IsMistakeLine, first_line}
use Rattle.pl0_mistakes.specs.Warnings.{warning_lines}
use Rattle.std.specs.Prelude.{IsErrAnd, MatchResult}
use Rattle.pl0_tool.specs.Commands.{AreMistakesTold, IsPage, IsReport, IsRunReport, RunTells, TraceTells, ProgramTells, Tells, start_of}
use Rattle.pl0_tool.specs.Commands.{IsTraceReport, PageTells, ProgramWrites, StartTraces, StartWrites, WritesNumbers, WritesRun}
use Rattle.pl0_tool.specs.Traced.{Grows, HasPart, HasTable, HasTraced}
use Rattle.pl0_tool.specs.declared.tracing.TraceEnd.{TraceEnd}
use Rattle.pl0_tool.specs.declared.tracing.View.{View}
use Rattle.pl0_tool.specs.declared.tracing.TraceEnd.TheVariants.{GoesOn, Ended, EndedBefore, Faulted, WriteFailed}

-- a run that ended so was told
pub run_ended : (limit : ℕ) (file : List ℕ) (start last : Standing) (end this : RunEnd) (report : Report)
    (before after : Output)
    → end ≡ this → HasRun end start last before after → IsWithin limit end last → IsRunReport this file last report
    → RunTells limit file start report before after
run_ended limit file start last end this report before after is ran within told = (
  this,
  last,
  subst (λ e. HasRun e start last before after) is ran,
  subst (λ e. IsWithin limit e last) is within,
  told,
)

-- the same, and that it was written where memory runs out before it is told
pub run_faulted : {E : Type 0} (limit : ℕ) (file : List ℕ) (start last : Standing) (end this : RunEnd)
    (r : Result Report E) (before after : Output)
    → end ≡ this → HasRun end start last before after → IsWithin limit end last
    → IfOk r (IsRunReport this file last)
    → MatchResult r (λ report. RunTells limit file start report before after) (λ e. WritesRun start before after)
run_faulted limit file start last end this (Ok report) before after is ran within told =
    run_ended limit file start last end this report before after is ran within told
run_faulted limit file start last end this (Err e) before after is ran within told = (end, last, ran)

-- of a text that is no program's, a task that makes no page shows nothing
pub no_page : (task : Task) (page : List ℕ) → page ≡ [] → IsPage task page
no_page Tokens page is = tt
no_page (Run limit) page is = is
no_page (Trace from steps view) page is = is
no_page Check page is = is
no_page (Listing names) page is = is
no_page Tree page is = is

-- and its tokens may be any page
pub tokens_page : {E : Type 0} (task : Task) (r : Result (Vec ℕ Global) E) → task ≡ Tokens
    → IfOk r (λ page. IsPage task page.items)
tokens_page task (Ok page) is = subst (λ t. IsPage t page.items) (sym is) tt
tokens_page task (Err e) is = tt

-- any task may tell the first mistake alone
pub one_mistake : (task : Task) (file text : List ℕ) (kind : FaultKind) (place : Place) (line : List ℕ)
    → IsMistakeLine file text kind place line → AreMistakesTold task file text kind place line
one_mistake Check file text kind place line told = first_line told
one_mistake (Run limit) file text kind place line told = told
one_mistake (Trace from steps view) file text kind place line told = told
one_mistake (Listing names) file text kind place line told = told
one_mistake Tree file text kind place line told = told
one_mistake Tokens file text kind place line told = told

-- and a check more
pub checked_mistakes : {E : Type 0} (task : Task) (file text : List ℕ) (kind : FaultKind) (place : Place)
    (r : Result (Vec ℕ Global) E) → task ≡ Check → IfOk r (λ lines. AreMistakeLines file text kind place lines.items)
    → IfOk r (λ lines. AreMistakesTold task file text kind place lines.items)
checked_mistakes task file text kind place (Ok lines) is told =
    subst (λ t. AreMistakesTold t file text kind place lines.items) (sym is) told
checked_mistakes task file text kind place (Err e) is told = tt

pub program_told : {E : Type 0} (task : Task) (file text : List ℕ) (unit : Compiled) (r : Result Report E)
    (before after : Output)
    → IsProgramOf text unit
    → MatchResult r (λ report. ProgramTells task file unit report before after)
    (λ e. ProgramWrites task unit before after)
    → MatchResult r (λ report. Tells task file text report before after) (λ e. WritesNumbers task text before after)
program_told task file text unit (Ok report) before after is tells = inr (unit, is, tells)
program_told task file text unit (Err e) before after is writes = inr (unit, is, writes)

-- of a trace that ended a part of its table was written
grown : (head : List ℕ) (from count : ℕ) (before now : Output) (pending : List ℕ)
    → HasTable head from count before now pending → Grows before now
grown head from count before now pending (table, is, held) = (held.flushed, held.appended)

pub traced_part : (end : TraceEnd) (m new : Standing) (from count : ℕ) (head : List ℕ) (before now : Output)
    (pending : List ℕ)
    → HasTraced end m from count new head before now pending → StartTraces before now
traced_part WriteFailed m new from count head before now pending (told, table, few, is, failed) =
    inr (failed.0.0, failed.0.1)
traced_part EndedBefore m new from count head before now pending (stops, same, none) = inl same
traced_part GoesOn m new from count head before now pending (there, alive, table) =
    inr (grown head from count before now pending table)
traced_part Ended m new from count head before now pending (behind, stops, table) =
    inr (grown head from (new.position - from) before now pending table)
traced_part (Faulted fault) m new from count head before now pending (stops, table) =
    inr (grown head from (new.position + 1 - from) before now pending table)

-- what a task that told of a program wrote of it
program_writes : (task : Task) (file : List ℕ) (unit : Compiled) (report : Report) (before after : Output)
    → ProgramTells task file unit report before after
    → ProgramWrites task unit before after
program_writes (Run limit) file unit report before after (end, last, ran, within, told) = inr (end, last, ran)
program_writes (Trace from steps view) file unit report before after (end, last, head, pending, traced, told) =
    traced_part end (start_of unit) last from steps head before after pending traced
program_writes Check file unit report before after (told, same) = same
program_writes (Listing names) file unit report before after (told, same) = same
program_writes Tree file unit report before after (told, same) = same
program_writes Tokens file unit report before after (told, same) = same

-- and of a text
pub text_writes : (task : Task) (file text : List ℕ) (report : Report) (before after : Output)
    → Tells task file text report before after
    → WritesNumbers task text before after
text_writes task file text report before after (inl (mistake, same)) = inl same
text_writes task file text report before after (inr (unit, is, told)) =
    inr (unit, is, program_writes task file unit report before after told)

-- where a `?` returns, what is known is that of the error
pub told_err : {T E W : Type 0} (P : T → Type 0) (Q : E → Type 0) (r : Result T E) → IsErrAnd r Q → W
    → MatchResult r P (λ e. W)
told_err P Q (Ok x) is w = absurd is
told_err P Q (Err e) is w = w

-- a run of a machine that stands at the start of a program
pub run_from : {E : Type 0} (limit : ℕ) (file : List ℕ) (unit : Compiled) (m : Standing) (r : Result Report E)
    (before after : Output)
    → m ≡ start_of unit
    → MatchResult r (λ report. RunTells limit file m report before after) (λ e. WritesRun m before after)
    → MatchResult r (λ report. RunTells limit file (start_of unit) report before after)
    (λ e. StartWrites unit before after)
run_from limit file unit m (Ok report) before after at tells =
    subst (λ (m : Standing). RunTells limit file m report before after) at tells
run_from limit file unit m (Err e) before after at writes =
    inr (subst (λ (m : Standing). WritesRun m before after) at writes)

-- ---- a trace

-- a trace of a machine that stands at the start of a program
pub traced_from : {E : Type 0} (end : TraceEnd) (file : List ℕ) (unit : Compiled) (m new : Standing)
    (from count : ℕ) (r : Result Report E) (head : List ℕ) (before now : Output) (pending : List ℕ)
    → m ≡ start_of unit
    → HasTraced end m from count new head before now pending → IfOk r (IsTraceReport end file new pending)
    → MatchResult r (λ report. TraceTells file (start_of unit) from count report before now)
    (λ e. StartTraces before now)
traced_from end file unit m new from count (Ok report) head before now pending at h is =
    subst (λ (m : Standing). TraceTells file m from count report before now) at (end, new, head, pending, h, is)
traced_from end file unit m new from count (Err e) head before now pending at h is =
    traced_part end m new from count head before now pending h

pub part_written : (head : List ℕ) (from count : ℕ) (before now : Output) → HasPart head from count before now
    → StartTraces before now
part_written head from count before now (told, pending, few, table) =
    inr (grown head from told before now pending table)

-- ---- what each task tells of a program

pub checked_program : {E : Type 0} (task : Task) (file : List ℕ) (unit : Compiled) (r : Result Report E) (out : Output)
    → task ≡ Check
    → IfOk r (IsReport [] (warning_lines file unit.tree.text.items) Success)
    → MatchResult r (λ report. ProgramTells task file unit report out out) (λ e. ProgramWrites task unit out out)
checked_program task file unit (Ok report) out is told =
    subst (λ (t : Task). ProgramTells t file unit report out out) (sym is) (told, refl)
checked_program task file unit (Err e) out is told =
    subst (λ (t : Task). ProgramWrites t unit out out) (sym is) refl

-- a task that makes a page
abbrev pub MakesPage : Task → Type 0
MakesPage (Listing names) = Unit {0}
MakesPage Tree = Unit {0}
MakesPage Tokens = Unit {0}
MakesPage task = ⊥

page_told : (task : Task) (file : List ℕ) (unit : Compiled) (report : Report) (out : Output) → MakesPage task
    → PageTells report → ProgramTells task file unit report out out
page_told (Listing names) file unit report out makes told = (told, refl)
page_told Tree file unit report out makes told = (told, refl)
page_told Tokens file unit report out makes told = (told, refl)
page_told (Run limit) file unit report out makes told = absurd makes
page_told (Trace from steps view) file unit report out makes told = absurd makes
page_told Check file unit report out makes told = absurd makes

page_writes : (task : Task) (unit : Compiled) (out : Output) → MakesPage task → ProgramWrites task unit out out
page_writes (Listing names) unit out makes = refl
page_writes Tree unit out makes = refl
page_writes Tokens unit out makes = refl
page_writes (Run limit) unit out makes = absurd makes
page_writes (Trace from steps view) unit out makes = absurd makes
page_writes Check unit out makes = absurd makes

pub paged_program : {E : Type 0} (task this : Task) (file : List ℕ) (unit : Compiled) (r : Result Report E)
    (out : Output)
    → task ≡ this → MakesPage this → IfOk r PageTells
    → MatchResult r (λ report. ProgramTells task file unit report out out) (λ e. ProgramWrites task unit out out)
paged_program task this file unit (Ok report) out is makes told =
    subst (λ (t : Task). ProgramTells t file unit report out out) (sym is)
    (page_told this file unit report out makes told)
paged_program task this file unit (Err e) out is makes told =
    subst (λ (t : Task). ProgramWrites t unit out out) (sym is) (page_writes this unit out makes)

pub run_program : {E : Type 0} (task : Task) (limit : ℕ) (file : List ℕ) (unit : Compiled) (r : Result Report E)
    (before after : Output)
    → task ≡ Run limit
    → MatchResult r (λ report. RunTells limit file (start_of unit) report before after)
    (λ e. StartWrites unit before after)
    → MatchResult r (λ report. ProgramTells task file unit report before after)
    (λ e. ProgramWrites task unit before after)
run_program task limit file unit (Ok report) before after is tells =
    subst (λ (t : Task). ProgramTells t file unit report before after) (sym is) tells
run_program task limit file unit (Err e) before after is writes =
    subst (λ (t : Task). ProgramWrites t unit before after) (sym is) writes

pub traced_program : {E : Type 0} (task : Task) (from steps : ℕ) (view : View) (file : List ℕ) (unit : Compiled)
    (r : Result Report E) (before after : Output)
    → task ≡ Trace from steps view
    → MatchResult r (λ report. TraceTells file (start_of unit) from steps report before after)
    (λ e. StartTraces before after)
    → MatchResult r (λ report. ProgramTells task file unit report before after)
    (λ e. ProgramWrites task unit before after)
traced_program task from steps view file unit (Ok report) before after is told =
    subst (λ (t : Task). ProgramTells t file unit report before after) (sym is) told
traced_program task from steps view file unit (Err e) before after is writes =
    subst (λ (t : Task). ProgramWrites t unit before after) (sym is) writes
