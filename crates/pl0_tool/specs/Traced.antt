-- What is written of a trace, and where its run stops. How a row goes on behind its position is tested.
use Rattle.std.specs.Prelude.{◌≡◌, ◌<◌, ◌≤◌, ◌+◌, ◌-◌, ◌++◌, [], ℕ, zero, suc, List, decimal, Option, Some, None}
use Rattle.pl0_meaning.specs.Runs.{Faults}
use Rattle.pl0_machine.specs.declared.outcome.StepOutcome.{StepOutcome}
use Rattle.pl0_machine.specs.Machine.{Standing, configuration, depth_of, outcome_of, Stepped}
use Rattle.pl0_lessons.specs.Columns.{column, right}
use Rattle.byte_streams.specs.Streams.{Appends, FailsIn, Output}
use Rattle.pl0_tool.specs.declared.tracing.TraceEnd.{TraceEnd}
use Rattle.pl0_tool.specs.declared.tracing.TraceEnd.TheVariants.{GoesOn, Ended, EndedBefore, Faulted, WriteFailed}
use Rattle.pl0_tool.specs.Pending.{Holds}
use Rattle.pl0_tool.specs.Tracing.{at_position}

-- none were lost of the bytes that were written before
abbrev pub Grows : Output → Output → Type 0
Grows before after = (bytes : List ℕ) × Appends before.written after.written bytes

-- ---- the table

-- the row of a position begins with its number, in a column
abbrev pub IsRowOf : ℕ → List ℕ → Type 0
IsRowOf position row = (rest : List ℕ) × (row ≡ column (right 8 (decimal position)) ++ rest)

-- A table has a head, and under it the rows of this many positions, from one on, in order.
abbrev pub IsTable : List ℕ → ℕ → ℕ → List ℕ → Type 0
IsTable head from zero table = table ≡ head
IsTable head from (suc n) table =
    (above : List ℕ) × (row : List ℕ) × IsTable head from n above × IsRowOf (from + n) row × (table ≡ above ++ row)

-- The first part of such a table was written, and the rest is pending.
abbrev pub HasTable : List ℕ → ℕ → ℕ → Output → Output → List ℕ → Type 0
HasTable head from count before now pending =
    (table : List ℕ) × IsTable head from count table × Holds before now pending table

-- The table has the rows of some of the positions alone: memory ran out behind them, or the output failed in them.
abbrev pub HasPart : List ℕ → ℕ → ℕ → Output → Output → Type 0
HasPart head from count before now =
    (told : ℕ) × (pending : List ℕ) × (told ≤ count) × HasTable head from told before now pending

abbrev pub FailsInPart : List ℕ → ℕ → ℕ → Output → Output → Type 0
FailsInPart head from count before now =
    (told : ℕ) × (table : List ℕ) × (told ≤ count) × IsTable head from told table × FailsIn table before now

-- A machine's position was told, in a row behind what is pending, and its step taken; or the output failed in the row.
abbrev pub PutsRow : Option StepOutcome → Standing → Standing → List ℕ → List ℕ → Output → Output → Type 0
PutsRow (Some outcome) m new pending left before after =
    (row : List ℕ) × IsRowOf m.position row × Stepped (outcome_of m) m outcome new
    × ((first : Output) (table : List ℕ) → Holds first before pending table → Holds first after left (table ++ row))
PutsRow None m new pending left before after =
    (row : List ℕ) × IsRowOf m.position row
    × ((first : Output) (table : List ℕ) → Holds first before pending table → FailsIn (table ++ row) first after)

-- ---- the trace

-- Where a run stands that stops before a position or, where it ends, at it: at its end, or before a step that faults.
abbrev pub StopsBefore : TraceEnd → Standing → ℕ → Standing → Type 0
StopsBefore EndedBefore m position new =
    (new ≡ at_position m new.position) × (new.position ≤ position) × (configuration new ≡ Some [])
StopsBefore (Faulted fault) m position new =
    (new ≡ at_position m new.position) × (new.position < position) × (outcome_of new ≡ Faults fault)
StopsBefore end m position new = ⊥

-- Up to `count` positions were told, from one on, by how the trace ended, and the run stands there: behind the last of
-- them, where it goes on; at its end, behind the last or before the first; at the step of the last, which faults, or at
-- one before the first. Or the output failed.
abbrev pub HasTraced : TraceEnd → Standing → ℕ → ℕ → Standing → List ℕ → Output → Output → List ℕ → Type 0
HasTraced GoesOn m from count new head before now pending =
    (new ≡ at_position m (from + count)) × (0 < depth_of new) × HasTable head from count before now pending
HasTraced Ended m from count new head before now pending =
    (from < new.position) × StopsBefore EndedBefore m (from + count) new
    × HasTable head from (new.position - from) before now pending
HasTraced EndedBefore m from count new head before now pending =
    StopsBefore EndedBefore m from new × (now ≡ before) × (pending ≡ head)
HasTraced (Faulted fault) m from count new head before now pending =
    StopsBefore (Faulted fault) m (from + count) new
    × HasTable head from (new.position + 1 - from) before now pending
HasTraced WriteFailed m from count new head before now pending = FailsInPart head from count before now
