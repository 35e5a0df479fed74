-- States the laws of ends: a program is told to have exited only where it has ended, and where it ends that is told.
use Rattle.std.specs.Prelude.{◌≡◌, ◌++◌, ◌∷◌, [], ◌⊎◌, ℕ, zero, suc, ◌<◌, false, List, Some}
use Rattle.dap_msg.specs.declared.command.Command.{Command}
use Rattle.dap_msg.specs.declared.outgoing.EventBody.{EventBody}
use Rattle.dap_msg.specs.declared.outgoing.EventBody.TheVariants as event
use Rattle.pl0_meaning.specs.declared.RunFault.{RunFault}
use Rattle.pl0_meaning.specs.Runs.{at, outcome, Faults}
use Rattle.dbg_runner.specs.Plain.{Heading, PlainReport, goes_back}
use Rattle.dbg_runner.specs.declared.outcome.SliceOutcome.{SliceOutcome}
use Rattle.dbg_runner.specs.declared.outcome.SliceOutcome.TheVariants as slice
use Rattle.dap_history.specs.declared.situation.Situation.TheVariants.{Faulted}
use Rattle.dap_history.specs.History.{Launched, Accepted, Step, History}
use Rattle.dap_history.specs.Readings.{situation, launched, last_run, position}
use Rattle.dap_history.specs.Moves.{GoesBy, NowhereBefore, IsAlive}
use Rattle.dap_history.specs.Always.{OfLawfulHistories, OfLawfulSteps}

-- ---- where an end is told

-- In the history `past`, the step after `before` reports that the program has ended with this code, at position m.
pub record ExitsAt (past before : History) (code m : ℕ) : Type 0 where
  pub step : Step
  pub after : History
  pub past_is : past ≡ before ++ step ∷ after
  pub front : List EventBody
  pub back : List EventBody
  pub events_are : step.effect.events ≡ front ++ event.Exited code ∷ back
  pub position_is : m ≡ position (before ++ step ∷ [])

-- At position m no frame of the launched program is alive any more. The last run went forward, came there by a step,
-- and had nowhere to stop on its way, as the command asks by which the program goes.
pub record HasEnded (before : History) (m : ℕ) : Type 0 where
  pub l : Launched
  pub launched_is : launched before ≡ Some l
  pub run : Heading
  pub run_is : last_run before ≡ Some run
  pub forward : goes_back run.mode ≡ false
  pub asked : Command
  pub from : ℕ
  pub goes : GoesBy before asked from
  pub over : at l.program m ≡ Some []
  pub on : run.start < m
  pub nowhere : NowhereBefore l run asked from m

-- at position m the launched program stands before a step that faults
pub record StandsBeforeFault (before : History) (m : ℕ) : Type 0 where
  pub l : Launched
  pub launched_is : launched before ≡ Some l
  pub faulted : situation before ≡ Faulted
  pub fault : RunFault
  pub faults : outcome l.program m ≡ Faults fault

-- The code is 0 where the program has ended, and 1 where it stood before a fault. There is no other code.
abbrev pub EndsWith : History → ℕ → ℕ → Type 0
EndsWith before zero m = HasEnded before m
EndsWith before (suc zero) m = StandsBeforeFault before m
EndsWith before _ m = ⊥

-- A program is told to have exited with the code 0 only at its end, with 1 only before a step that faults, and with
-- no other. At its end no frame of it is alive, after a run forward that had nowhere to stop.
abbrev pub EachEndIsTheEnd : Type 0
EachEndIsTheEnd = OfLawfulHistories (λ past.
    (before : History) (code m : ℕ) → ExitsAt past before code m → EndsWith before code m)

-- ---- where it has to be told

-- a frame is alive where the report ends, or the program has ended there, and the report says so
abbrev pub EndsThere : Launched → PlainReport → Type 0
EndsThere l r = IsAlive l r.end ⊎ ((at l.program r.end ≡ Some []) × (r.outcome ≡ slice.Done))

-- How far the report of a run forward comes, by how it ends: a run that isn't held, and has its memory, takes a step,
-- or stands before one that faults, with this fault.
abbrev pub ComesFurther : Launched → ℕ → ℕ → SliceOutcome → Type 0
ComesFurther l start end slice.More = start < end
ComesFurther l start end (slice.Due reason) = start < end
ComesFurther l start end slice.Done = start < end
ComesFurther l start end (slice.Fault fault) = outcome l.program end ≡ Faults fault
ComesFurther l start end slice.Held = end ≡ start
ComesFurther l start end slice.NoMemory = end ≡ start

-- A report ends where a frame is alive, or at the program's end, and says so. A run forward that isn't held, and has
-- its memory, takes a step in each report, or stands before one that faults, with that fault. `EachReportIsTold` says
-- what is told of these.
abbrev pub EachEndIsTold : Type 0
EachEndIsTold = OfLawfulSteps (λ before step.
    (r : PlainReport)
    → step.item ≡ Accepted r
    → (l : Launched) × (launched before ≡ Some l) × EndsThere l r
    × (goes_back r.mode ≡ false → ComesFurther l (position before) r.end r.outcome))
