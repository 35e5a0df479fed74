-- What a run of a program writes, and how it ends.
use Rattle.std.specs.Prelude.{◌≡◌, ◌≤◌, ◌<◌, ℕ, List, [], ◌∷◌, ◌++◌, ℤ, Option, Some, None, option_to_list}
use Rattle.std.specs.Fmt.{signed_decimal}
use Rattle.pl0_meaning.specs.Runs.{Goes, Faults, written}
use Rattle.pl0_machine.specs.Machine.{Standing, program, depth_of, outcome_of, Stepped}
use Rattle.pl0_machine.specs.declared.outcome.StepOutcome.{StepOutcome}
use Rattle.pl0_machine.specs.declared.outcome.StepOutcome.TheVariants.{Went, Done, Fault}
use Rattle.pl0_machine.specs.Stretches.{ahead, RanOn}
use Rattle.byte_streams.specs.Streams.{Output, WritesAll, FailsIn}
use Rattle.pl0_tool.specs.declared.running.RunEnd.{RunEnd}
use Rattle.pl0_tool.specs.declared.running.RunEnd.TheVariants.{Ended, Faulted, FaultedUnwritten, StoppedAt, WriteFailed}

-- the numbers, each on a line of its own
abbrev pub number_lines : List ℤ → List ℕ
number_lines [] = []
number_lines (n ∷ numbers) = signed_decimal n ++ (10 ∷ number_lines numbers)

-- the lines of the numbers that a run wrote between two positions of a machine
abbrev pub lines_between : Standing → Standing → List ℕ
lines_between old new = number_lines (written (program old) old.position new.position)

-- the number that a step tells, if it tells one
abbrev pub told_numbers : StepOutcome → List ℤ
told_numbers (Went number) = option_to_list number
told_numbers Done = []
told_numbers (Fault fault) = []

-- From old the machine took some steps, and the last one was told. What was written from any earlier position on grew
-- by the number that it told.
pub record Ran (old new : Standing) (told : StepOutcome) : Type 0 where
  pub wrote : (a : ℕ) → a ≤ old.position → written (program old) a new.position ≡ written (program old) a old.position
      ++ told_numbers told
  pub before : ℕ
  pub last : Stepped (outcome_of (ahead old before)) (ahead old before) told new
  pub steps : ℕ
  pub led : new ≡ ahead old steps

-- From old the machine ran to a limit, or before it to a step that wrote a number, ended the program or faulted, which
-- was told.
pub record RanToNumber (limit : ℕ) (old : Standing) (told : Option StepOutcome) (new : Standing) : Type 0 where
  pub counts : List ℕ
  pub ran : RanOn limit 0 None old told new [] counts 0 [] []

-- the step at which the machine stands is the main block's return, or another that leads to no frames
abbrev pub IsLast : Standing → Type 0
IsLast m = (number : Option ℤ) × (outcome_of m ≡ Goes number [])

-- From old the machine came to new, which is the end of the program, a step that faults, where it was stopped, or where
-- the output failed. The numbers that the steps between wrote were written as lines; where the output failed, a prefix
-- of them. Where it fails at the end, the fault is known.
abbrev pub HasRun : RunEnd → Standing → Standing → Output → Output → Type 0
HasRun Ended old new before after =
    (last : Standing) × (steps : ℕ) × (last ≡ ahead old steps) × IsLast last × (new ≡ ahead last 1)
    × WritesAll (lines_between old new) before after
HasRun (Faulted fault) old new before after =
    (steps : ℕ) × (new ≡ ahead old steps) × (outcome_of new ≡ Faults fault)
    × WritesAll (lines_between old new) before after
HasRun (FaultedUnwritten fault) old new before after =
    (steps : ℕ) × (new ≡ ahead old steps) × (outcome_of new ≡ Faults fault)
    × FailsIn (lines_between old new) before after
HasRun StoppedAt old new before after =
    (steps : ℕ) × (new ≡ ahead old steps) × (0 < depth_of new) × WritesAll (lines_between old new) before after
HasRun WriteFailed old new before after =
    (steps : ℕ) × (new ≡ ahead old steps) × FailsIn (lines_between old new) before after

-- a run that is stopped at a limit stands there, and no other goes further
abbrev pub IsWithin : ℕ → RunEnd → Standing → Type 0
IsWithin limit StoppedAt m = m.position ≡ limit
IsWithin limit end m = m.position ≤ limit

-- ---- slices

-- how many steps a slice has at most
abbrev pub slice_steps : ℕ
slice_steps = 65536

-- a slice that stops at its limit, where the run goes on, or with which the run ended
abbrev pub HasRunSlice : ℕ → Option RunEnd → Standing → Standing → Output → Output → Type 0
HasRunSlice limit None old new before after = HasRun StoppedAt old new before after × (new.position ≡ limit)
HasRunSlice limit (Some StoppedAt) old new before after = ⊥
HasRunSlice limit (Some end) old new before after = HasRun end old new before after × (new.position ≤ limit)
