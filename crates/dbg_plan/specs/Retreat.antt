-- Where going back leads.
use Rattle.std.specs.Prelude.{◌≡◌, ℕ, zero, suc, ◌+◌, ◌-◌, ◌<◌, ◌≤◌, is_some, IsSome, if◌then◌else◌, List, Option, Some, None}
use Rattle.pl0_tree.specs.Tree.{Block}
use Rattle.dbg_plan.specs.Breakpoints.{Breakpoint}
use Rattle.dbg_plan.specs.declared.mode.Mode.{Mode}
use Rattle.dbg_plan.specs.declared.mode.Mode.TheVariants.{Continue, StepBack, Reverse}
use Rattle.dbg_plan.specs.declared.mode.Reason.{Reason}
use Rattle.dbg_plan.specs.declared.mode.Reason.TheVariants as reason
use Rattle.dbg_plan.specs.Due.{due}

-- a position, and why the program stops there
pub record Stop : Type 0 where
  pub position : ℕ
  pub reason : Reason

-- The greatest position below n that is due in the mode Continue, if there is one. Breakpoints are counted from
-- position 0.
abbrev pub last_due : Block → List Breakpoint → ℕ → Option ℕ
last_due main breakpoints zero = None
last_due main breakpoints (suc m) =
    if is_some (due main breakpoints 0 Continue m) then Some m else last_due main breakpoints m

-- a due position, or else the beginning
abbrev pub stop_at : Option ℕ → Stop
stop_at None = record { position = 0; reason = reason.Entry }
stop_at (Some m) = record { position = m; reason = reason.Breakpoint }

-- one step back from position n
abbrev pub stepped_back : ℕ → Stop
stepped_back n = record { position = n - 1; reason = reason.Step }

-- back from position n to where the program was last due
abbrev pub reversed : Block → List Breakpoint → ℕ → Stop
reversed main breakpoints n = stop_at (last_due main breakpoints n)

-- where a run in this mode from position n goes back to, if it goes back
abbrev pub goal_of : Block → List Breakpoint → Mode → ℕ → Option Stop
goal_of main breakpoints StepBack n = Some (stepped_back n)
goal_of main breakpoints Reverse n = Some (reversed main breakpoints n)
goal_of main breakpoints _ n = None

-- ---- the law of it

-- nothing is due from position m up to, but not including, n
abbrev pub NoneIsDue : Block → List Breakpoint → ℕ → ℕ → Type 0
NoneIsDue main breakpoints m n = (k : ℕ) → m ≤ k → k < n → due main breakpoints 0 Continue k ≡ None

-- the stop is at the last due position below n, or at 0 where none is due
abbrev pub LeadsBack : Block → List Breakpoint → ℕ → Option ℕ → Type 0
LeadsBack main breakpoints n None = NoneIsDue main breakpoints 0 n
LeadsBack main breakpoints n (Some m) =
    (m < n) × IsSome (due main breakpoints 0 Continue m) × NoneIsDue main breakpoints (m + 1) n

abbrev pub LastDueIsLast : Type 0
LastDueIsLast =
    (main : Block) (breakpoints : List Breakpoint) (n : ℕ) → LeadsBack main breakpoints n (last_due main breakpoints n)
