-- How arrivals are counted: of each breakpoint only what its rule needs to know.
use Rattle.std.specs.Prelude.{◌≡◌, ℕ, ◌+◌, ◌-◌, ◌%◌, min, Bool, true, false, ◌&&◌, nat_le, nat_lt, is_none, if◌then◌else◌, List, [], ◌∷◌, ◌++◌, option_to_list, slice_index, slice_set, Option, Some, None}
use Rattle.pl0_tree.specs.Tree.{Block}
use Rattle.pl0_meaning.specs.Values.{Configuration}
use Rattle.pl0_unit.specs.declared.unit.Unit.{Unit as Compiled}
use Rattle.pl0_machine.specs.Machine.{Standing, program, configuration, frames, top_of, IsNext}
use Rattle.dbg_plan.specs.declared.breakpoint.Rule.{Rule}
use Rattle.dbg_plan.specs.declared.breakpoint.Rule.TheVariants.{From, Every}
use Rattle.dbg_plan.specs.declared.breakpoint.Breakpoint.{Breakpoint}
use Rattle.dbg_plan.specs.Breakpoints.{TextCondition, plain_breakpoint, plain_breakpoints}
use Rattle.std.specs.List.{list_any, filter_map}
use Rattle.dbg_plan.specs.Due.{holds, arrivals, stops}
use Rattle.dbg_plan.specs.Logs.{Log, log_in, logs}
use Rattle.dbg_plan.specs.Plans.{Listed, IsPlanOf, IsBoundAt, IsMessageBoundAt}

-- how many arrivals are passed before one is due
abbrev pub passes : Option Rule → ℕ
passes None = 0
passes (Some (From k)) = k - 1
passes (Some (Every k)) = k - 1

-- whether the arrivals are counted anew after one that is due
abbrev pub starts_over : Option Rule → Bool
starts_over None = false
starts_over (Some (From k)) = false
starts_over (Some (Every k)) = true

-- what is kept of a number of arrivals
abbrev pub reduced : Option Rule → ℕ → ℕ
reduced None n = 0
reduced (Some (From k)) n = min n (k - 1)
reduced (Some (Every k)) n = n % k

-- what is kept of one more
abbrev pub increased : Option Rule → ℕ → ℕ
increased None n = n
increased (Some (From k)) n = if nat_lt n (k - 1) then n + 1 else n
increased (Some (Every k)) n = if nat_lt n (k - 1) then n + 1 else 0

abbrev pub holds_in : Block → Option Configuration → Option TextCondition → Bool
holds_in main None condition = false
holds_in main (Some c) condition = holds main c condition

-- a breakpoint's condition, if it has one, holds in the machine's newest frame
abbrev pub holds_now : Standing → Breakpoint → Bool
holds_now m b = holds_in (program m) (configuration m) (plain_breakpoint b).condition

-- the machine stands at the breakpoint's step, and the condition and the message are bound there
pub record IsMetHere (m : Standing) (b : Breakpoint) : Type 0 where
  pub next : IsNext (program m) (top_of (frames m)) b.step
  pub bound : IsBoundAt (program m) b.step b.condition
  pub message : IsMessageBoundAt (program m) b.step b.message

abbrev pub increased_at : List ℕ → Breakpoint → ℕ
increased_at counts b = increased b.rule (slice_index counts b.number)

-- the counts after a breakpoint, of which f says whether it arrives
abbrev pub counted_at : (Breakpoint → Bool) → Breakpoint → List ℕ → List ℕ
counted_at f b counts = if f b then slice_set counts b.number (increased_at counts b) else counts

-- the counts after these breakpoints, one after the other
abbrev pub counted : (Breakpoint → Bool) → List Breakpoint → List ℕ → List ℕ
counted f [] counts = counts
counted f (b ∷ bs) counts = counted f bs (counted_at f b counts)

-- it arrives and is due
abbrev pub due_at : (Breakpoint → Bool) → Breakpoint → List ℕ → Bool
due_at f b counts = f b && nat_le (passes b.rule) (slice_index counts b.number)

-- those of these breakpoints that arrive and are due, in order
abbrev pub those_due : (Breakpoint → Bool) → List Breakpoint → List ℕ → List Breakpoint
those_due f [] counts = []
those_due f (b ∷ bs) counts =
    if due_at f b counts then b ∷ those_due f bs (counted_at f b counts) else those_due f bs (counted_at f b counts)

-- ---- what those do that are due

-- one of them stops the program
abbrev pub any_stops : List Breakpoint → Bool
any_stops bs = list_any (λ b. is_none b.message) bs

-- what a breakpoint logs where the machine stands
abbrev pub log_now : Standing → Breakpoint → Option Log
log_now m b = log_in (program m) (configuration m) b.number (plain_breakpoint b).message

-- the logs after a breakpoint, of which it is said whether it is due
abbrev pub logged_after : Standing → Bool → Breakpoint → List Log → List Log
logged_after m due b logs = logs ++ (if due then option_to_list (log_now m b) else [])

abbrev pub logged : Standing → List Breakpoint → List Log
logged m bs = filter_map (log_now m) bs

-- ---- the counts of a plan

abbrev pub MayBePlanOf : Compiled → Option Listed → Type 0
MayBePlanOf unit None = Unit {0}
MayBePlanOf unit (Some plan) = IsPlanOf unit plan

-- the counts from the nth on are what is kept of these numbers
abbrev pub CountFrom : (Breakpoint → ℕ) → ℕ → List Breakpoint → List ℕ → Type 0
CountFrom number n [] counts = Unit {0}
CountFrom number n (b ∷ bs) counts =
    (slice_index counts n ≡ reduced b.rule (number b)) × CountFrom number (n + 1) bs counts

-- the counts are those of the arrivals at the positions from `first` up to, but not including, `next`
abbrev pub AreCounts : Block → List Breakpoint → ℕ → ℕ → List ℕ → Type 0
AreCounts main breakpoints first next counts =
    CountFrom (λ b. arrivals main (plain_breakpoint b) first next) 0 breakpoints counts

-- one more position was considered, with whether a breakpoint stops there, and what is logged there
pub record CountsOn (main : Block) (breakpoints : List Breakpoint) (position first : ℕ) (due : Bool) (logged : List Log)
    (new : List ℕ) : Type 0 where
  pub counts : AreCounts main breakpoints first (position + 1) new
  pub due_is : due ≡ list_any (stops main first position) (plain_breakpoints breakpoints)
  pub logs_are : logged ≡ logs main (plain_breakpoints breakpoints) first position
