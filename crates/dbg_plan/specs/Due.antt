-- Breakpoints, their arrivals, and when a position is due.
use Rattle.std.specs.Prelude.{ℕ, zero, suc, ◌+◌, ◌-◌, ◌%◌, Bool, true, false, ◌&&◌, nat_eq, nat_le, nat_lt, if◌then◌else◌, List, [], ◌∷◌, length, slice_get, Option, Some, None, is_none, unwrap_or, option_map, Result, Ok, Err}
use Rattle.std.specs.List.{list_any}
use Rattle.pl0_tree.specs.declared.tree.Place.{Place}
use Rattle.pl0_tree.specs.Tree.{Block}
use Rattle.pl0_tree.specs.Steps.{StepAt, steps}
use Rattle.pl0_meaning.specs.declared.RunFault.{RunFault}
use Rattle.pl0_meaning.specs.Values.{Configuration, truth, next_step}
use Rattle.pl0_meaning.specs.Runs.{at}
use Rattle.dbg_plan.specs.declared.breakpoint.Rule.{Rule}
use Rattle.dbg_plan.specs.declared.breakpoint.Rule.TheVariants.{From, Every}
use Rattle.dbg_plan.specs.Breakpoints.{TextCondition, Breakpoint}
use Rattle.dbg_plan.specs.declared.mode.Mode.{Mode}
use Rattle.dbg_plan.specs.declared.mode.Mode.TheVariants.{Entry, In, Over, Out}
use Rattle.dbg_plan.specs.declared.mode.Reason.{Reason}
use Rattle.dbg_plan.specs.declared.mode.Reason.TheVariants as reason

-- ---- arrivals

-- the same line and column
abbrev pub same_place : Place → Place → Bool
same_place p q = nat_eq p.line q.line && nat_eq p.column q.column

-- both are steps, of the same place
abbrev pub same_step : Option StepAt → Option StepAt → Bool
same_step (Some s) (Some t) = same_place s.place t.place
same_step _ _ = false

-- step n is the next one of the newest frame
abbrev pub is_at : Block → ℕ → Configuration → Bool
is_at main n [] = false
is_at main n (f ∷ below) = same_step (slice_get (steps main) n) (next_step main f)

-- a condition whose evaluation faults counts as true
abbrev pub true_or_faulty : Result Bool RunFault → Bool
true_or_faulty (Ok holds) = holds
true_or_faulty (Err fault) = true

-- the condition, if there is one, holds in the newest frame
abbrev pub holds : Block → Configuration → Option TextCondition → Bool
holds main c None = true
holds main c (Some condition) = true_or_faulty (truth main c (length c - 1) condition.condition)

-- the program stands at the breakpoint's step, and its condition holds there
abbrev pub arrives : Block → Breakpoint → Configuration → Bool
arrives main b c = is_at main b.step c && holds main c b.condition

-- the configuration is an arrival; where there is none, nothing arrives
abbrev pub arrives_in : Block → Breakpoint → Option Configuration → Bool
arrives_in main b None = false
arrives_in main b (Some c) = arrives main b c

-- position m is an arrival
abbrev pub arrives_at : Block → Breakpoint → ℕ → Bool
arrives_at main b m = arrives_in main b (at main m)

-- How many of the positions from t up to, but not including, m are arrivals.
abbrev pub arrivals : Block → Breakpoint → ℕ → ℕ → ℕ
arrivals main b t zero = 0
arrivals main b t (suc m) = if nat_le t m && arrives_at main b m then arrivals main b t m + 1 else arrivals main b t m

-- ---- due positions

-- the rule accepts the arrival with this number, the first being 1
abbrev pub accepts : Option Rule → ℕ → Bool
accepts None n = true
accepts (Some (From k)) n = nat_le k n
accepts (Some (Every k)) n = nat_eq (n % k) 0

-- The breakpoint, counted from position t, is met at m. It is read only at positions from t on: before, `%k` would be
-- met without an arrival that counts.
abbrev pub is_hit : Block → ℕ → ℕ → Breakpoint → Bool
is_hit main t m b = arrives_at main b m && accepts b.rule (arrivals main b t (m + 1))

-- the same of a breakpoint that stops the program: it has no message
abbrev pub stops : Block → ℕ → ℕ → Breakpoint → Bool
stops main t m b = is_none b.message && is_hit main t m b

-- the reason that the mode alone gives at a depth
abbrev pub reason_of : Mode → ℕ → Option Reason
reason_of Entry depth = Some reason.Entry
reason_of In depth = Some reason.Step
reason_of (Over d) depth = if nat_le depth d then Some reason.Step else None
reason_of (Out d) depth = if nat_lt depth d then Some reason.Step else None
reason_of _ depth = None

-- how many frames are alive at position m, 0 where there is none
abbrev pub depth_at : Block → ℕ → ℕ
depth_at main m = unwrap_or (option_map length (at main m)) 0

-- Why position m is due under breakpoints that are counted from position t, if it is. It is read only where a frame is
-- alive. Where the program is over, or never comes, no breakpoint is met and `depth_at` is 0, so that all this says is
-- what the mode says of 0 frames.
abbrev pub due : Block → List Breakpoint → ℕ → Mode → ℕ → Option Reason
due main breakpoints t mode m =
    if list_any (stops main t m) breakpoints then Some reason.Breakpoint else reason_of mode (depth_at main m)
