-- Plans: breakpoints in the order asked.
use Rattle.std.specs.Prelude.{◌≡◌, ℕ, ◌+◌, ◌<◌, ◌≤◌, Bool, false, nat_eq, All, List, [], ◌∷◌, length, map, filter, slice_get, Option, Some, None, IfSome, option_and_then}
use Rattle.std.specs.Option.{option_map_or}
use Rattle.std.specs.List.{list_any}
use Rattle.pl0_tree.specs.Tree.{Block}
use Rattle.pl0_tree.specs.Steps.{steps, step_path}
use Rattle.pl0_tree.specs.Plain.{plain_condition}
use Rattle.pl0_unit.specs.declared.unit.Unit.{Unit as Compiled}
use Rattle.pl0_machine.specs.Machine.{program_of}
use Rattle.dbg_plan.specs.declared.breakpoint.Rule.{Rule}
use Rattle.dbg_plan.specs.declared.breakpoint.Rule.TheVariants.{From, Every}
use Rattle.dbg_plan.specs.declared.breakpoint.BoundCondition.{BoundCondition}
use Rattle.dbg_plan.specs.declared.breakpoint.Breakpoint.{Breakpoint}
use Rattle.dbg_plan.specs.declared.message.LogMessage.{LogMessage}
use Rattle.dbg_plan.specs.Messages.{Part, Message}
use Rattle.dbg_plan.specs.Breakpoints.{Breakpoint as PlainBreakpoint, plain_breakpoints}
use Rattle.dbg_plan.specs.Bound.{IsConditionBound, ArePartsBound}
use Rattle.dbg_plan.specs.Comparisons.{condition_of}

-- What contracts see of a plan: for how many steps it was made, its breakpoints in the order asked, and for each
-- address of the code whether the step that begins there has one. A plan doesn't know its program, so that last list
-- stands here, and `IsPlanFor` says what it is.
pub record Listed : Type 0 where
  pub steps : ℕ
  pub breakpoints : List Breakpoint
  pub marked : List Bool

-- the most lines that an editor may ask for at once
abbrev pub breakpoint_limit : ℕ
breakpoint_limit = 256

abbrev pub IsRule : Option Rule → Type 0
IsRule None = Unit {0}
IsRule (Some (From k)) = 0 < k
IsRule (Some (Every k)) = 0 < k

-- the breakpoints are numbered from n on, in their order, and their rules count from 1
abbrev pub AreNumbered : ℕ → List Breakpoint → Type 0
AreNumbered n [] = Unit {0}
AreNumbered n (b ∷ bs) = (b.number ≡ n) × IsRule b.rule × AreNumbered (n + 1) bs

pub record IsNumbered (breakpoints : List Breakpoint) : Type 0 where
  pub few : length breakpoints ≤ breakpoint_limit
  pub numbers : AreNumbered 0 breakpoints

abbrev pub is_of : ℕ → Breakpoint → Bool
is_of step b = nat_eq step b.step

-- the breakpoints of a step, in the order asked
abbrev pub those_of : ℕ → List Breakpoint → List Breakpoint
those_of step breakpoints = filter (is_of step) breakpoints

-- the step has a breakpoint, if there is a step
abbrev pub has_breakpoint : List Breakpoint → Option ℕ → Bool
has_breakpoint breakpoints None = false
has_breakpoint breakpoints (Some step) = list_any (is_of step) breakpoints

-- the same for each address
unfoldable pub marked_addresses : List Breakpoint → List (Option ℕ) → List Bool
marked_addresses breakpoints begun_steps = map (has_breakpoint breakpoints) begun_steps

-- A condition is bound to the names of the block of step n. If it is kept as a comparison too, that is the same
-- condition.
abbrev pub IsBoundAt : Block → ℕ → Option BoundCondition → Type 0
IsBoundAt main n None = Unit {0}
IsBoundAt main n (Some c) =
    IsConditionBound main (step_path main n) (plain_condition c.condition) c.located.value
    × IfSome c.asked (λ q. c.located.value ≡ condition_of (length (step_path main n)) q)

-- so are the expressions of a message
abbrev pub IsMessageBoundAt : Block → ℕ → Option LogMessage → Type 0
IsMessageBoundAt main n None = Unit {0}
IsMessageBoundAt main n (Some m) = ArePartsBound main (step_path main n) m.parts.items

-- each breakpoint stands at a step of the program, and its condition and its message are bound there
abbrev pub AreAtSteps : Block → List Breakpoint → Type 0
AreAtSteps main [] = Unit {0}
AreAtSteps main (b ∷ bs) =
    (b.step < length (steps main)) × IsBoundAt main b.step b.condition × IsMessageBoundAt main b.step b.message
    × AreAtSteps main bs

-- The plan was made for a program, beside whose instructions stand these steps. What `bound` and `marked` say is the
-- code's own business, and no promise rests on it: `resolve` gives this of a plan, and `set_plan` asks for it.
pub record IsPlanFor (main : Block) (begun_steps : List (Option ℕ)) (plan : Listed) : Type 0 where
  pub steps : plan.steps ≡ length (steps main)
  pub bound : AreAtSteps main plan.breakpoints
  pub marked : plan.marked ≡ marked_addresses plan.breakpoints begun_steps

abbrev pub IsPlanOf : Compiled → Listed → Type 0
IsPlanOf unit plan = IsPlanFor (program_of unit) unit.begun_steps.items plan

-- ---- the breakpoints of a plan, as data

-- no plan is the empty one
abbrev pub listed_of : Option Listed → List Breakpoint
listed_of None = []
listed_of (Some plan) = plan.breakpoints

abbrev pub breakpoints_of : Option Listed → List PlainBreakpoint
breakpoints_of plan = plain_breakpoints (listed_of plan)

-- the parts of the message of the breakpoint with this number; none without one
abbrev pub parts_at : List PlainBreakpoint → ℕ → List Part
parts_at breakpoints number =
    option_map_or (λ (m : Message). m.parts)
    (option_and_then (λ (b : PlainBreakpoint). b.message) (slice_get breakpoints number)) []

-- they are few, each at a step of the program, and their rules count from 1
pub record AreBreakpointsOf (main : Block) (breakpoints : List PlainBreakpoint) : Type 0 where
  pub few : length breakpoints ≤ breakpoint_limit
  pub at_steps : All (λ b. b.step < length (steps main)) breakpoints
  pub rules : All (λ b. IsRule b.rule) breakpoints
