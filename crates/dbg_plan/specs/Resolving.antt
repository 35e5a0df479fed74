-- One line after another: what is known when a line is resolved.
use Rattle.std.specs.Prelude.{◌≡◌, ℕ, ◌≤◌, List, ◌++◌, length, Option, option_map}
use Rattle.pl0_tree.specs.Tree.{Block}
use Rattle.dbg_plan.specs.declared.breakpoint.BoundCondition.{BoundCondition}
use Rattle.dbg_plan.specs.declared.breakpoint.Breakpoint.{Breakpoint}
use Rattle.dbg_plan.specs.declared.message.LogMessage.{LogMessage}
use Rattle.dbg_plan.specs.Breakpoints.{text_condition, plain_message, plain_breakpoints}
use Rattle.dbg_plan.specs.declared.resolving.Resolution.{Resolution}
use Rattle.dbg_plan.specs.Plans.{AreNumbered, AreAtSteps, IsBoundAt, IsMessageBoundAt}
use Rattle.dbg_plan.specs.Resolutions.{AskedLine, ReadsConditionAt, ReadsMessageAt, IsResolvedTo}

-- the text reads as the condition at step n, whose names are bound there
pub record IsBoundConditionOf (main : Block) (n : ℕ) (text : List ℕ) (condition : Option BoundCondition) : Type 0 where
  pub reads : ReadsConditionAt main n text (option_map text_condition condition)
  pub bound : IsBoundAt main n condition

-- the text reads as the message at step n, whose expressions are bound there
pub record IsBoundMessageOf (main : Block) (n : ℕ) (text : List ℕ) (message : Option LogMessage) : Type 0 where
  pub reads : ReadsMessageAt main n text (option_map plain_message message)
  pub bound : IsMessageBoundAt main n message

-- a line is resolved, and its breakpoint, if it has one, stands after the old ones, which its number counts
pub record ResolvesLine (main : Block) (asked : AskedLine) (old new : List Breakpoint)
    (answer : Resolution) : Type 0 where
  pub mine : List Breakpoint
  pub few : length mine ≤ 1
  pub after : new ≡ old ++ mine
  pub resolved : IsResolvedTo main asked answer (plain_breakpoints mine)
  pub numbered : AreNumbered (length old) mine
  pub placed : AreAtSteps main mine
