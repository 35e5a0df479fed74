-- What an editor asks for, and what that is resolved to.
use Rattle.std.specs.Prelude.{◌≡◌, ◌≢◌, ℕ, ◌<◌, ◌^◌, nat_le, List, [], ◌∷◌, ◌++◌, Option, Some, None}
use Rattle.std.specs.List.{position}
use Rattle.std.specs.Fmt.{decimal}
use Rattle.pl0_tree.specs.Tree.{Block}
use Rattle.pl0_tree.specs.Faults.{IsConditionOf}
use Rattle.pl0_tree.specs.Steps.{steps, step_path}
use Rattle.dbg_plan.specs.declared.breakpoint.Rule.{Rule}
use Rattle.dbg_plan.specs.declared.breakpoint.Rule.TheVariants.{From, Every}
use Rattle.dbg_plan.specs.Breakpoints.{TextCondition, Breakpoint}
use Rattle.dbg_plan.specs.Messages.{Message, IsMessageOf}
use Rattle.dbg_plan.specs.declared.resolving.SourceBreakpoint.{SourceBreakpoint}
use Rattle.dbg_plan.specs.declared.resolving.Resolution.{Resolution}
use Rattle.dbg_plan.specs.declared.resolving.Resolution.TheVariants.{At, NoStep, BadCondition, BadHitCondition, BadLogMessage}

-- A breakpoint as an editor asks for it: a line, from 1, and its texts.
pub record AskedLine : Type 0 where
  pub line : ℕ
  pub condition : List ℕ
  pub hit_condition : List ℕ
  pub log_message : List ℕ

-- without where the texts lie in memory
abbrev pub plain_line : SourceBreakpoint → AskedLine
plain_line b = record {
  line = b.line;
  condition = b.condition.now;
  hit_condition = b.hit_condition.now;
  log_message = b.log_message.now;
}

-- The step of a line: the first, in source order, at this line or after it.
abbrev pub step_from : Block → ℕ → Option ℕ
step_from main line = position (λ s. nat_le line s.place.line) (steps main)

-- ---- conditions, hit texts and messages, each of which may be absent: an empty text

-- the text reads as a condition in the block of step n
abbrev pub ReadsConditionAt : Block → ℕ → List ℕ → Option TextCondition → Type 0
ReadsConditionAt main n text None = text ≡ []
ReadsConditionAt main n text (Some c) =
    (text ≢ []) × (c.text ≡ text) × IsConditionOf main (step_path main n) text c.condition

-- k, or %k
abbrev pub rule_text : Rule → List ℕ
rule_text (From k) = decimal k
rule_text (Every k) = 37 ∷ decimal k

-- the number of a rule
abbrev pub rule_number : Rule → ℕ
rule_number (From k) = k
rule_number (Every k) = k

-- the text is no rule where it is empty, and else this one, with a number from 1 to 2^31 - 1
abbrev pub ReadsRule : List ℕ → Option Rule → Type 0
ReadsRule text None = text ≡ []
ReadsRule text (Some rule) = (text ≡ rule_text rule) × (0 < rule_number rule) × (rule_number rule < 2 ^ 31)

-- the text reads as a message in the block of step n
abbrev pub ReadsMessageAt : Block → ℕ → List ℕ → Option Message → Type 0
ReadsMessageAt main n text None = text ≡ []
ReadsMessageAt main n text (Some m) = (text ≢ []) × (m.text ≡ text) × IsMessageOf main (step_path main n) text m.parts

-- ---- resolutions

-- the text reads as a condition at step n, or is empty
pub record HasConditionAt (main : Block) (n : ℕ) (text : List ℕ) : Type 0 where
  pub condition : Option TextCondition
  pub reads : ReadsConditionAt main n text condition

-- the text reads as a rule, or is empty
pub record HasRule (text : List ℕ) : Type 0 where
  pub rule : Option Rule
  pub reads : ReadsRule text rule

-- the text reads as a message at step n, or is empty
pub record HasMessageAt (main : Block) (n : ℕ) (text : List ℕ) : Type 0 where
  pub message : Option Message
  pub reads : ReadsMessageAt main n text message

-- the breakpoint of a line that is resolved to a step
pub record IsBreakpointOf (main : Block) (asked : AskedLine) (n : ℕ) (b : Breakpoint) : Type 0 where
  pub step : b.step ≡ n
  pub condition : ReadsConditionAt main n asked.condition b.condition
  pub rule : ReadsRule asked.hit_condition b.rule
  pub message : ReadsMessageAt main n asked.log_message b.message

-- What a line is resolved to, and the breakpoints that it gives, one or none. If several refusals apply, it is the
-- first.
abbrev pub IsResolvedTo : Block → AskedLine → Resolution → List Breakpoint → Type 0
IsResolvedTo main asked (At n) bs =
    (step_from main asked.line ≡ Some n) × ((b : Breakpoint) × (bs ≡ b ∷ []) × IsBreakpointOf main asked n b)
IsResolvedTo main asked NoStep bs = (step_from main asked.line ≡ None) × (bs ≡ [])
IsResolvedTo main asked BadCondition bs =
    (bs ≡ []) × ((n : ℕ) × (step_from main asked.line ≡ Some n)
    × (¬ HasConditionAt main n asked.condition))
IsResolvedTo main asked BadHitCondition bs =
    (bs ≡ []) × (¬ HasRule asked.hit_condition)
    × ((n : ℕ) × (step_from main asked.line ≡ Some n) × HasConditionAt main n asked.condition)
IsResolvedTo main asked BadLogMessage bs =
    (bs ≡ []) × HasRule asked.hit_condition × ((n : ℕ) × (step_from main asked.line ≡ Some n)
    × HasConditionAt main n asked.condition
    × (¬ HasMessageAt main n asked.log_message))

-- Each line is resolved, in order, and the breakpoints are those that the lines give, in order.
abbrev pub AreResolved : Block → List AskedLine → List Resolution → List Breakpoint → Type 0
AreResolved main [] [] bs = bs ≡ []
AreResolved main [] (a ∷ answers) bs = ⊥
AreResolved main (asked ∷ more) [] bs = ⊥
AreResolved main (asked ∷ more) (a ∷ answers) bs =
    (mine : List Breakpoint) × (rest : List Breakpoint) × (bs ≡ mine ++ rest) × IsResolvedTo main asked a mine
    × AreResolved main more answers rest
