-- States worked examples of what an editor's texts read as: a hit condition, a condition and a message, at the step of
-- `WorkedText` at line 8, in the procedure p, where there are k and n.
use Rattle.std.specs.Prelude.{ℕ, zero, suc, List, [], ◌∷◌, ◌++◌, Some, None, pos, codes}
use Rattle.pl0_tree.specs.declared.tree.Relation.TheVariants.{Equal}
use Rattle.pl0_tree.specs.Tree.{Variable, Number, Compare}
use Rattle.pl0_meaning.specs.WorkedRun.{called}
use Rattle.dbg_plan.specs.declared.breakpoint.Rule.{Rule}
use Rattle.dbg_plan.specs.declared.breakpoint.Rule.TheVariants.{From, Every}
use Rattle.dbg_plan.specs.Breakpoints.{TextCondition}
use Rattle.dbg_plan.specs.Messages.{Part, Message, Text, Value}
use Rattle.dbg_plan.specs.Resolutions.{ReadsConditionAt, ReadsRule, ReadsMessageAt}
use Rattle.dbg_plan.specs.WorkedText.{nested}

-- k from the third arrival on, or each second one; no text is no rule. The least number is 1, the greatest 2^31 - 1.
abbrev pub RulesRead : Type 0
RulesRead =
    ReadsRule (codes "3") (Some (From 3)) × ReadsRule (codes "%2") (Some (Every 2)) × ReadsRule [] None
    × ReadsRule (codes "1") (Some (From 1)) × ReadsRule (codes "2147483647") (Some (From 2147483647))
    × ReadsRule (codes "%1") (Some (Every 1)) × ReadsRule (codes "%2147483647") (Some (Every 2147483647))

abbrev IsNoRule : List ℕ → Type 0
IsNoRule text = (rule : Rule) → ¬ ReadsRule text (Some rule)

-- A rule's number isn't 0, is below 2^31, and is written in digits alone, of which the first isn't 0.
abbrev pub OthersAreNoRules : Type 0
OthersAreNoRules =
    IsNoRule (codes "0") × IsNoRule (codes "%0") × IsNoRule (codes "03") × IsNoRule (codes "-3") × IsNoRule (codes " 3")
    × IsNoRule (codes "2147483648")

-- a condition with a name of the procedure, which isn't one of the main block
abbrev pub ConditionsRead : Type 0
ConditionsRead =
    ReadsConditionAt nested 3 (codes "k = 1") (Some (record {
      text = codes "k = 1";
      condition = Compare Equal (Variable (called (codes "k") 1 1)) (Number (pos 1));
    }))

-- in the main block that is none
abbrev pub NamesAreOfTheBlock : Type 0
NamesAreOfTheBlock = (c : TextCondition) → ¬ ReadsConditionAt nested 9 (codes "k = 1") (Some c)

-- An expression stands up to the first brace that closes. A further one stands for itself.
abbrev pub MessagesRead : Type 0
MessagesRead =
    ReadsMessageAt nested 3 (codes "k is {k}}") (Some (record {
      text = codes "k is {k}}";
      parts = Text (codes "k is ") ∷ Value (Variable (called (codes "k") 1 1)) ∷ Text (codes "}") ∷ [];
    }))

-- a brace that opens and doesn't close makes no message
abbrev pub BracesClose : Type 0
BracesClose = (m : Message) → ¬ ReadsMessageAt nested 3 (codes "a {b") (Some m)

-- nor do doubled ones: what the first opens is to be an expression
abbrev pub BracesAreNotDoubled : Type 0
BracesAreNotDoubled = (m : Message) → ¬ ReadsMessageAt nested 3 (codes "{{k}}") (Some m)

-- `{k}`, so many times
abbrev pub repeated : ℕ → List ℕ
repeated zero = []
repeated (suc n) = codes "{k}" ++ repeated n

-- what that reads as
abbrev pub values : ℕ → List Part
values zero = Text [] ∷ []
values (suc n) = Text [] ∷ Value (Variable (called (codes "k") 1 1)) ∷ values n

-- A message has at most eight expressions.
abbrev pub MessagesAreShort : Type 0
MessagesAreShort =
    ReadsMessageAt nested 3 (repeated 8) (Some (record { text = repeated 8; parts = values 8 }))
    × ((m : Message) → ¬ ReadsMessageAt nested 3 (repeated 9) (Some m))
