-- Breakpoints as data. All definitions of plans are over it; `plain_breakpoint` says which one the code's breakpoint
-- is.
use Rattle.std.specs.Prelude.{◌≡◌, ◌⊎◌, ℕ, List, map, Option, option_map, pos, string_bytes, refl}
use Rattle.std.proofs.Common.{inl, inr}
use Rattle.std.specs.Coded.{Coded, code_by, coded_ℕ, coded_list, coded_option, coded×, coded⊎}
use Rattle.pl0_tree.specs.declared.tree.Place.{Place}
use Rattle.pl0_tree.specs.Tree.{Expression, Number, Condition, Odd, Statement, Write, If, Empty}
use Rattle.pl0_tree.specs.Plain.{plain_condition}
use Rattle.pl0_tree.specs.TreeCode.{statement_code}
use Rattle.dbg_plan.specs.declared.breakpoint.Rule.{Rule}
use Rattle.dbg_plan.specs.declared.breakpoint.Rule.TheVariants.{From, Every}
use Rattle.dbg_plan.specs.declared.breakpoint.BoundCondition.{BoundCondition}
use Rattle.dbg_plan.specs.declared.breakpoint.Breakpoint.{Breakpoint as DeclaredBreakpoint}
use Rattle.dbg_plan.specs.declared.message.LogMessage.{LogMessage}
use Rattle.dbg_plan.specs.Messages.{Part, Text, Value, Message, plain_parts}

-- a condition's text, and what it reads as
pub record TextCondition : Type 0 where
  pub text : List ℕ
  pub condition : Condition

-- the number of a step, what an arrival there has to meet, and the message that is logged instead of a stop, if any
pub record Breakpoint : Type 0 where
  pub step : ℕ
  pub condition : Option TextCondition
  pub rule : Option Rule
  pub message : Option Message

abbrev pub text_condition : BoundCondition → TextCondition
text_condition c = record { text = string_bytes c.text; condition = plain_condition c.condition }

abbrev pub plain_message : LogMessage → Message
plain_message m = record { text = string_bytes m.text; parts = plain_parts m.parts.items }

abbrev pub plain_breakpoint : DeclaredBreakpoint → Breakpoint
plain_breakpoint b =
    record {
      step = b.step;
      condition = option_map text_condition b.condition;
      rule = b.rule;
      message = option_map plain_message
          b.message;
    }

abbrev pub plain_breakpoints : List DeclaredBreakpoint → List Breakpoint
plain_breakpoints bs = map plain_breakpoint bs

-- ---- a code of breakpoints, by which a proof tells them apart

abbrev nowhere : Place
nowhere = record { line = 0; column = 0 }

abbrev condition_of : Statement → Condition
condition_of (If p c s) = c
condition_of _ = Odd (Number (pos 0))

abbrev pub condition_code : Coded Condition
condition_code = code_by Statement statement_code (λ c. If nowhere c Empty) condition_of (λ c. refl)

abbrev expression_of : Statement → Expression
expression_of (Write p e) = e
expression_of _ = Number (pos 0)

abbrev expression_code : Coded Expression
expression_code = code_by Statement statement_code (λ e. Write nowhere e) expression_of (λ e. refl)

abbrev part_cases : Part → List ℕ ⊎ Expression
part_cases (Text bytes) = inl bytes
part_cases (Value e) = inr e

abbrev part_of : List ℕ ⊎ Expression → Part
part_of (inl bytes) = Text bytes
part_of (inr e) = Value e

pub part_back : (part : Part) → part_of (part_cases part) ≡ part
part_back (Text bytes) = refl
part_back (Value e) = refl

abbrev pub part_code : Coded Part
part_code = code_by (List ℕ ⊎ Expression) (coded⊎ (coded_list coded_ℕ) expression_code) part_cases part_of part_back

abbrev message_code : Coded Message
message_code =
    code_by (List ℕ × List Part) (coded× (coded_list coded_ℕ) (coded_list part_code)) (λ m. (m.text, m.parts))
    (λ p. record { text = p.0; parts = p.1 }) (λ m. refl)

abbrev rule_parts : Rule → ℕ ⊎ ℕ
rule_parts (From k) = inl k
rule_parts (Every k) = inr k

abbrev rule_of : ℕ ⊎ ℕ → Rule
rule_of (inl k) = From k
rule_of (inr k) = Every k

pub rule_back : (r : Rule) → rule_of (rule_parts r) ≡ r
rule_back (From k) = refl
rule_back (Every k) = refl

abbrev rule_code : Coded Rule
rule_code = code_by (ℕ ⊎ ℕ) (coded⊎ coded_ℕ coded_ℕ) rule_parts rule_of rule_back

abbrev text_condition_code : Coded TextCondition
text_condition_code =
    code_by (List ℕ × Condition) (coded× (coded_list coded_ℕ) condition_code) (λ c. (c.text, c.condition))
    (λ p. record { text = p.0; condition = p.1 }) (λ c. refl)

abbrev pub breakpoint_code : Coded Breakpoint
breakpoint_code =
    code_by (ℕ × (Option TextCondition × (Option Rule × Option Message)))
    (coded× coded_ℕ (coded× (coded_option text_condition_code)
    (coded× (coded_option rule_code) (coded_option message_code))))
    (λ b. (b.step, (b.condition, (b.rule, b.message))))
    (λ p. record { step = p.0; condition = p.1.0; rule = p.1.1.0; message = p.1.1.1 }) (λ b. refl)
