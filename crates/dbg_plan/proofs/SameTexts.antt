-- Two conditions, and two messages, are the same exactly where their texts are.
use Rattle.std.proofs.Common.{◌≡◌, ℕ, Bool, List, Option, Some, Decides, sym, ap, ◌∙◌, subst}
use Rattle.std.specs.Prelude.{option_map, string_bytes, bytes_eq}
use Rattle.std.specs.Coded.{Coded, Coded-set, coded_list}
use Rattle.std.proofs.Math.Logic.{∥∥₁_elim}
use Rattle.std.proofs.lemmas.Option.{same_Some}
use Rattle.std.proofs.lemmas.Slice.Eq.{bytes_eq-Decides}
use Rattle.pl0_tree.specs.Tree.{Condition}
use Rattle.pl0_tree.proofs.Unique.{condition_text_once, expression_text_once}
use Rattle.dbg_plan.specs.declared.breakpoint.BoundCondition.{BoundCondition}
use Rattle.dbg_plan.specs.declared.message.LogMessage.{LogMessage}
use Rattle.dbg_plan.specs.ReadsAs.{ReadsAs}
use Rattle.dbg_plan.specs.Messages.{Part, Message, ReadsAsExpression, ReadsAsParts}
use Rattle.dbg_plan.specs.Breakpoints.{TextCondition, text_condition, condition_code, plain_message, part_code}
use Rattle.dbg_plan.proofs.MessageParts.{parts_once}

-- a text reads as one thing
one_tree : {T : Type 0} (Reads : List ℕ → T → Type 0) → Coded T →
    ((text : List ℕ) (a b : T) → Reads text a → Reads text b → a ≡ b) →
    (s t : List ℕ) (a b : T) → s ≡ t → ∥ Reads s a ∥₁ → ∥ Reads t b ∥₁ → a ≡ b
one_tree Reads code once s t a b is first second =
    ∥∥₁_elim (rw (← is) first) (Coded-set code a b) (λ f. ∥∥₁_elim second (Coded-set code a b) (once t a b f))

pub same_condition : (c d : BoundCondition) → string_bytes c.text ≡ string_bytes d.text
    → text_condition c ≡ text_condition d
same_condition c d e =
    with_both _ _ _ _ e (one_tree ReadsAs condition_code (λ text a b. condition_text_once) _ _ _ _ e c.reads d.reads)
  where
    with_both : (s t : List ℕ) (c d : Condition) → s ≡ t → c ≡ d
        → ◌≡◌ {A = TextCondition} (record { text = s; condition = c }) (record { text = t; condition = d })
    with_both s t c d e f = cc

pub same_message : (c d : LogMessage) → string_bytes c.text ≡ string_bytes d.text → plain_message c ≡ plain_message d
same_message c d e =
    with_both _ _ _ _ e (one_tree ReadsAsParts (coded_list part_code) (parts_once ReadsAsExpression (λ text a b.
    expression_text_once)) _ _ _ _ e c.reads d.reads)
  where
    with_both : (s t : List ℕ) (ps qs : List Part) → s ≡ t → ps ≡ qs
        → ◌≡◌ {A = Message} (record { text = s; parts = ps }) (record { text = t; parts = qs })
    with_both s t ps qs e f = cc

-- where equal texts make two things the same, a test of the texts tells
pub told : {C P : Type 0} (plain : C → P) (text : P → List ℕ) (c d : C)
    → (text (plain c) ≡ text (plain d) → plain c ≡ plain d) → (left right : Option C) → left ≡ Some c → right ≡ Some d
    → (r : Bool) → r ≡ bytes_eq (text (plain c)) (text (plain d))
    → Decides r (option_map plain left ≡ option_map plain right)
told plain text c d same left right at_left at_right r is =
    let test = bytes_eq-Decides (text (plain c)) (text (plain d)) in
    let some : Decides r (Some (plain c) ≡ Some (plain d)) = (
      λ yes'. ap Some (same (test.0 (sym is ∙ yes'))),
      λ e. is ∙ test.1 (ap text (same_Some (plain c) (plain d) e)),
    ) in
    subst (λ o. Decides r (option_map plain o ≡ option_map plain right)) (sym at_left)
    (subst (λ o. Decides r (Some (plain c) ≡ option_map plain o)) (sym at_right) some)
