use Rattle.std.proofs.Common.{◌++◌, ◌∷◌, [], ap, ◌∙◌}
use Rattle.pl0_tree.specs.Plain.{plain_expression}
use Rattle.dbg_plan.specs.declared.message.Part.TheVariants as part
use Rattle.dbg_plan.specs.Messages.{Text, Value, plain_parts}
use Rattle.dbg_plan.proofs.MessageTexts.{two_appended, bound_one}
use Rattle.dbg_plan.proofs.messages.push_value.Goals as goal

pub returns-clause-parts : goal.returns-clause-parts
returns-clause-parts c =
    let e = c.args.expression in
    two_appended c.args.parts.now.items _ _ (part.Text c.in_ok-before.before) (part.Value e) c.in_ok-push.ensures.items
    c.in_ok-push-2.ensures.items
    ∙ ap (λ t. plain_parts c.args.parts.now.items ++ Text t ∷ Value (plain_expression e.expression) ∷ [])
    c.in_ok-before.ensures.ok

pub returns-clause-bound : goal.returns-clause-bound
returns-clause-bound c = λ main q was bound.
    bound_one main q _ _ (part.Value c.args.expression) c.in_ok-push-2.ensures.items
    (bound_one main q c.args.parts.now.items _ (part.Text c.in_ok-before.before) c.in_ok-push.ensures.items was tt)
    (bound, tt)
