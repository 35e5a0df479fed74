use Rattle.std.proofs.Common.{subst, sym}
use Rattle.std.proofs.lemmas.Bool.{iff_false}
use Rattle.std.specs.Prelude.{Some, None}
use Rattle.stack_language.specs.declared.program.Instruction.TheVariants.{Nothing}
use Rattle.stack_language.specs.Text.{IsLine}
use Rattle.stack_language.specs.Text.IsLine.{Blank, Comment, Alone, Operated, TooLong}
use Rattle.stack_language.proofs.parsing.instruction_of.Goals as goal

pub returns-in_default : goal.returns-in_default
returns-in_default c =
    subst (λ t. IsLine t (Some Nothing)) c.split_whitespace-words.ensures.rest (Blank c.in_default.ensures.steps.1)

pub returns-then-starts_comment : goal.returns-then-starts_comment
returns-then-starts_comment c =
    subst (λ t. IsLine t (Some Nothing)) c.split_whitespace-words.ensures.rest
    (Comment _ _ c.in-Some.ensures.steps (c.starts_comment.ensures.0 c.if-starts_comment.true))

pub returns-in_default-next : goal.returns-in_default-next
returns-in_default-next c =
    subst (λ t. IsLine t c.without_operand.result) c.split_whitespace-words.ensures.rest
    (subst (IsLine _) (sym c.without_operand.ensures) (Alone _ _ c.in-Some.ensures.steps
    (iff_false c.starts_comment.ensures c.if-starts_comment.false) c.in_default-next.ensures.steps.1))

pub returns-in-Some-next-2 : goal.returns-in-Some-next-2
returns-in-Some-next-2 c =
    subst (λ t. IsLine t None) c.split_whitespace-words.ensures.rest (TooLong _ _ _ _ _ _ c.in-Some.ensures.steps
    (iff_false c.starts_comment.ensures c.if-starts_comment.false) c.in-Some-next.ensures.steps
    c.in-Some-next-2.ensures.steps)

pub returns-in-None : goal.returns-in-None
returns-in-None c =
    subst (λ t. IsLine t c.with_operand.result) c.split_whitespace-words.ensures.rest
    (subst (IsLine _) (sym c.with_operand.ensures) (Operated _ _ _ _ _ c.in-Some.ensures.steps
    (iff_false c.starts_comment.ensures c.if-starts_comment.false) c.in-Some-next.ensures.steps
    c.in-None.ensures.steps.1 c.operand_of.ensures))
