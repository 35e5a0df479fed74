use Rattle.std.proofs.Common.{◌++◌, ◌∙◌, ap, subst, sym, arith}
use Rattle.std.specs.Prelude.{All}
use Rattle.std.proofs.lemmas.List.Elements.{All-get_or}
use Rattle.pl0_mistakes.specs.Lines.{AreMistakeLines, IsFurther, IsNameFaultIn, further_line}
use Rattle.pl0_mistakes.proofs.further.with_others.Goals as goal

pub loop-other-preserved : goal.loop-other-preserved
loop-other-preserved c =
    let text = c.args.text.now in
    subst (λ l. AreMistakeLines c.args.file.now text c.args.kind c.args.place l)
    (sym (c.in_ok-extend_from_slice.ensures.items ∙ ap (λ l. c.loop-other.lines.items ++ l) c.as_slice.ensures.value))
    (further_line _ _ c.requires.names
    (All-get_or (IsFurther (IsNameFaultIn text)) c.deref-other-items.result.now c.loop-other.other-index _
    (omega (arith, c.loop-other-test.true, c.loop-other.auto.other-index-end))
    (subst (All (IsFurther (IsNameFaultIn text))) (sym c.deref-other-items.ensures.value) c.in_ok-mistakes.ensures))
    c.loop-other.invariant c.in_ok-line.ensures)
