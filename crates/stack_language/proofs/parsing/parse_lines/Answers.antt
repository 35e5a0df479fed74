use Rattle.std.proofs.Common.{◌+◌, add-one, suc, take, sym, ap, subst}
use Rattle.stack_language.specs.Text.{AreRead, IsFirstMistake}
use Rattle.stack_language.proofs.Reading.{one_more, one_mistake, texts}
use Rattle.stack_language.proofs.parsing.parse_lines.Goals as goal

pub returns-in-None : goal.returns-in-None
returns-in-None c =
    subst (IsFirstMistake (texts c.args.lines.now)) (ap (λ n. n + 1) (sym c.loop-line.invariant.0))
    (one_mistake c.args.lines.now c.loop-line.line-index _ c.loop-line.program.items c.loop-line-test.true
    c.loop-line.invariant.1 c.in-None.ensures)

pub loop-line-preserved : goal.loop-line-preserved
loop-line-preserved c =
    let all = texts c.args.lines.now in
    let i = c.loop-line.line-index in (
      ap (λ n. n + 1) c.loop-line.invariant.0,
      subst (λ k. AreRead (take k all) c.push.new.self.items) (sym (add-one i))
          (subst (AreRead (take (suc i) all)) (sym c.in_ok-push-in-Some.ensures.items)
          (one_more c.args.lines.now i _ c.loop-line.program.items c.in-Some.instruction c.loop-line-test.true
          c.loop-line.invariant.1 c.in-Some.ensures)),
    )
