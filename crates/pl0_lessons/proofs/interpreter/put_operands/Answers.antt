use Rattle.std.proofs.Common.{◌∙◌, ◌+◌, ◌++◌, ap, append_assoc, arith, drop, FitsSigned, get_or, map, pos, rules, sym, w64, ℤ}
use Rattle.std.proofs.lemmas.Int.{to_z-of_z}
use Rattle.std.proofs.lemmas.List.{drop_more}
use Rattle.std.specs.List.{concat}
use Rattle.pl0_lessons.specs.Interpreter.{operand_text}
use Rattle.pl0_lessons.proofs.interpreter.put_operands.Goals as goal

pub loop-operand-preserved : goal.loop-operand-preserved
loop-operand-preserved c =
    let stack = c.args.stack.now in
    let i = c.loop-operand.operand-index in
    let page = c.loop-operand.page.items in
    let rest = concat (map operand_text (drop (i + 1) stack)) in
    let number : ℤ = get_or stack i (pos 0) in
    let fits : FitsSigned w64 number = search rules in
    let next = drop_more stack i (pos 0) (omega (arith, c.loop-operand-test.true)) in
    ap (λ t. t ++ rest) c.in_ok-put_operand.ensures
    ∙ ap (λ n. (page ++ operand_text n) ++ rest) (to_z-of_z w64 number fits)
    ∙ append_assoc page (operand_text number) rest
    ∙ ap (λ l. page ++ concat (map operand_text l)) (sym next) ∙ c.loop-operand.invariant
