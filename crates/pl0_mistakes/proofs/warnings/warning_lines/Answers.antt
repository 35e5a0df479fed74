use Rattle.std.proofs.Common.{◌≡◌, ◌∙◌, ◌≤◌, length, map, ap, rules}
use Rattle.std.proofs.lemmas.Result.{IfOk-weaker}
use Rattle.pl0_tree.specs.Faults.{limit}
use Rattle.pl0_tree.specs.Tokens.{tokens_of}
use Rattle.pl0_tree.specs.Words.{ended, token_of}
use Rattle.pl0_mistakes.specs.Warnings.{empty_lines}
use Rattle.pl0_mistakes.proofs.Behind.{warned}
use Rattle.pl0_mistakes.proofs.warnings.warning_lines.Goals as goal

pub returns-in-Ok : goal.returns-in-Ok
returns-in-Ok c =
    let file = c.args.file.now in
    let words = c.in-Ok.tokens.items in
    let end = c.in-Ok.field-0-1 in
    let read : ended words end ≡ tokens_of c.args.text.now = search rules in
    let short : length c.args.text.now ≤ limit = search rules in
    IfOk-weaker c.lines_of.result _ _
    (λ lines is. is ∙ (ap (λ ws. empty_lines file (map token_of ws)) c.as_slice.ensures.value
    ∙ warned file c.args.text.now words end read short))
    c.lines_of.ensures
