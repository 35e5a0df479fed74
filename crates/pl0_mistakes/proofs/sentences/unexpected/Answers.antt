use Rattle.std.proofs.Common.{◌≡◌, ◌==◌, ◌∙◌, length, true, false, rules}
use Rattle.pl0_mistakes.specs.Written.{hinted}
use Rattle.pl0_mistakes.proofs.Told.{told, of_end, of_token}
use Rattle.pl0_mistakes.proofs.sentences.unexpected.Goals as goal

pub returns-then-is_empty : goal.returns-then-is_empty
returns-then-is_empty c =
    let hint = c.hint_for-hint.result in
    let is : true ≡ (length c.args.token.now == 0) = search rules in
    (hinted hint, told hint, c.plain.ensures ∙ of_end c.args.token.now (hinted hint) is)

pub returns-else-is_empty : goal.returns-else-is_empty
returns-else-is_empty c =
    let hint = c.hint_for.result in
    let is : false ≡ (length c.args.token.now == 0) = search rules in
    (hinted hint, told hint, c.quoted.ensures ∙ of_token c.args.token.now (hinted hint) is)
