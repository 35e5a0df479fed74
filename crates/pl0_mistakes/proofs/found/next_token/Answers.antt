use Rattle.std.proofs.Common.{◌≡◌, false, get_or, rules}
use Rattle.pl0_tree.specs.Tokens.{is_space}
use Rattle.pl0_mistakes.proofs.Cutting.{next_is}
use Rattle.pl0_mistakes.proofs.found.next_token.Goals as goal

pub returns-then-not-is_space : goal.returns-then-not-is_space
returns-then-not-is_space c =
    let visible : is_space (get_or c.loop-rest.rest.now 0 0) ≡ false = search rules in
    next_is _ _ _ _ c.loop-rest.invariant.same c.loop-rest.invariant.shorter c.in-len1-up.len_at_least visible
    c.split_token.ensures.token c.split_token.ensures.after
