use Rattle.pl0_parser.proofs.Common.{[], arith, token_at, EndOfText, length, List, map, Place, subst, sym, Token, tokens_from, ℕ, ◌++◌, ◌<◌, ◌∷◌, ◌≡◌}
use Rattle.pl0_tree.specs.Ascending.{Ascend}
use Rattle.pl0_parser.proofs.Order.{tokens_in_order}
use Rattle.pl0_parser.proofs.lexer.tokenize.Goals as goal

-- where no bytes are left, all tokens are found
all_found : (found all : List Token) (p : Place) (rest : List ℕ) → length rest < 1 → found ++ tokens_from p 0 rest ≡ all
    → found ++ token_at EndOfText p ∷ [] ≡ all
all_found found all p [] none told = told
all_found found all p (b ∷ rest) none told = absurd (omega arith)

pub returns-clause-in_order : goal.returns-clause-in_order
returns-clause-in_order c =
    let told = all_found _ _ c.loop-rest.place c.loop-rest.rest.now c.in_default.len_below c.loop-rest.invariant.told in
    subst (λ (ts : List Token). Ascend (map (λ token. token.place) ts)) (sym told) (tokens_in_order c.args.text.now)
