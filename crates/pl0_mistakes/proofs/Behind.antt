-- What a program is warned of is read from its tokens; no statement is empty before the end of the text.
use Rattle.std.proofs.Common.{◌≡◌, ◌≤◌, ◌++◌, ◌∙◌, List, [], ◌∷◌, ℕ, length, nat_lt, false, ap, sym, map, refl, if◌then◌else◌, arith}
use Rattle.std.proofs.lemmas.Bool.Decides.{nat_tests}
use Rattle.pl0_tree.specs.declared.tree.Place.{Place}
use Rattle.pl0_tree.specs.declared.token.Token.{Token as Word}
use Rattle.pl0_tree.specs.Faults.{limit}
use Rattle.pl0_tree.specs.Tokens.{tokens_of}
use Rattle.pl0_tree.specs.Words.{ended, symbol_of, token_of}
use Rattle.pl0_mistakes.specs.Warnings.{empty_line, empty_lines, is_behind, warning_lines}

abbrev empty_at : List ℕ → Word → Word → List ℕ
empty_at file w next =
    if is_behind (symbol_of next.symbol) then empty_line file w.place (symbol_of w.symbol) else []

lines_ended : (file : List ℕ) (words : List Word) (end : Place)
    → empty_lines file (ended words end) ≡ empty_lines file (map token_of words)
lines_ended file [] end = refl
lines_ended file (w ∷ []) end = refl
lines_ended file (w ∷ (next ∷ words)) end =
    ap (λ lines. empty_at file w next ++ lines) (lines_ended file (next ∷ words) end)

pub warned : (file text : List ℕ) (words : List Word) (end : Place) → ended words end ≡ tokens_of text
    → length text ≤ limit → empty_lines file (map token_of words) ≡ warning_lines file text
warned file text words end read short =
    let looked : nat_lt limit (length text) ≡ false = grind (arith, nat_tests) in
    sym (lines_ended file words end)
    ∙ (ap (λ tokens. empty_lines file tokens) read
    ∙ ap (λ v. if v then [] else empty_lines file (tokens_of text)) (sym looked))
