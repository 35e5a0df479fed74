-- What a program is warned of: statements that are empty behind `do` and `then`.
use Rattle.std.specs.Prelude.{ℕ, Bool, true, false, if◌then◌else◌, nat_lt, List, [], ◌∷◌, ◌++◌, length, codes}
use Rattle.pl0_tree.specs.declared.tree.Place.{Place}
use Rattle.pl0_tree.specs.declared.token.Mark.TheVariants as mark
use Rattle.pl0_tree.specs.Tokens.{Symbol, Marked, Token, tokens_of}
use Rattle.pl0_tree.specs.Faults.{limit}
use Rattle.pl0_mistakes.specs.Lines.{message_line}

-- a token that can't begin a statement, but stand behind one: in a program, one before it that is wanted is empty
abbrev pub is_behind : Symbol → Bool
is_behind (Marked mark.Semicolon) = true
is_behind (Marked mark.End) = true
is_behind (Marked mark.Period) = true
is_behind _ = false

-- the line that says of a `do` or `then` that nothing stands behind it
abbrev pub empty_line : List ℕ → Place → Symbol → List ℕ
empty_line file place (Marked mark.Do) =
    message_line file place (codes ": warning: ") (codes "the statement after `do` is empty")
empty_line file place (Marked mark.Then) =
    message_line file place (codes ": warning: ") (codes "the statement after `then` is empty")
empty_line file place _ = []

-- a line for each token behind which a statement is empty, in the order of the tokens
abbrev pub empty_lines : List ℕ → List Token → List ℕ
empty_lines file [] = []
empty_lines file (t ∷ []) = []
empty_lines file (t ∷ (next ∷ tokens)) =
    (if is_behind next.symbol then empty_line file t.place t.symbol else []) ++ empty_lines file (next ∷ tokens)

-- the lines of a file with this text; a text that is too long isn't looked at
abbrev pub warning_lines : List ℕ → List ℕ → List ℕ
warning_lines file text = if nat_lt limit (length text) then [] else empty_lines file (tokens_of text)
