-- The tokens of a text, as the bytes that stand there.
use Rattle.std.specs.Prelude.{ℕ, zero, suc, pred, ◌-◌, ◌==◌, if◌then◌else◌, List, [], ◌∷◌, length, take, drop}
use Rattle.pl0_tree.specs.declared.tree.Place.{Place}
use Rattle.pl0_tree.specs.Tokens.{front_piece, is_space}

-- what stands in a text from the given line on, which is the first one at 0
abbrev pub from_line : ℕ → List ℕ → List ℕ
from_line zero text = text
from_line (suc n) [] = []
from_line (suc n) (b ∷ bytes) = if b == 10 then from_line n bytes else from_line (suc n) bytes

-- what stands in a text from a place on
abbrev pub from_place : Place → List ℕ → List ℕ
from_place place text = drop (place.column - 1) (from_line (place.line - 1) text)

-- what stands in a text before a place
abbrev pub before_place : Place → List ℕ → List ℕ
before_place place text = take (length text - length (from_place place text)) text

-- the token in front of bytes, as long as it goes; nothing where the text ends
abbrev pub front_token : List ℕ → List ℕ
front_token [] = []
front_token (b ∷ bytes) = take (front_piece b (b ∷ bytes)).1 (b ∷ bytes)

-- the token at a place
abbrev pub token_at : Place → List ℕ → List ℕ
token_at place text = front_token (from_place place text)

-- the tokens of bytes, of which the first few still belong to the token before
abbrev pub cut_from : ℕ → List ℕ → List (List ℕ)
cut_from taken [] = []
cut_from (suc taken) (b ∷ bytes) = cut_from taken bytes
cut_from zero (b ∷ bytes) =
    if is_space b then cut_from zero bytes
    else front_token (b ∷ bytes) ∷ cut_from (pred (length (front_token (b ∷ bytes)))) bytes

-- the tokens of bytes
abbrev pub cut : List ℕ → List (List ℕ)
cut bytes = cut_from 0 bytes

-- the last token, or else this one
abbrev pub last_or : List ℕ → List (List ℕ) → List ℕ
last_or token [] = token
last_or token (t ∷ tokens) = last_or t tokens

-- the token before a place; nothing where there is none
abbrev pub token_before : Place → List ℕ → List ℕ
token_before place text = last_or [] (cut (before_place place text))
