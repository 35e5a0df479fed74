-- What the functions that cut a text into tokens promise. No public contract cites this file.
use Rattle.std.specs.Prelude.{◌≡◌, ℕ, ◌+◌, ◌<◌, ◌≤◌, List, ◌∷◌, length, drop, find, nat_eq}
use Rattle.std.specs.List.{starts_with}
use Rattle.pl0_tree.specs.declared.tree.Place.{Place}
use Rattle.pl0_tree.specs.declared.token.Symbol.{Symbol as Seen}
use Rattle.pl0_tree.specs.Tokens.{tokens_from, sign_piece, signs}
use Rattle.pl0_tree.specs.Reading.{token_at}
use Rattle.pl0_tree.specs.Words.{symbol_of}

-- a place further on its line
abbrev pub along : Place → ℕ → Place
along p k = record { line = p.line; column = p.column + k }

-- At any place the first token of the bytes is the symbol, and the others are those of the bytes after it.
pub record IsFront (bytes : List ℕ) (s : Seen) (size : ℕ) : Type 0 where
  pub some : 0 < size
  pub within : size ≤ length bytes
  pub first : (p : Place) → tokens_from p 0 bytes ≡ token_at (symbol_of s) p
      ∷ tokens_from (along p size) 0 (drop size bytes)

-- the sign at the front of bytes, or what begins no token
abbrev pub IsSign : List ℕ → Seen → ℕ → Type 0
IsSign bytes s size =
    let piece = sign_piece (find (λ entry. starts_with nat_eq bytes entry.0) signs) in
    (symbol_of s ≡ piece.0) × (size ≡ piece.1)
