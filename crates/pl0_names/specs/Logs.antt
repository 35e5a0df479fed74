-- What the table keeps: the declarations of the open blocks, here with the latest first.
use Rattle.std.specs.Prelude.{◌≡◌, ℕ, zero, suc, ◌+◌, ◌<◌, nat_eq, Bool, false, List, [], ◌∷◌, length, Option, Some, None, option_map, if◌then◌else◌}
use Rattle.std.specs.Option.{option_or}
use Rattle.std.specs.Str.{bytes_eq}
use Rattle.std.specs.HashMap.{HashMap, get_by}
use denote.Ref.{Bor}
use Rattle.pl0_names.specs.Blocks.{Names, names, blocks_of}
use Rattle.pl0_names.specs.declared.log.Entry.{Entry}
use Rattle.pl0_names.specs.declared.log.Placed.{Placed}

-- the declarations of the block with this many around it
abbrev pub at_level : {T : Type 0} → ℕ → List (Entry T) → List (List ℕ × T)
at_level n [] = []
at_level n (e ∷ es) = if nat_eq e.placed.level n then (e.word.now, e.placed.meaning) ∷ at_level n es else at_level n es

-- those of this many open blocks, the innermost first
abbrev pub blocks : {T : Type 0} → ℕ → List (Entry T) → List (List (List ℕ × T))
blocks zero es = []
blocks (suc n) es = at_level n es ∷ blocks n es

abbrev pub placed_at : {T : Type 0} → ℕ → T → Placed T
placed_at n x = record { level = n; meaning = x }

-- the nearest of the blocks, the innermost first, that declares a word
abbrev pub placed_in : {T : Type 0} → List (Names T) → List ℕ → Option (Placed T)
placed_in [] w = None
placed_in (names ∷ outer) w = option_or (option_map (placed_at (length outer)) (names w)) (placed_in outer w)

-- what a word means in this many open blocks
abbrev pub nearest : {T : Type 0} → ℕ → List (Entry T) → List ℕ → Option (Placed T)
nearest n es w = placed_in (blocks_of (blocks n es)) w

-- each declaration has what its word meant before
abbrev pub IsLinked : {T : Type 0} → List (Entry T) → Type 0
IsLinked [] = Unit {0}
IsLinked (e ∷ es) = (e.hidden ≡ nearest (e.placed.level + 1) es e.word.now) × IsLinked es

-- each declaration is of one of this many blocks, and none that is older is of a block further in
abbrev pub IsNested : {T : Type 0} → ℕ → List (Entry T) → Type 0
IsNested n [] = Unit {0}
IsNested n (e ∷ es) = (e.placed.level < n) × IsNested (e.placed.level + 1) es

-- whether a word means what the block with this many around it declares
abbrev pub is_at : {T : Type 0} → ℕ → Option (Placed T) → Bool
is_at n None = false
is_at n (Some x) = nat_eq x.level n

-- the block of the latest declaration
abbrev pub ends_at : {T : Type 0} → ℕ → List (Entry T) → Bool
ends_at n [] = false
ends_at n (e ∷ es) = nat_eq e.placed.level n

-- what a map says of a word
abbrev pub index_of : {T S : Type 0} → HashMap (Bor (List ℕ)) (Placed T) S → List ℕ → Option (Placed T)
index_of m w = get_by (λ k. bytes_eq w k.now) m

-- a map says what each word means in this many open blocks
pub record IsIndexed {S T : Type 0} (n : ℕ) (m : HashMap (Bor (List ℕ)) (Placed T) S) (es : List (Entry T))
    : Type 0 where
  pub nearest_of : (w : List ℕ) → index_of m w ≡ nearest n es w
  pub linked : IsLinked es

-- a table of this many open blocks
pub record IsTable {S T : Type 0} (n : ℕ) (m : HashMap (Bor (List ℕ)) (Placed T) S) (es : List (Entry T)) : Type 0 where
  pub indexed : IsIndexed n m es
  pub nested : IsNested n es
