-- What words mean in blocks that lie in one another.
use Rattle.std.specs.Prelude.{ℕ, ◌+◌, List, [], ◌∷◌, map, Option, Some, None, option_map, if◌then◌else◌}
use Rattle.std.specs.Option.{option_or}
use Rattle.std.specs.Map.{lookup}
use Rattle.std.specs.Str.{bytes_eq}
use Rattle.pl0_names.specs.declared.open_blocks.Found.{Found}

-- what one block declares each word as
abbrev pub Names : Type 0 → Type 0
Names T = List ℕ → Option T

-- the same, of a block's declarations, the latest first
abbrev pub names : {T : Type 0} → List (List ℕ × T) → Names T
names ds w = lookup (λ v. bytes_eq v w) ds

-- what each of several blocks declares
abbrev pub blocks_of : {T : Type 0} → List (List (List ℕ × T)) → List (Names T)
blocks_of blocks = map names blocks

abbrev pub found_at : {T : Type 0} → ℕ → T → Found T
found_at n d = record { level = n; declared = d }

-- the nearest of the blocks, the innermost first, that declares a word, where the first has a level
abbrev pub found_in : {T : Type 0} → ℕ → List (Names T) → List ℕ → Option (Found T)
found_in n [] w = None
found_in n (names ∷ outer) w = option_or (option_map (found_at n) (names w)) (found_in (n + 1) outer w)

-- a block that declares nothing
abbrev pub no_names : {T : Type 0} → Names T
no_names w = None

-- a block declares a word too, where it didn't
abbrev pub or_declared : {T : Type 0} → Names T → List ℕ → T → Names T
or_declared names word d w = option_or (names w) (if bytes_eq word w then Some d else None)

-- the innermost block declares a word too
abbrev pub declared_in : {T : Type 0} → List (Names T) → List ℕ → T → List (Names T)
declared_in [] word d = []
declared_in (names ∷ outer) word d = or_declared names word d ∷ outer
