-- What was read so far is all that there was.
use Rattle.std.proofs.Common.{◌≡◌, ◌<◌, ◌≤◌, ℕ, true, List, append-nil, take, length, arith}
use Rattle.std.proofs.lemmas.List.{take_all}
use Rattle.byte_streams.specs.Beginning.{BeginsWith}
use Rattle.byte_streams.specs.Streams.{Supply, Appends, IsOfWhole, IsReadOf}
use Rattle.byte_streams.proofs.Appending.{appends_both}
use Rattle.std.proofs.lemmas.Grind.{common_steps}

-- what was read, where a read gave none
pub reads_none : (bytes : List ℕ) (old mid later : Supply) (n : ℕ) (room : List ℕ) → Appends old.read mid.read bytes
    → Appends mid.read later.read (take n room) → n ≡ 0 → ∥ IsOfWhole later ∥₁ → IsReadOf bytes old later
reads_none bytes old mid later n room before got none of_whole = grind (arith, common_steps, append-nil, appends_both)

-- all bytes, where a read gave none
pub begins_whole : (limit : ℕ) (bytes : List ℕ) (old mid later : Supply) (n : ℕ) (room : List ℕ)
    → Appends old.read mid.read bytes
    → Appends mid.read later.read (take n room) × (n ≡ 0 → 0 < length room → later.ended ≡ true) → n ≡ 0
    → 0 < length room → length bytes ≤ limit → ∥ IsOfWhole later ∥₁ → BeginsWith limit bytes old later
begins_whole limit bytes old mid later n room before got none some short of_whole =
    grind (arith, common_steps, reads_none, take_all)
