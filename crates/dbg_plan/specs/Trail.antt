-- The checkpoints of a run, to which a debuggee can go back: where they are kept, and which one is gone to.
use Rattle.std.specs.Prelude.{ℕ, ◌+◌, ◌*◌, ◌<◌, ◌≤◌, max, Bool, nat_le, if◌then◌else◌, List, [], ◌∷◌, ◌++◌, length, filter}

-- the positions of the checkpoints, ascending, and how many positions the next ones are to be apart at least
pub record Trail : Type 0 where
  pub kept : List ℕ
  pub spacing : ℕ

-- the trail of a new debuggee
abbrev pub new_trail : Trail
new_trail = record { kept = []; spacing = 4096 }

-- the most checkpoints that are kept
abbrev pub trail_limit : ℕ
trail_limit = 64

-- the greatest of these, or 0
abbrev pub greatest : List ℕ → ℕ
greatest [] = 0
greatest (k ∷ ks) = max k (greatest ks)

-- ---- where one is kept

-- a position is far enough from the greatest one kept, or 0
abbrev pub asks : Trail → ℕ → Bool
asks trail n = nat_le (greatest trail.kept + trail.spacing) n

-- those at odd places, counted from 1
abbrev pub at_odd_places : {A : Type 0} → List A → List A
at_odd_places [] = []
at_odd_places (x ∷ []) = x ∷ []
at_odd_places (x ∷ y ∷ rest) = x ∷ at_odd_places rest

abbrev pub thinned : Trail → Trail
thinned trail = record { kept = at_odd_places trail.kept; spacing = 2 * trail.spacing }

-- with room for one more: as it is, or thinned where as many as may be are kept
abbrev pub with_room : Trail → Trail
with_room trail = if nat_le trail_limit (length trail.kept) then thinned trail else trail

-- with a checkpoint at this position, if one is asked for there
abbrev pub lengthened : Trail → ℕ → Trail
lengthened trail n = if asks trail n then record trail { kept = trail.kept ++ n ∷ [] } else trail

-- The trail after position n. Where one is asked for, there is to be room for it, and then the rule is asked anew.
abbrev pub kept_at : Trail → ℕ → Trail
kept_at trail n = if asks trail n then lengthened (with_room trail) n else trail

-- ---- which one is gone to

-- the greatest position kept that is at most n, or 0
abbrev pub floor_of : List ℕ → ℕ → ℕ
floor_of kept n = greatest (filter (λ k. nat_le k n) kept)

-- ---- the laws of it

-- at most as many are kept as may be
abbrev pub TrailsAreShort : Type 0
TrailsAreShort = (trail : Trail) (n : ℕ) → length trail.kept ≤ trail_limit → length (kept_at trail n).kept ≤ trail_limit

-- each is greater than those before it, and than n
abbrev pub AreAbove : ℕ → List ℕ → Type 0
AreAbove n [] = Unit {0}
AreAbove n (k ∷ ks) = (n < k) × AreAbove k ks

-- they ascend
abbrev pub TrailsAscend : Type 0
TrailsAscend =
    (trail : Trail) (n : ℕ) → 0 < trail.spacing → AreAbove 0 trail.kept → (0 < (kept_at trail n).spacing)
    × AreAbove 0 (kept_at trail n).kept
