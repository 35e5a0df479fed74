-- What reads of a source gave.
use Rattle.std.proofs.Common.{◌≡◌, ◌<◌, ◌≤◌, ℕ, true, List, [], ◌++◌, sym, ◌∙◌, ap, subst, take, length, arith}
use Rattle.byte_streams.specs.Streams.{Supply, Appends}
use Rattle.byte_streams.proofs.Appending.{appends_after}
use Rattle.std.proofs.lemmas.List.{length-take}

-- a read that gave nothing, with room for some
pub read_nothing : (old mid later : Supply) (n : ℕ) (room : List ℕ) → mid.read ≡ old.read
    → Appends mid.read later.read (take n room) × (n ≡ 0 → 0 < length room → later.ended ≡ true) → n ≡ 0
    → 0 < length room → Appends old.read later.read [] × (later.ended ≡ true)
read_nothing old mid later n room keeps got none some = (
  appends_after old.read mid.read later.read [] keeps
      (subst (λ k. Appends mid.read later.read (take k room)) none got.0),
  got.1 none some,
)

-- a read that gave some
pub read_gives : (old mid later : Supply) (n : ℕ) (room piece : List ℕ) → mid.read ≡ old.read
    → Appends mid.read later.read (take n room) × (n ≡ 0 → 0 < length room → later.ended ≡ true)
    → piece ≡ take n room → Appends old.read later.read piece
read_gives old mid later n room piece keeps got is =
    appends_after old.read mid.read later.read piece keeps (subst (Appends mid.read later.read) (sym is) got.0)

-- what was read, put after nothing
pub read_alone : (n : ℕ) (room before piece : List ℕ) → piece ≡ before ++ take n room → before ≡ []
    → piece ≡ take n room
read_alone n room before piece is none = is ∙ ap (λ l. l ++ take n room) none

pub piece_short : (n size : ℕ) (room piece : List ℕ) → piece ≡ take n room → length room ≡ size → length piece ≤ size
piece_short n size room piece is room_is =
    let e = ap length is in let l = length-take n room in omega (arith, e, l, room_is)

-- what a read gave is not empty, unless it gave no byte
pub piece_some : (n : ℕ) (room piece : List ℕ) → piece ≡ take n room → (n ≡ 0 → ⊥) → n ≤ length room → 0 < length piece
piece_some n room piece is some within =
    let e = ap length is in let l = length-take n room in omega (arith, e, l, some, within)

-- what gave no byte, no end and no failure is as it was
pub supply_same : (now old : Supply) → now.read ≡ old.read → now.ended ≡ old.ended → now.failures ≡ old.failures
    → now ≡ old
supply_same now old read ended failures =
    ap (λ r. record { read = r; ended = now.ended; failures = now.failures }) read
    ∙ ap (λ e. record { read = old.read; ended = e; failures = now.failures }) ended
    ∙ ap (λ f. record { read = old.read; ended = old.ended; failures = f }) failures
