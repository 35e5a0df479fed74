-- Defines what is known of an input and of an output, and what holds after bytes went through them.
use Rattle.std.specs.Prelude.{◌++◌, ◌≡◌, ◌⊎◌, ◌<◌, ℕ, Bool, true, List, [], Option, None, Some, Result, length, take, MatchResult}

-- What went through a stream: the bytes since the log began, in order; and, where that is known, as of a stream in
-- memory, what an input had to give then, or what an output held.
pub record StreamLog : Type 0 where
  pub first : Option (List ℕ)
  pub bytes : List ℕ

-- What is known of an input: what its reads gave so far, whether one of them found the end, and how many failed.
pub record Supply : Type 0 where
  pub read : StreamLog
  pub ended : Bool
  pub failures : ℕ

-- What is known of an output: what its writes took so far, and how many failed.
pub record Output : Type 0 where
  pub written : StreamLog
  pub failures : ℕ

abbrev pub output : Option (List ℕ) → List ℕ → ℕ → Output
output first bytes failures = record { written = record { first = first; bytes = bytes }; failures = failures }

-- The bytes came behind those before, through the same stream.
abbrev pub Appends : StreamLog → StreamLog → List ℕ → Type 0
Appends old later bytes = later ≡ record { first = old.first; bytes = old.bytes ++ bytes }

-- A prefix of the bytes was written.
abbrev pub AppendsPart : StreamLog → StreamLog → List ℕ → Type 0
AppendsPart old later bytes =
    (part : List ℕ) × Appends old later part × ((rest : List ℕ) × (part ++ rest ≡ bytes))

-- All bytes were written, once.
abbrev pub WritesAll : List ℕ → Output → Output → Type 0
WritesAll bytes before after = Appends before.written after.written bytes × (after.failures ≡ before.failures)

-- A prefix of the bytes was written, and then the output failed.
abbrev pub FailsIn : List ℕ → Output → Output → Type 0
FailsIn bytes before after = AppendsPart before.written after.written bytes × (before.failures < after.failures)

-- All bytes were written, once; or a prefix of them, and then the output failed.
abbrev pub WritesOrFails : List ℕ → Output → Output → Type 0
WritesOrFails bytes before after = WritesAll bytes before after ⊎ FailsIn bytes before after

-- ---- one read, and one write

-- A read gave the n bytes in front of the room, none only at the end or with no room; or it gave none.
abbrev pub ReadGives : {E : Type 0} → Supply → Supply → Result ℕ E → List ℕ → Type 0
ReadGives old later r room =
    MatchResult r
    (λ n. Appends old.read later.read (take n room) × (n ≡ 0 → 0 < length room → later.ended ≡ true))
    (λ _. later.read ≡ old.read)

-- A write took the n bytes in front; or it took none.
abbrev pub WriteTakes : {E : Type 0} → Output → Output → Result ℕ E → List ℕ → Type 0
WriteTakes old later r bytes =
    MatchResult r (λ n. Appends old.written later.written (take n bytes)) (λ _. later.written ≡ old.written)

-- ---- what std's streams tell of their bytes, where they do

-- Where all that there was to give is known, the bytes were its front, and the rest is left: nothing, where the end was
-- found.
abbrev pub HasGiven : Option (List ℕ) → Option (List ℕ) → List ℕ → Bool → Type 0
HasGiven None left bytes ended = Unit {0}
HasGiven (Some all) None bytes ended = ⊥
HasGiven (Some all) (Some left) bytes ended = (all ≡ bytes ++ left) × (ended ≡ true → left ≡ [])

-- What was read is the front of all that there was to give, where that is known, and all of it, where a read found the
-- end.
abbrev pub IsOfWhole : Supply → Type 0
IsOfWhole s = (left : Option (List ℕ)) × HasGiven s.read.first left s.read.bytes s.ended

-- The bytes were read: they came behind those that were read before, and all of these are the input's own.
pub record IsReadOf (bytes : List ℕ) (old later : Supply) : Type 0 where
  pub appended : Appends old.read later.read bytes
  pub of_whole : ∥ IsOfWhole later ∥₁
