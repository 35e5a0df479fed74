-- Defines what the beginning of an input is.
use Rattle.std.specs.Prelude.{◌≡◌, ◌<◌, ℕ, true, List, length, take}
use Rattle.byte_streams.specs.Streams.{Supply, IsReadOf}

-- These are the first of the bytes that were read, as many as the limit, or all up to the end where there are fewer.
pub record BeginsWith (limit : ℕ) (bytes : List ℕ) (old later : Supply) : Type 0 where
  pub read : List ℕ
  pub consumed : IsReadOf read old later
  pub bytes_are : bytes ≡ take limit read
  pub all : length bytes < limit → later.ended ≡ true
