-- Bytes that are still to be written.
use Rattle.std.specs.Prelude.{◌≡◌, ℕ, List, ◌++◌}
use Rattle.byte_streams.specs.Streams.{Output, Appends}

-- The first part of a text was written to an output since it was as before, and the rest is pending.
pub record Holds (before now : Output) (pending text : List ℕ) : Type 0 where
  pub flushed : List ℕ
  pub appended : Appends before.written now.written flushed
  pub joined : flushed ++ pending ≡ text
  pub kept : now.failures ≡ before.failures
