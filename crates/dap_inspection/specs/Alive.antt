-- Defines by their ids the frames that are alive.
use Rattle.std.specs.Prelude.{◌≡◌, ℕ, ◌+◌, ◌<◌, length, Option, None, Some}
use Rattle.pl0_meaning.specs.Values.{Configuration}
use Rattle.dap_history.specs.Frames.{frame_by_id}

-- the id is the one of frame i, counted from 0, which is alive
pub record IsAlive (c : Configuration) (id i : ℕ) : Type 0 where
  pub is : id ≡ i + 1
  pub within : i < length c

-- the number of the frame with this id, or none where no frame that is alive has it
abbrev pub NamesFrame : Configuration → ℕ → Option ℕ → Type 0
NamesFrame c id None = frame_by_id c id ≡ None
NamesFrame c id (Some i) = IsAlive c id i
