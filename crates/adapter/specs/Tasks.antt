-- Defines how a task ends that is given to a thread.
use Rattle.std.specs.Prelude.{◌≡◌, Result, Ok, Err}

-- The task was run, and returned this; or it is given back.
abbrev pub EndsAs : {A T : Type 0} → (A → Type 0) → T → Result A T → Type 0
EndsAs gives task (Ok output) = gives output
EndsAs gives task (Err back) = back ≡ task

-- A thread has promised to end this task; or it ended without one.
abbrev pub BeginsAs : {H A T : Type 0} → (H → T) → (A → Type 0) → T → Result H (Result A T) → Type 0
BeginsAs promised gives task (Ok handle) = promised handle ≡ task
BeginsAs promised gives task (Err end) = EndsAs gives task end
