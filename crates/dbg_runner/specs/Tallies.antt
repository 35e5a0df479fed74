-- How many slices of a run can have been reported.
use Rattle.std.proofs.Math.Bool.{Bool-set}
use Rattle.std.proofs.Props.{props}
use Rattle.std.specs.Prelude.{◌≡◌, ℕ, ◌*◌, ◌≤◌, true, false}
use Rattle.dbg_runner.specs.declared.run.Course.{Course}
use Rattle.dbg_runner.specs.declared.run.Course.TheVariants.{Onward, Back}
use Rattle.dbg_runner.specs.Rooms.{slice_limit}
use Rattle.dbg_runner.specs.Plain.{goes_back}

-- A run that goes on took a step in each of its slices. One that goes back ran all its steps again in each.
abbrev pub CountsSlices : Course → ℕ → Type 0
CountsSlices (Onward d mode) slices = (goes_back mode ≡ false) × (slices ≤ d.position)
CountsSlices (Back b) slices = (goes_back b.mode ≡ true) × (b.steps_rerun ≡ slice_limit * slices)

pub counts_slices_prop : (course : Course) (slices : ℕ) → IsProp (CountsSlices course slices)
counts_slices_prop (Onward d mode) slices = Prim.hlevel (props, Bool-set)
counts_slices_prop (Back b) slices = Prim.hlevel (props, Bool-set)
