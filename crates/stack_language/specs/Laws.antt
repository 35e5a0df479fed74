-- States what holds of the language: a state has one step, and where a breakpoint stops the program, the newest frame
-- is shown at the line at which it was set.
use Rattle.std.specs.Prelude.{◌≡◌, ℕ, Some}
use Rattle.debuggee.specs.Shown.{PlainFrame}
use Rattle.debuggee.specs.declared.language.Location.{Location}
use Rattle.debuggee.specs.Plain.{PlainStep}
use Rattle.stack_language.specs.declared.machine.Machine.{Machine}
use Rattle.stack_language.specs.Language.{plain_state, takes}
use Rattle.stack_language.specs.Shown.{first_place, frame_of, sees}

abbrev pub StepsAreOne : Type 0
StepsAreOne =
    (m n o : Machine) (s t : PlainStep) → takes m s n → takes m t o
    → (s ≡ t) × (plain_state n.state ≡ plain_state o.state) × (n.program ≡ o.program)

abbrev pub StopsAreShown : Type 0
StopsAreShown =
    (set stopped : Machine) (line : ℕ) (place : Location) (frame : PlainFrame) → first_place set line (Some place)
    → sees.place_of stopped ≡ Some place.place → frame_of stopped 0 frame → frame.line ≡ place.line
