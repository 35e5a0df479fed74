-- What is shown of one frame.
use Rattle.dap_inspection.proofs.Common.{Counting, Frame, FrameView, IsShownAs, List, None, Option, Path, Shows, Some, Step, blocks, frame_name, get_or, length, program_of, slice_get, ℕ, ◌-◌, ◌<◌, ◌≡◌}
use Rattle.std.proofs.lemmas.Option.{slice_get-get_or}
use Rattle.pl0_unit.specs.declared.unit.Unit.{Unit as Compiled}
use Rattle.dap_history.specs.Frames.{frame_place}
use Rattle.dap_inspection.proofs.UnitTables.{step_within, step_place}
use Rattle.std.proofs.Common.{arith}
use Rattle.std.proofs.lemmas.Grind.{common_steps}

pub shown_within : (u : Compiled) (o : Option Frame) (view : FrameView) → Shows (program_of u) o view
    → view.next_step < length u.steps.items
shown_within u None view shows = absurd shows
shown_within u (Some f) view shows = step_within u view.next_step shows.1.within

-- where the frame's next step stands
place_is : (u : Compiled) (f : Frame) (view : FrameView) (s : Step) → Shows (program_of u) (Some f) view
    → s ≡ get_or u.steps.items view.next_step s →
    frame_place (program_of u) f ≡ Some s.place
place_is u f view s shows at =
    let within = shown_within u (Some f) view shows in
    let there : slice_get u.steps.items view.next_step ≡ Some s =
    cc (slice_get-get_or u.steps.items view.next_step s within) in
    cc (shows.1.next, step_place u view.next_step)

pub shown_as : (u : Compiled) (counting : Counting) (o : Option Frame) (view : FrameView) (id line column : ℕ)
    (name : List ℕ) (s : Step) →
    Shows (program_of u) o view → ((q : Path) → slice_get (blocks (program_of u)) view.block ≡ Some q
    → name ≡ frame_name (program_of u) q) →
    s ≡ get_or u.steps.items view.next_step s → line ≡ s.place.line - counting.lines
    → column ≡ s.place.column - counting.columns →
    IsShownAs (program_of u) counting o id (record { id = id; name = name; line = line; column = column })
shown_as u counting o view id line column name s shows names at lines columns =
    grind (arith, common_steps, place_is) steps 200000
