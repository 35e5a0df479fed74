-- What is told of a fault: lines that are added one by one, and the places of steps.
use Rattle.pl0_tool.proofs.Common.{[], add-one, ap, append_assoc, blocks, depth_of, Frame, frame_line, frame_lines, frame_name, frame_of, FrameView, get_or, length, List, min, more_line, next_step, None, Option, option_map, option_map_or, Path, place_line, program, program_of, refl, same_Some, told_frames, Shows, slice_get, Some, Standing, StepAt, sym, ℕ, ◌++◌, ◌+◌, ◌-◌, ◌<◌, ◌∙◌, ◌≡◌}
use Rattle.pl0_tree.specs.declared.tree.Place.{Place}
use Rattle.pl0_tree.specs.declared.step.Step.{Step}
use Rattle.pl0_unit.specs.declared.unit.Unit.{Unit as Compiled}
use Rattle.pl0_tool.proofs.TracedFrames.{next_within, next_place}
use Rattle.pl0_tool.specs.Faulting.{with_frames}
use Rattle.pl0_tool.proofs.DrawnCells.{shown_next}

-- what is said of a step's place
pub of_place : (o : Option StepAt) (place : Place) (say : Place → List ℕ)
    → option_map (λ (s : StepAt). s.place) o ≡ Some place → option_map_or (λ (s : StepAt). say s.place) o [] ≡ say place
of_place None place say is = cc
of_place (Some s) place say is = ap say (same_Some s.place place is)

pub of_no_place : (o : Option StepAt) (say : Place → List ℕ)
    → option_map (λ (s : StepAt). s.place) o ≡ None → [] ≡ option_map_or (λ (s : StepAt). say s.place) o []
of_no_place None say is = refl
of_no_place (Some s) say is = cc

-- what a frame's view says of the tables of its unit
pub shown_within : (u : Compiled) (o : Option Frame) (view : FrameView) → Shows (program_of u) o view
    → view.next_step < length u.steps.items
shown_within u o view shows = next_within u o view.next_step (shown_next (program_of u) o view shows)

-- the line of a frame that has this view
pub said_frame : (u : Compiled) (o : Option Frame) (view : FrameView) (s : Step) (name file : List ℕ)
    → Shows (program_of u) o view → s ≡ get_or u.steps.items view.next_step s
    → ((q : Path) → slice_get (blocks (program_of u)) view.block ≡ Some q → name ≡ frame_name (program_of u) q)
    → frame_line file (program_of u) o ≡ place_line name file s.place
said_frame u None view s name file shows at named = absurd shows
said_frame u (Some f) view s name file shows at named =
    let main = program_of u in
    of_place (next_step main f) s.place (place_line (frame_name main f.block) file)
    (next_place u (Some f) view.next_step s (shown_next main (Some f) view shows) at)
    ∙ ap (λ n. place_line n file s.place) (sym (named f.block shows.0))

-- the line of one frame more
pub lines_more : (file : List ℕ) (m : Standing) (first report line : List ℕ) (n frame : ℕ) → frame ≡ depth_of m - 1 - n
    → report ≡ first ++ frame_lines file m n → line ≡ frame_line file (program m) (frame_of m frame)
    → report ++ line ≡ first ++ frame_lines file m (n + 1)
lines_more file m first report line n frame at told is =
    let next = frame_line file (program m) (frame_of m (depth_of m - 1 - n)) in
    let more : report ++ line ≡ first ++ (frame_lines file m n ++ next) =
    ap (λ l. report ++ l) (is ∙ ap (λ k. frame_line file (program m) (frame_of m k)) at)
    ∙ ap (λ l. l ++ next) told
    ∙ append_assoc first (frame_lines file m n) next in
    rw add-one more

-- all lines: the first, those of the frames that are told, and that of the rest
pub all_lines : (file : List ℕ) (m : Standing) (first report line : List ℕ) (n more : ℕ)
    → n ≡ min (depth_of m) told_frames → more ≡ depth_of m - told_frames → report ≡ first ++ frame_lines file m n
    → line ≡ more_line more → report ++ line ≡ with_frames first file m
all_lines file m first report line n more at left told is =
    let lines = frame_lines file m (min (depth_of m) told_frames) in
    let rest = more_line (depth_of m - told_frames) in
    ap (λ l. report ++ l) (is ∙ ap (λ k. more_line k) left)
    ∙ ap (λ l. l ++ rest) (told ∙ ap (λ k. first ++ frame_lines file m k) at)
    ∙ append_assoc first lines rest
