-- What is told of a run that faults or is stopped: the fault or the position, and the newest frames that are alive.
use Rattle.std.specs.Prelude.{ℕ, zero, suc, ◌-◌, min, List, [], ◌++◌, codes, decimal, Option, Some, None}
use Rattle.std.specs.Option.{option_map_or}
use Rattle.pl0_tree.specs.Tree.{Block}
use Rattle.pl0_tree.specs.declared.tree.Place.{Place}
use Rattle.pl0_tree.specs.Blocks.{frame_name}
use Rattle.pl0_meaning.specs.declared.RunFault.{RunFault}
use Rattle.pl0_meaning.specs.Values.{Frame, next_step}
use Rattle.pl0_machine.specs.Machine.{Standing, program, frame_of, depth_of}
use Rattle.pl0_mistakes.specs.Lines.{fault_line, message_line}
use Rattle.pl0_tool.specs.Tracing.{step_before, told_frames}

-- the line of a fault at the step that comes next
abbrev pub first_line : List ℕ → Standing → RunFault → List ℕ
first_line file m fault = option_map_or (λ s. fault_line file fault s.place) (step_before m) []

-- the line of a run that was stopped at this position, before the step at a place
abbrev pub stopped_at : List ℕ → ℕ → Place → List ℕ
stopped_at file position place = message_line file place (codes ": stopped: at position ") (decimal position)

-- the line of a run that was stopped before the step that comes next
abbrev pub stop_line : List ℕ → Standing → List ℕ
stop_line file m = option_map_or (λ s. stopped_at file m.position s.place) (step_before m) []

abbrev pub place_line : List ℕ → List ℕ → Place → List ℕ
place_line name file place =
    codes "  in " ++ (name ++ (codes " at " ++ (file ++ (codes ":" ++ (decimal place.line ++ (codes ":"
    ++ (decimal place.column ++ codes "\n")))))))

-- a line for a frame: its name, and where it stands
abbrev pub frame_line : List ℕ → Block → Option Frame → List ℕ
frame_line file main None = []
frame_line file main (Some f) =
    option_map_or (λ s. place_line (frame_name main f.block) file s.place) (next_step main f) []

-- the lines of this many frames, the newest first
abbrev pub frame_lines : List ℕ → Standing → ℕ → List ℕ
frame_lines file m zero = []
frame_lines file m (suc n) =
    frame_lines file m n ++ frame_line file (program m) (frame_of m (depth_of m - 1 - n))

-- the line that says how many frames are left out, if any are
abbrev pub more_line : ℕ → List ℕ
more_line zero = []
more_line (suc n) = codes "  and " ++ (decimal (suc n) ++ codes " more\n")

-- a line, and under it those of frames
abbrev pub with_frames : List ℕ → List ℕ → Standing → List ℕ
with_frames first file m =
    first ++ (frame_lines file m (min (depth_of m) told_frames) ++ more_line (depth_of m - told_frames))

abbrev pub fault_report : List ℕ → Standing → RunFault → List ℕ
fault_report file m fault = with_frames (first_line file m fault) file m

abbrev pub stop_report : List ℕ → Standing → List ℕ
stop_report file m = with_frames (stop_line file m) file m
