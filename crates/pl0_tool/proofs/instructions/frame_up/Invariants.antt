use Rattle.pl0_tool.proofs.Common.{depth_of, frames, ◌-◌, ◌<◌}
use Rattle.pl0_tool.proofs.ToldInstructions.{LooksUp}
use Rattle.pl0_tool.proofs.instructions.frame_up.Given as goal

abbrev pub invariant-loop-followed : goal.invariant-loop-followed
invariant-loop-followed l =
    (l.frame < depth_of l.machine)
    × LooksUp (frames l.machine) l.level (depth_of l.machine - 1) (l.level - l.followed) l.frame
