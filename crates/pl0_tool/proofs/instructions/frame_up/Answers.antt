use Rattle.pl0_tool.proofs.Common.{depth_of, frames, program, sym, ◌-◌}
use Rattle.pl0_tool.proofs.DrawnCells.{parent_within}
use Rattle.pl0_tool.proofs.ToldInstructions.{link_up, no_link}
use Rattle.pl0_tool.proofs.instructions.frame_up.Goals as goal

pub loop-followed-preserved : goal.loop-followed-preserved
loop-followed-preserved c =
    let m = c.args.machine.now in (
      parent_within (program m) (frames m) c.loop-followed.frame c.in-Some.parent c.depth-frame.ensures.linked
          (sym c.in-Some.ensures),
      link_up (frames m) c.args.level (depth_of m - 1) c.loop-followed.followed c.loop-followed.frame c.in-Some.parent
          c.loop-followed-test.true c.loop-followed.invariant.1 c.in-Some.ensures,
    )

pub returns-in-None : goal.returns-in-None
returns-in-None c =
    let m = c.args.machine.now in
    no_link (frames m) c.args.level (depth_of m - 1) c.loop-followed.followed c.loop-followed.frame
    c.loop-followed-test.true c.loop-followed.invariant.1 c.in-None.ensures
