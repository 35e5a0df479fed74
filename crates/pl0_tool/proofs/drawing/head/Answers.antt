use Rattle.pl0_tool.proofs.Common.{frames, program, sym}
use Rattle.pl0_tool.proofs.DrawnCells.{parent_within}
use Rattle.pl0_tool.proofs.drawing.head.Goals as goal

pub base-requires : goal.base-requires
base-requires c =
    let m = c.args.machine.now in
    parent_within (program m) (frames m) c.args.frame c.in-Some.parent c.depth-depth.ensures.linked
    (sym c.in-Some.ensures)
