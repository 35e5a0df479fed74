use Rattle.pl0_tool.proofs.Common.{ap, arith, frame_of, frames, sym, variables_of, ◌+◌, ◌∙◌}
use Rattle.pl0_tool.proofs.DrawnCells.{first_base, next_base}
use Rattle.pl0_tool.proofs.drawing.base.Goals as goal

pub loop-below-init : goal.loop-below-init
loop-below-init c = sym (first_base (frames c.args.machine.now))

pub loop-below-preserved : goal.loop-below-preserved
loop-below-preserved c =
    let m = c.args.machine.now in
    c.in_ok-base.ensures
    ∙ ap (λ b. b + (3 + variables_of (frame_of m c.loop-below.below))) c.loop-below.invariant
    ∙ sym (next_base (frames m) c.loop-below.below (omega (arith, c.loop-below-test.true, c.requires)))
