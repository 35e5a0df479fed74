use Rattle.pl0_tool.proofs.Common.{ap, arith, behind, frame_of, program, ◌-◌, ◌∙◌}
use Rattle.pl0_tool.proofs.DrawnCells.{shown_next, returned}
use Rattle.pl0_tool.proofs.drawing.return_address.Goals as goal

pub returns : goal.returns
returns c =
    let m = c.args.machine.now in
    returned m c.args.frame c.frame.result.next_step c.behind.result
    (λ none. absurd (omega (arith, none, c.if-frame-eq0.false)))
    (shown_next (program m) (frame_of m (c.args.frame - 1)) c.frame.result c.frame.ensures)
    (c.behind.ensures ∙ ap (λ u. behind u c.frame.result.next_step) (c.deref.ensures ∙ c.unit.ensures))
