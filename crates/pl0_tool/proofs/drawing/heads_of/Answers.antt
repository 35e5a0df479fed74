use Rattle.pl0_tool.proofs.Common.{ap, length, length_push, subst, sym, ◌+◌, ◌∙◌}
use Rattle.pl0_tool.proofs.DrawnCells.{TellHeads, head_more}
use Rattle.pl0_tool.proofs.drawing.heads_of.Goals as goal

pub loop-index-preserved : goal.loop-index-preserved
loop-index-preserved c =
    let m = c.args.machine.now in
    let heads = c.loop-index.heads.items in
    let told = c.loop-index.invariant in (
      ap length c.in_ok-push.ensures.items ∙ length_push heads c.in_ok-head.field-0 ∙ ap (λ k. k + 1) told.0,
      subst (TellHeads m c.args.hidden) (sym c.in_ok-push.ensures.items)
          (head_more m c.args.hidden c.loop-index.index heads c.in_ok-head.field-0 told.0 told.1 c.in_ok-head.ensures),
    )
