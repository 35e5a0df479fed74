use Rattle.pl0_tool.proofs.Common.{ap, arith, min, told_frames, ◌-◌, ◌∙◌, ◌≡◌}
use Rattle.pl0_tool.proofs.FaultLines.{lines_more, all_lines}
use Rattle.pl0_tool.proofs.fault.with_frames.Goals as goal

pub loop-index-preserved : goal.loop-index-preserved
loop-index-preserved c =
    let m = c.args.machine.now in
    let file = c.args.file.now in
    let n = c.loop-index.index in
    c.in_ok-extend_from_slice.ensures.items
    ∙ lines_more file m c.args.first.items c.loop-index.report.items c.as_bytes.result.now n
    (c.depth-depth.result - 1 - n) (ap (λ d. d - 1 - n) c.depth-depth.ensures.depth) c.loop-index.invariant
    (c.as_bytes.ensures.value ∙ c.in_ok-line.ensures)

pub returns : goal.returns
returns c =
    let at : c.loop-index.index ≡ c.min-index-end.result =
    omega (arith, c.loop-index.auto.index-end, c.loop-index-test.false) in
    c.in_ok-extend_from_slice-2.ensures.items
    ∙ all_lines c.args.file.now c.args.machine.now c.args.first.items c.loop-index.report.items c.as_bytes-2.result.now
    c.loop-index.index c.saturating_sub.result
    (at ∙ c.min-index-end.ensures ∙ ap (λ d. min d told_frames) c.depth-depth.ensures.depth)
    (c.saturating_sub.ensures ∙ ap (λ d. d - told_frames) c.depth-depth.ensures.depth) c.loop-index.invariant
    (c.as_bytes-2.ensures.value ∙ c.in_ok-more.ensures)
