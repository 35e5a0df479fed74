use Rattle.adapter.specs.Listing.{step_line}
use Rattle.adapter.proofs.ListingLines.{lines_next, lines_end}
use Rattle.adapter.proofs.listing.write_steps.Goals as goal

pub loop-number-preserved : goal.loop-number-preserved
loop-number-preserved c =
    lines_next (λ n s. step_line n s.kind s.place) c.args.steps.now c.loop-number.number _ _ _ _ c.loop-number-test.true
    c.in_ok-write_step.ensures c.loop-number.invariant

pub returns : goal.returns
returns c =
    lines_end (λ n s. step_line n s.kind s.place) c.args.steps.now c.loop-number.number _ _ c.loop-number-test.false
    c.loop-number.invariant
