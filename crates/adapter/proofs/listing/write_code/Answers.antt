use Rattle.std.proofs.Common.{slice_get}
use Rattle.adapter.specs.Listing.{instruction_line, begun_by}
use Rattle.adapter.proofs.ListingLines.{lines_next, lines_end}
use Rattle.adapter.proofs.listing.write_code.Goals as goal

pub loop-number-preserved : goal.loop-number-preserved
loop-number-preserved c =
    lines_next (λ n i. instruction_line n i (begun_by (slice_get c.args.begun.now n))) c.args.code.now
    c.loop-number.number _ _ _ _ c.loop-number-test.true
    (rw c.step_begun.ensures at c.in_ok-write_instruction.ensures) c.loop-number.invariant

pub returns : goal.returns
returns c =
    lines_end (λ n i. instruction_line n i (begun_by (slice_get c.args.begun.now n))) c.args.code.now
    c.loop-number.number _ _ c.loop-number-test.false c.loop-number.invariant
