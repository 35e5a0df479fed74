use Rattle.pl0_tree.specs.Plain.{plain_block}
use Rattle.adapter.proofs.ListingLines.{listing_whole}
use Rattle.adapter.proofs.listing.listing.Goals as goal

pub returns : goal.returns
returns c =
    let u = c.args.unit.now in
    let steps = rw c.as_slice.ensures.value at c.in_ok-write_steps.ensures in
    let code = rw c.as_slice-2.ensures.value at c.in_ok-write_code.ensures in
    listing_whole (plain_block u.tree.program) u.code.items u.begun_steps.items _ u.steps.items _ _ _ _ u.compiled
    c.new-text.ensures.bytes
    steps c.in_ok-push_str.ensures.bytes code c.as_slice-3.ensures.value
