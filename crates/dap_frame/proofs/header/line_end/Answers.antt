use Rattle.dap_frame.proofs.Common.{arith, length-drop, take_rest, ◌+◌}
use Rattle.dap_frame.proofs.Ends.{no_end_more, no_end_to_end, no_end_at, feed_at, first_end}
use Rattle.dap_frame.proofs.header.line_end.Goals as goal
use Rattle.dap_frame.proofs.header.line_end.Goals.{else-judged-feed-via-then-judged-feed+else-bytes-feed-eq13, else-judged-feed-via-else-judged-feed}

pub returns-then-bytes-feed-eq13-clause-found : goal.returns-then-bytes-feed-eq13-clause-found
returns-then-bytes-feed-eq13-clause-found c =
    let bytes = c.args.bytes.now in
    let from = c.loop-found.from in
    let at = rw (take_rest bytes from) at c.in-Some.ensures in
    first_end bytes c.args.judged (from + c.in-Some.found) c.if-judged-feed.true
    (omega (arith, at.0.high, length-drop from bytes))
    (no_end_more bytes c.args.judged from c.in-Some.found c.loop-found.invariant.no_end at.0.before)
    c.if-bytes-feed-eq13.true (feed_at bytes from c.in-Some.found at.1)

pub loop-found-preserved : goal.loop-found-preserved
loop-found-preserved c =
    let bytes = c.args.bytes.now in
    let from = c.loop-found.from in
    let at = rw (take_rest bytes from) at c.in-Some.ensures in
    let before = no_end_more bytes c.args.judged from c.in-Some.found c.loop-found.invariant.no_end at.0.before in
    record {
      there = omega (arith, at.0.high, length-drop from bytes);
      no_end = no_end_at bytes c.args.judged (from + c.in-Some.found) before (λ low cr. elim c.else-judged-feed.branch [
        | else-judged-feed-via-then-judged-feed+else-bytes-feed-eq13 w ↦ w.if-bytes-feed-eq13.false cr
        | else-judged-feed-via-else-judged-feed w ↦ let h = w.if-judged-feed.false in omega (arith, h, low)
      ]);
    }

pub returns-clause-none : goal.returns-clause-none
returns-clause-none c =
    no_end_to_end c.args.bytes.now c.args.judged c.loop-found.from c.loop-found.invariant.there
    c.loop-found.invariant.no_end (rw (take_rest c.args.bytes.now c.loop-found.from) at c.in_default.ensures)
