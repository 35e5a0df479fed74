use Rattle.dap_frame.proofs.Common.{arith, IsReadOut, length, subst, ◌+◌, ◌≤◌}
use Rattle.dap_frame.proofs.Frames.{frame_here, short_here}
use Rattle.dap_frame.proofs.front.front_of.Goals as goal

pub returns-then-rest-end-clause-none : goal.returns-then-rest-end-clause-none
returns-then-rest-end-clause-none c =
    let is = subst (λ h. IsReadOut h c.args.rest.now) c.in-Whole.is c.requires in
    short_here c.args.rest.now c.in-Whole.size c.in-Whole.content_len is.1 is.0 c.if-rest-end.true

pub returns-else-rest-end-clause-found : goal.returns-else-rest-end-clause-found
returns-else-rest-end-clause-found c =
    let is = subst (λ h. IsReadOut h c.args.rest.now) c.in-Whole.is c.requires in
    let there : c.in-Whole.size + c.in-Whole.content_len ≤ length c.args.rest.now = c.if-rest-end.false in
    record {
      in_order = omega arith;
      there = there;
      frame = frame_here c.args.rest.now c.in-Whole.size c.in-Whole.content_len is.1 there;
    }
