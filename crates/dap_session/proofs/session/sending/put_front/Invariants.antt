use Rattle.std.proofs.Common.{◌≡◌, ◌++◌}
use Rattle.dap_session.specs.Building.{plain_frames}
use Rattle.dap_session.proofs.session.sending.put_front.Given as goal

abbrev pub invariant-loop-frame : goal.invariant-loop-frame
invariant-loop-frame g l =
    (goal.iterator-loop-frame g).can_next l.frame-iterator ×
    (goal.iterator-loop-frame g).is_finite l.frame-iterator ×
    ((g.O.Out.seen l.out).frames ≡ (g.O.Out.seen l.initial.out).frames ++ plain_frames l.yielded) ×
    ((g.O.Out.seen l.out).refused ≡ (g.O.Out.seen l.initial.out).refused) ×
    (l.yielded ++ l.frame-iterator.rest.items ≡ l.fn.frames.items) ×
    (g.O.Out.origin l.out ≡ g.O.Out.origin l.initial.out)
