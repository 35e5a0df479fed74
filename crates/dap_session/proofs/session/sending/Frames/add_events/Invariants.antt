use Rattle.std.proofs.Common.{◌≡◌, ◌++◌, map}
use Rattle.dap_msg.specs.declared.outgoing.Outgoing.TheVariants.{Event}
use Rattle.dap_session.specs.Building.{AddsFrames}
use Rattle.dap_session.proofs.session.sending.Frames.add_events.Given as goal

abbrev pub invariant-loop-event : goal.invariant-loop-event
invariant-loop-event l =
    goal.iterator-loop-event.can_next l.event-iterator ×
    goal.iterator-loop-event.is_finite l.event-iterator ×
    AddsFrames (map Event l.yielded) l.initial.self l.self ×
    (l.yielded ++ l.event-iterator.rest.items ≡ l.fn.events.items)
