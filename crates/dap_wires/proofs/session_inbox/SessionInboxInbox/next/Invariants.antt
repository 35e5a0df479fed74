use Rattle.std.proofs.Common.{◌≡◌}
use Rattle.dap_wires.specs.Inbox.{taken_events, event_queue}
use Rattle.dap_wires.proofs.session_inbox.SessionInboxInbox.next.Given as goal

abbrev pub invariant-loop : goal.invariant-loop
invariant-loop g l =
    (taken_events l.events ≡ taken_events l.initial.events) × (event_queue l.events ≡ event_queue l.initial.events)
