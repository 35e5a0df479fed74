use Rattle.std.proofs.Common.{◌≡◌, ◌++◌, map}
use Rattle.dap_server.specs.Messages.{plain_event}
use Rattle.debuggee.specs.Plain.{plain_output}
use Rattle.dap_debug.specs.Telling.{TellAll}
use Rattle.dap_debug.proofs.telling.events_of.Given as goal

abbrev pub invariant-loop-one : goal.invariant-loop-one
invariant-loop-one l =
    goal.iterator-loop-one.can_next l.one-iterator ×
    goal.iterator-loop-one.is_finite l.one-iterator ×
    TellAll (map plain_output l.yielded) (map plain_event l.events.items) ×
    (l.yielded ++ l.one-iterator.rest.items ≡ l.fn.texts.items)
