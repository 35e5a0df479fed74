use Rattle.std.proofs.Common.{◌≡◌, ◌++◌, map}
use Rattle.debuggee.specs.Plain.{plain_output}
use Rattle.dap_debug.specs.Telling.{merged}
use Rattle.dap_debug.proofs.telling.merged.Given as goal

abbrev pub invariant-loop-one : goal.invariant-loop-one
invariant-loop-one l =
    goal.iterator-loop-one.can_next l.one-iterator ×
    goal.iterator-loop-one.is_finite l.one-iterator ×
    (map plain_output l.texts.items ≡ merged (map plain_output l.yielded)) ×
    (l.yielded ++ l.one-iterator.rest.items ≡ l.fn.told.items)
