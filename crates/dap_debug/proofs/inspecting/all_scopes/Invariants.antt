use Rattle.std.proofs.Common.{◌≡◌, ◌++◌, length, map}
use Rattle.dap_bodies.specs.Bodies.{plain_shown_scope}
use Rattle.std.specs.Prelude.{string_bytes}
use Rattle.dap_debug.specs.Inspecting.{shown_scopes}
use Rattle.dap_debug.proofs.inspecting.all_scopes.Given as goal

abbrev pub invariant-loop-one : goal.invariant-loop-one
invariant-loop-one l =
    goal.iterator-loop-one.can_next l.one-iterator ×
    goal.iterator-loop-one.is_finite l.one-iterator ×
    (map plain_shown_scope l.shown.items ≡ shown_scopes l.frame 0 (map string_bytes l.yielded)) ×
    (l.yielded ++ l.one-iterator.rest.items ≡ l.fn.names.items) ×
    (l.index ≡ length l.yielded)
