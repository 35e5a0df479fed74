use Rattle.std.proofs.Common.{◌≡◌, ◌++◌, map}
use Rattle.dap_bodies.specs.Bodies.{plain_shown_variable}
use Rattle.dap_debug.specs.Inspecting.{shown_variable}
use Rattle.debuggee.specs.Shown.{plain_variable}
use Rattle.dap_debug.proofs.inspecting.all_variables.Given as goal

abbrev pub invariant-loop-variable : goal.invariant-loop-variable
invariant-loop-variable l =
    goal.iterator-loop-variable.can_next l.variable-iterator ×
    goal.iterator-loop-variable.is_finite l.variable-iterator ×
    (map plain_shown_variable l.shown.items ≡ map shown_variable (map plain_variable l.yielded)) ×
    (l.yielded ++ l.variable-iterator.rest.items ≡ l.fn.variables.items)
