use Rattle.std.proofs.Common.{◌≡◌, ◌++◌, ◌≤◌, map}
use Rattle.serde_json.specs.View.{view}
use Rattle.dap_bodies.specs.Sizes.{fitting, list_limit}
use Rattle.dap_bodies.proofs.values.list_of.Given as goal

abbrev pub invariant-loop-one : goal.invariant-loop-one
invariant-loop-one g l =
    (goal.iterator-loop-one g).can_next l.one-iterator ×
    (goal.iterator-loop-one g).is_finite l.one-iterator ×
    (map view l.values.items ++ fitting l.room (map g.T.Shown.shown l.one-iterator.rest.items)
    ≡ fitting list_limit (map g.T.Shown.shown l.fn.all.items)) ×
    (l.room ≤ list_limit)
