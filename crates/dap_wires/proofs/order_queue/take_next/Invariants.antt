use Rattle.std.proofs.Common.{◌≡◌, true, map}
use Rattle.std.specs.Arc.{arc_value}
use Rattle.crossbeam_queue.specs.Passes.{view, IsPassOf}
use Rattle.dbg_runner.specs.Orders.{plain_order}
use Rattle.dap_wires.proofs.order_queue.take_next.Given as goal

abbrev pub invariant-loop : goal.invariant-loop
invariant-loop g l =
    IsPassOf (arc_value l.queue) l.pass × ((view l.pass).takes ≡ true) × (l.pass.table_id ≡ l.initial.pass.table_id)
    × ((view l.pass).second ≡ (view l.initial.pass).second)
    × (map plain_order (view l.pass).taken ≡ map plain_order (view l.initial.pass).taken)
