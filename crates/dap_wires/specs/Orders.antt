-- Defines what went through a queue of orders, as plain data.
use Rattle.std.specs.Prelude.{◌≡◌, List, length, map, ◌++◌}
use Rattle.atomic_table.specs.Seated.{TableId}
use Rattle.crossbeam_queue.specs.Passes.{view}
use Rattle.dbg_runner.specs.declared.order.Order.{Order}
use Rattle.dbg_runner.specs.Orders.{plain_order}
use Rattle.dbg_runner.specs.Plain.{PlainOrder}
use Rattle.dap_session.specs.Ports.{PushedOrders}
use Rattle.dap_wires.specs.declared.order_ends.OrderSender.{OrderSender}
use Rattle.dap_wires.specs.declared.order_ends.OrderReceiver.{OrderReceiver}
use Rattle.dap_wires.specs.Rooms.{orders_room}
pub use Rattle.dap_wires.specs.Full.{EnoughWerePushed}

module _ {R : Type 0} where
  -- the orders that the session pushed, and how often it found the queue full; the runner is never gone
  abbrev pub pushed_orders : OrderSender R → PushedOrders
  pushed_orders e =
      record { orders = map plain_order (view e.pass).put_first; fulls = length e.fulls.entries; refusals = 0 }

  -- as many orders that were pushed as the queue has room for were inside together
  pub record WasFull (e : OrderSender R) : Type 0 where
    pub taken : List Order
    pub inside : List Order
    pub pushed_are : (view e.pass).put_first ≡ taken ++ inside
    pub full : length inside ≡ orders_room

  -- the orders that the runner took
  abbrev pub taken_orders : OrderReceiver R → List PlainOrder
  taken_orders e = map plain_order (view e.pass).taken

  -- which queue an end belongs to
  abbrev pub push_queue : OrderSender R → TableId
  push_queue e = e.pass.table_id

  abbrev pub pop_queue : OrderReceiver R → TableId
  pop_queue e = e.pass.table_id
