-- The ends of the queues may go to another thread, as events and orders may. A search that goes down through what these
-- own would break off.
use denote.RattleType.{RattleType}
use denote.Param.Send.{IsSend, IsSync, sendable}
use Rattle.std.proofs.Crossing.{crosses, send, sync, frees}
use Rattle.atomic_table.proofs.shared.Seat.TheSendSync as seat
use Rattle.crossbeam_queue.proofs.array_queue.Slotted.TheSendSync as slotted
use Rattle.crossbeam_utils.proofs.sync.parker.RuledParker.TheSendSync as parker
use Rattle.dbg_runner.proofs.Crossing.{report_send, order_send}
use Rattle.dbg_runner.proofs.ghost_list.GhostList.TheSendSync as history
use Rattle.dap_session.specs.contracts.ports.Event as Event
use Rattle.dap_wires.proofs.ends.SendEnd.TheSendSync as send_end
use Rattle.dap_wires.specs.contracts.arrival.Arrival as Arrival
use Rattle.dap_wires.specs.contracts.event_ends.ClientSender as ClientSender
use Rattle.dap_wires.specs.contracts.event_ends.ReportSender as ReportSender
use Rattle.dap_wires.specs.contracts.order_ends.OrderReceiver as OrderReceiver
use Rattle.dap_wires.specs.contracts.window.Window as Window
use Rattle.dap_wires.specs.contracts.window.WindowEntry as WindowEntry

event_send : IsSend Event.the_row
event_send = let a = report_send in search (crosses, sendable) depth 60 fits 20000

arrival_send : IsSend Arrival.the_row
arrival_send = let a = event_send in let b = report_send in search (crosses, sendable) depth 60 fits 20000

window_send : IsSend Window.the_row
window_send = search (crosses, sendable) depth 60 fits 20000

window_sync : IsSync Window.the_row
window_sync = search (crosses, sendable) depth 60 fits 20000

entry_send : IsSend (WindowEntry.the_field).row
entry_send =
    let a = window_send in let b = window_sync in let c = frees in let d = send in let e = sync in
    search (parker.the_field_send, crosses, sendable) depth 60 fits 20000

module _ (R : RattleType) where
  pub client_sender_field_send : IsSend R → IsSend (ClientSender.the_field R).row
  client_sender_field_send r = let a = arrival_send in search (send_end.the_field_send, sendable) depth 60 fits 20000

  pub report_sender_field_send : IsSend R → IsSend (ReportSender.the_field R).row
  report_sender_field_send r =
      let a = arrival_send in let b = report_send in let c = entry_send in search
      (send_end.the_field_send, history.the_send, crosses, sendable) depth 60 fits 20000

  pub order_receiver_field_send : IsSend R → IsSend (OrderReceiver.the_field R).row
  order_receiver_field_send r =
      let a = order_send in let b = frees in let c = send in let d = sync in
      search (seat.the_send, slotted.the_field_send, slotted.the_field_sync, parker.the_field_send, crosses, sendable)
      depth 60 fits 20000
