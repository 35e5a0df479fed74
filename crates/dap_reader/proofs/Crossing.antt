-- The sending end may go to another thread, as items may. A search that goes down through what it owns would break off.
use mathlib.Core.List.{[], ◌∷◌}
use denote.RattleType.{RattleType}
use denote.Ref.{NamedLft, MutRef}
use denote.Struct.Tuple.{Tuple}
use denote.Param.Send.{IsSend, sendable}
use Rattle.std.proofs.Crossing.{crosses, send, sync, frees}
use Rattle.std.proofs.MapsCrossing as maps
use Rattle.atomic_table.proofs.badge.Badge.TheSendSync as badge
use Rattle.atomic_table.proofs.send_lease.SendLease.TheSendSync as lease
use Rattle.atomic_table.proofs.shared.Seat.TheSendSync as seat
use Rattle.atomic_table.proofs.shared.Shared.TheSendSync as shared
use Rattle.serde_json.proofs.value.Value.TheLaws.TheKnot as value
use Rattle.dap_server.specs.contracts.inbox.Item as Item
use Rattle.dap_server.specs.contracts.reply.Event as Event
use Rattle.dap_reader.specs.contracts.serving.ReaderTask as ReaderTask
use Rattle.dap_reader.specs.contracts.sender.ItemSender as ItemSender

event_send : IsSend (Event.the_field).row
event_send = search (crosses, maps.crosses, value.crosses, sendable) depth 60 fits 20000

item_send : IsSend Item.the_row
item_send = let a = event_send in search (crosses, sendable) depth 60 fits 20000

item_sender_send : IsSend ItemSender.the_row
item_sender_send =
    let a = item_send in let b = frees in let c = send in let d = sync in
    search (
      badge.the_send,
      lease.the_send,
      lease.the_sync,
      shared.the_send,
      shared.the_sync,
      seat.the_send,
      crosses,
      sendable,
    ) depth 60 fits 20000

-- ---- the reader of an input that is lent

item_sender_field_send : IsSend (ItemSender.the_field).row
item_sender_field_send =
    let a = item_send in let b = frees in let c = send in let d = sync in
    search (
      badge.the_send,
      lease.the_send,
      lease.the_sync,
      shared.the_send,
      shared.the_sync,
      seat.the_send,
      crosses,
      sendable,
    ) depth 60 fits 20000

pub reader_task_send : (α : NamedLft) (I R : RattleType) → IsSend I → IsSend R → IsSend (ReaderTask.the_row α I R)
reader_task_send α I R i r = let a = item_sender_field_send in search (crosses, sendable) depth 60 fits 20000

pub reader_output_send : (α : NamedLft) (I : RattleType) → IsSend I
    → IsSend (Tuple (MutRef α.mir α.lft I ∷ ItemSender.the_row ∷ []))
reader_output_send α I i = let a = item_sender_send in search (crosses, sendable) depth 60 fits 20000
