-- Defines what contracts say of the ends of a queue: the log, the queue, and its room.
use Rattle.std.specs.Prelude.{ℕ}
use Rattle.atomic_table.specs.declared.badge.Badge.{Badge}
use Rattle.atomic_table.specs.Seated.{TableId}
use Rattle.crossbeam_channel.specs.declared.flavors.array.Key.{Key}
use Rattle.crossbeam_channel.specs.Claims.{view}
use Rattle.crossbeam_channel.specs.Ends.{sends_on, receives_on, ruled_capacity}
use Rattle.dap_wires.specs.declared.end_log.EndLog.{EndLog}
use Rattle.dap_wires.specs.declared.ends.SendEnd.{SendEnd}
use Rattle.dap_wires.specs.declared.ends.ReceiveEnd.{ReceiveEnd}
use Rattle.dap_wires.specs.declared.ends.ReceiveLog.{ReceiveLog}

-- the identity of a queue, which is the same at all of its ends
abbrev pub QueueId : Type 0 → Type 0
QueueId M = TableId × Badge (Key M)

module _ {M R : Type 0} where
  -- what was done at an end
  abbrev pub sender_log : SendEnd M R → EndLog M
  sender_log e = view e.pass

  abbrev pub receiver_log : ReceiveEnd M R → EndLog M
  receiver_log e = view e.pass

  -- which queue an end belongs to
  abbrev pub sender_queue : SendEnd M R → QueueId M
  sender_queue e = (e.pass.table_id, e.pass.me.0.of)

  abbrev pub receiver_queue : ReceiveEnd M R → QueueId M
  receiver_queue e = (e.pass.table_id, e.pass.me.0.of)

  -- how many messages the queue of an end has room for
  abbrev pub sender_room : SendEnd M R → ℕ
  sender_room e = ruled_capacity (sends_on e.sender)

  abbrev pub receiver_room : ReceiveEnd M R → ℕ
  receiver_room e = ruled_capacity (receives_on e.receiver)

module _ {M : Type 0} where
  -- the log of an end that its receiver has left, and which queue it belongs to
  abbrev pub receive_log : ReceiveLog M → EndLog M
  receive_log r = view r.pass

  abbrev pub receive_log_queue : ReceiveLog M → QueueId M
  receive_log_queue r = (r.pass.table_id, r.pass.me.0.of)
