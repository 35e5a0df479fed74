-- Defines what an inbox has taken, by how many receives, from which queue, and for which session.
use Rattle.std.specs.Prelude.{ℕ}
use Rattle.atomic_table.specs.declared.badge.Badge.{Badge}
use Rattle.atomic_table.specs.Seated.{TableId}
use Rattle.byte_streams.specs.Streams.{Supply}
use Rattle.crossbeam_channel.specs.Claims.{view}
use Rattle.crossbeam_channel.specs.declared.flavors.array.Key.{Key}
use Rattle.dap_server.specs.declared.inbox.Item.{Item}
use Rattle.dap_reader.specs.Delivery.{through, receives}
use Rattle.dap_reader.specs.declared.arrivals.Arrivals.{Arrivals}
use Rattle.dap_reader.specs.declared.arrivals.TakenLog.{TakenLog}

-- what reads of the input gave of which the inbox has given all
abbrev pub taken : {W O : Type 0} → Arrivals W O → Supply
taken inbox = through (view inbox.pass)

-- how many items it has received of the thread that reads
abbrev pub received : {W O : Type 0} → Arrivals W O → ℕ
received inbox = receives (view inbox.pass)

-- the identity of a queue, which is the same at both of its ends
abbrev pub QueueId : Type 0
QueueId = TableId × Badge (Key Item)

-- the queue from which the inbox takes
abbrev pub queue : {W O : Type 0} → Arrivals W O → QueueId
queue inbox = (inbox.pass.table_id, inbox.pass.me.0.of)

-- what was taken, the worker and the output as they were when the inbox had given nothing yet
abbrev pub begun : {W O : Type 0} → Arrivals W O → Supply × W × O
begun inbox = (through (view inbox.first.value), inbox.worker.value, inbox.output.value)

-- what no item changes of an inbox
abbrev pub origin : {W O : Type 0} → Arrivals W O → QueueId × (Supply × W × O)
origin inbox = (queue inbox, begun inbox)

-- what an inbox had taken that is left, and from which queue
abbrev pub taken_at_last : TakenLog → Supply
taken_at_last log = through (view log.pass)

abbrev pub left_queue : TakenLog → QueueId
left_queue log = (log.pass.table_id, log.pass.me.0.of)
