-- Defines what was sent to an inbox.
use Rattle.byte_streams.specs.Streams.{Supply}
use Rattle.crossbeam_channel.specs.Claims.{view}
use Rattle.dap_reader.specs.Delivery.{through}
use Rattle.dap_reader.specs.Taken.{QueueId}
use Rattle.dap_reader.specs.declared.sender.ItemSender.{ItemSender}

-- what reads of the input gave of which all was sent
abbrev pub sent : ItemSender → Supply
sent end = through (view end.pass)

-- the queue through which it is sent
abbrev pub sender_queue : ItemSender → QueueId
sender_queue end = (end.pass.table_id, end.pass.me.0.of)
