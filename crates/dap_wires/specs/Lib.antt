-- What public contracts cite.
-- What a read of an input yields.
pub mod Transfer
-- The rule of a queue.
pub mod Delivery
-- The ends of a queue: the log, the queue, and its room.
pub mod Ends
-- How much each queue has room for.
pub mod Rooms
-- What stands in an inbox, and who sends it.
pub mod Senders
-- What went through an inbox.
pub mod Inbox
-- The frames and the end among messages to a writer.
pub mod WriterMessages
-- What went through an outbox.
pub mod Outbox
-- What a full queue of orders tells of the whole run.
pub mod Full
-- What went through a queue of orders.
pub mod Orders
-- What a reader has read and sent when it ends.
pub mod Reading
-- What a writer has taken and written when it ends.
pub mod Writing
-- What is known of all queues before anything went through them.
pub mod Wires
