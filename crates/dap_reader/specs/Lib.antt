-- What public contracts cite.
-- What is promised of a conversation over an input that a thread reads.
pub mod Serving
-- What private contracts cite.
-- What an inbox has taken.
pub mod Taken
-- The rule of the queue.
pub mod Delivery
-- What was sent to an inbox.
pub mod Sent
