-- Each step of a queue keeps its rule; for the functions of `channels`, `ends`, `event_ends` and others.
pub mod Delivered
-- Where an order is refused, enough were pushed to fill the queue; for `offer`.
pub mod Filling
-- A list that grew at its end by one more; for `read_loop` and `write_loop`.
pub mod Growing
-- What was read and sent so far, turn by turn; for `read_loop`.
pub mod ReadSoFar
-- What reads of a source returned, and what of it is an event; for `read_event`.
pub mod FromSource
-- What each sender put and what was taken, as plain data; for the functions of `event_ends`, `events`, `frame_ends` and
-- others.
pub mod Sending
-- What was taken and written so far, turn by turn; for `write_loop`.
pub mod WrittenSoFar
-- The ends of the queues may go to another thread, as events and orders may; for whoever starts threads with these ends
-- (`serve` of `adapter`).
pub mod Crossing
-- Frames that are written together, and those that are kept; for the functions of `bundling` and `frames`.
mod Bundles
