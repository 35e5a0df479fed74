-- Public contracts cite the modules up to `Laws`.
-- an event as plain data
pub mod Incoming
-- what the ports have done so far
pub mod Ports
-- what the log of a loader shows
pub mod Loads
-- which part of a history was sent
pub mod Sending
-- what a session keeps
pub mod State
-- what one event leads to
pub mod Taking
-- what a whole session sends
pub mod Serving
-- what holds of all that a session sends
pub mod Laws
-- Only private contracts cite the others.
-- the result of sending one step
pub mod Steps
-- how far a session came, by the parts of an event
pub mod Handling
-- the results of building frames, pushing an order and putting frames
pub mod Building
-- where the next event comes from
pub mod Coming
