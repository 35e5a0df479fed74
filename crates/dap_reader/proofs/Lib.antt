-- Each step of the queue keeps its rule; for the functions of `queue`, `sender` and `arrivals`.
pub mod Delivered
-- A conversation over an inbox is one over what is known of it; for the session's task.
pub mod Arriving
-- The sending end may go to another thread; for `serve_worker_input`.
pub mod Crossing
