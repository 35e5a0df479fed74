-- the names of the commands
pub mod Commands
-- how a session stands
pub mod Standings
-- the events that tell of a run
pub mod Telling
-- how a program is started, goes on, is paused and ended
pub mod Running
-- what questions show
pub mod Inspecting
-- which breakpoints are set
pub mod Breakpoints
-- when a launch loads a program
pub mod Loading
-- what is replied to each command
pub mod Replies
-- what holds of each session
pub mod Laws
-- what is promised of a conversation: the contracts of `serve_language` and `serve_language_inbox`
pub mod Serving
-- what holds of a whole conversation
pub mod Sums
-- worked examples: commands, modes, events, hit conditions, identifiers and references
pub mod WorkedDebugger
-- worked examples: what requests ask for by the names of their arguments
pub mod WorkedRequests
