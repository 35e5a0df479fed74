-- What public contracts cite.
-- the messages of log points
pub mod Messages
-- breakpoints as data
pub mod Breakpoints
-- breakpoints in the order asked
pub mod Plans
-- expressions whose names were looked up: those of a plan, by `IsPlanOf`, on which no promise rests
pub mod Bound
-- what a condition's text reads as
pub mod ReadsAs
-- what the lines that an editor asks for are resolved to
pub mod Resolutions
-- when a position is due
pub mod Due
-- the positions of checkpoints
pub mod Trail
-- what a position logs
pub mod Logs
-- what contracts see of a debuggee
pub mod Debugged
-- one step of a debuggee
pub mod Advances
-- many steps at once
pub mod Running
-- what an evaluation returns
pub mod Values
-- where going back leads
pub mod Retreat
-- two texts; what breakpoints do in their runs, and what these runs are, worked by computation
pub mod WorkedText
pub mod WorkedPlans
pub mod WorkedRuns
-- what some texts of an editor read as
pub mod WorkedReadings
-- What only proofs and inner contracts cite.
-- what is known when a line is resolved
pub mod Resolving
-- what a fault says of a text that is no message
pub mod MessageFaults
-- what the machine is asked for a condition
pub mod Comparisons
-- how a plan's table stands for its breakpoints
pub mod Table
-- how a log's fields stand for it
pub mod LogFields
-- how the room for logs stands for the logs
pub mod LogRoom
-- how arrivals are counted
pub mod Counting
-- how a debuggee's fields stand for it
pub mod Counts
-- what evaluations and look-ups promise
pub mod Reads
-- how quiet steps are taken
pub mod Quiet
-- checkpoints
pub mod Kept
-- how a trail's fields stand for it
pub mod KeptFields
