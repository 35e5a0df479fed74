-- What public contracts cite.
-- the command line, and what it asks for
pub mod Arguments
-- what a run writes, and how it ends
pub mod Running
-- the program of a text
pub mod Loading
-- what is drawn of a machine
pub mod Drawing
-- what is told of the instructions of a step
pub mod Instructing
-- what a trace tells of a position
pub mod Tracing
-- what is told of a fault
pub mod Faulting
-- bytes that are still to be written
pub mod Pending
-- what is written of a trace, and how it ends
pub mod Traced
-- how commands end
pub mod Reporting
-- what each command tells of a text
pub mod Commands
-- what the program does with its arguments
pub mod Executing
