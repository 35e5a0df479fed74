-- What several of the other files import, from one place.
pub mod Common
-- lines that are written in blocks
pub mod PendingBytes
-- what a run of a machine writes
pub mod RunLines
-- what a trace tells
pub mod TracedRows
-- what is told of a step's instructions, one by one
pub mod ToldInstructions
-- the tables of a unit, as a trace reads them
pub mod TracedFrames
-- where frames begin, as a drawing adds it up
pub mod DrawnCells
-- what is told of a fault, line by line
pub mod FaultLines
-- what commands tell, from what their parts told
pub mod CommandTells
-- the command line that the calls of clap make, and its options' numbers
mod CommandLine
-- what was done with files, one after another
pub mod FilesDone
