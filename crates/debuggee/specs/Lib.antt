-- steps, breakpoints and outputs as data without addresses
pub mod Plain
-- what is due in a state
pub mod Due
-- where a run halts, and what is told: the contract of `run`
pub mod Runs
-- marks of places, for private contracts
pub mod Marks
-- worked examples
pub mod WorkedRuns
-- runs, one after another
pub mod Laws
-- frames, scopes and variables as data without addresses
pub mod Shown
