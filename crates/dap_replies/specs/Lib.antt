-- Public contracts cite the first four modules.
-- the run that the runner has
pub mod Runs
-- which histories a phase represents
pub mod Phases
-- the contract of the functions that handle an item
pub mod Replied
-- the laws of phases and of quiet reports
pub mod Laws
-- Only private contracts cite the others.
-- what the fields of a run mean
pub mod RunFields
-- what a reaction is in a phase, and what it is to carry it out
pub mod Choosing
-- replies after which the phase is as before
pub mod Answering
-- how the program goes on, stops or ends after an answer
pub mod Going
-- what follows a launch whose file is a program without faults
pub mod Launched
-- what follows a report
pub mod Reporting
-- what the lines of `setBreakpoints` are answered with
pub mod Lines
