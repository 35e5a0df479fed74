-- Lines that are written one after another make the whole listing; for `listing`, `write_code` and `write_steps`.
pub mod ListingLines
-- A command with no subcommand is refused for one reason at most; for `parse_arguments`.
mod ArgumentKinds
-- What each thread knows at its end gives together what `serve` promises; for `serve` and `serving_laws`.
mod Gathered
-- Whether the session was driven or not, what the four know gives together what `serve` promises; for `serve`.
mod Together
-- How much of the input a session took, by what closed it; for the clauses `input`, `disconnect` and `answered` of
-- `serving_laws`.
mod InputTaken
-- All that was read is answered, where the input's end or a failed read closed the session; for the clause `answered`
-- of `serving_laws`.
mod AllRead
-- A framing fault that ended a session stands in front of what wasn't taken; for the clause `fault` of `serving_laws`.
mod FaultStands
-- What was read up to a `disconnect` or a framing fault is answered; for the clauses `disconnected` and `fault` of
-- `serving_laws`.
mod UpTo
-- `serve` never reports that its runner or its writer is gone, and `OrdersFull` only where enough orders were pushed to
-- fill their queue; for the clauses `gone`, `full` and `fault` of `serving_laws`.
mod SessionFaults
-- Where all wait, nothing is left; for the clause `waiting` of `serving_laws`.
mod Waiting
-- The same of the ends of the queues; for the clause `ends`.
mod WaitingEnds
-- What was loaded grows by one file at a time; for `FileLoader`.
mod Loaded
-- What was written is of one history of what was read; for the clause `written` of `serving_laws`.
mod Written
-- Which runs the runner reports, by the number of the run that it took last; for `serving_laws`.
mod RunNumbers
-- Each run has one last report, unless it was cut short; for the clause `runs` of `serving_laws`.
mod RunsEnd
-- The tasks of the writer, the reader and the runner, and what the last two return, may go to another thread; for
-- `serve`.
mod Crossing
