-- What public contracts cite.
-- What a call of `serve` reads and writes.
pub mod Serving
-- The laws of a call of `serve`.
pub mod Laws
-- What is answered where the input ends or a read fails.
pub mod AllRead
-- What is answered up to a `disconnect`, or up to a framing fault.
pub mod UpTo
-- What the output took, however serving ended.
pub mod Written
-- What holds where all threads wait.
pub mod Waiting
-- The same of the ends of the queues.
pub mod WaitingEnds
-- The exit status and the last line on standard error.
pub mod ExitReasons
-- Each status, last line and number, as examples.
pub mod WorkedExits
-- What the arguments ask for.
pub mod Arguments
-- The text of a listing.
pub mod Listing
-- How the check of a program text ends.
pub mod Checking
-- What a loader of files answers.
pub mod Loading
-- What the program does with its arguments, and how it ends.
pub mod Running
-- What private contracts cite.
-- How a task ends that is given to a thread.
pub mod Tasks
-- What the threads of the reader and the session leave when they end.
pub mod ThreadTasks
