-- The definitions that the laws and the contracts of a session cite, in reading order: they are what a reader must
-- believe.

-- the last element of a kind in a list
pub mod Last
-- a plan in force
pub mod Plans
-- the items that a session has taken, and what each caused
pub mod History
-- the readings of a history, by which a session acts
pub mod Readings
-- what a command is answered with and causes
pub mod Replies
-- `launch`
pub mod Launching
-- `setBreakpoints`
pub mod Breakpoints
-- which runs the commands that start, resume and go back order
pub mod Running
-- what a client is shown of a configuration
pub mod Frames
-- the questions about the program where it stands
pub mod Inspection
-- which reaction a command has, and the reply of each
pub mod Reactions
-- which reports are accepted, and what they cause
pub mod Reports
-- what each item causes
pub mod Emission
-- which items a list of events gives
pub mod Events
-- of what laws speak
pub mod Always
-- which events arise from an inbox and a loader
pub mod Interleaving
-- the frames of the messages
pub mod Output
-- which positions were considered, and what they log
pub mod Considered
-- the laws of what a session sends
pub mod Laws
-- the laws of stops
pub mod Stops
-- where each step leads, and that the situation goes by it
pub mod Transitions
-- the laws of going back
pub mod GoingBack
-- the laws of runs
pub mod Runs
-- the laws of breakpoints
pub mod Lines
-- how each reading changes with one more step
pub mod ReadingLaws
-- which request is refused, and what one that is granted is answered with
pub mod Verdicts
-- the laws of launching
pub mod Loading
-- the laws of what moves the program: the start, pauses, and what each command asks for
pub mod Moves
-- the laws of ends
pub mod Ends
-- which events are taken, as which items, and which item ends a session
pub mod Taken
-- how a session was initialized, and so how its client counts
pub mod Initialized
-- what the lines of `setBreakpoints` are answered with
pub mod LineAnswers
-- what the questions show of the program where it stands
pub mod Shown
-- worked examples of words of other crates
pub mod WorkedWords
-- Worked examples, which no contract cites: what a client is shown of a text with nested procedures, and what each item
-- of some sessions causes.
pub mod WorkedShown
pub mod WorkedSessions
