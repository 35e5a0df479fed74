-- What several of the other files import, from one place.
pub mod Common
-- How each reading of a history goes on with one more step; for `history_laws`, `reading_laws` and `run_laws`.
pub mod Readings
-- What holds at first and is kept by each item that is taken holds along a history; for `history_laws` and `run_laws`.
pub mod Along
-- Each request is answered once; for the clause `answered` of `history_laws`.
pub mod Answered
-- The message numbered n is the nth; for the clauses `numbered` and `read_back` of `history_laws`.
pub mod Numbered
-- A `disconnect` that is taken is the last item, and its answer the last message; for the clause `last` of
-- `history_laws`.
pub mod Last
-- What numbers and logs say among events, and to which situation a stop leads; for `history_laws` and `run_laws`.
pub mod Told
-- The reply to a question has no effect, so it is that of a reaction; for `history_laws` and `run_laws`.
pub mod Questions
-- No reply reports a number or launches a program but that of a launch, and each Go of a reply is of the launched text;
-- for `history_laws` and `run_laws`.
pub mod Silent
-- What the events and orders of a report say; for `history_laws` and `run_laws`.
pub mod Outputs
-- What a lawful report says, whether its run goes on or back; for `history_laws` and `run_laws`.
pub mod Went
-- In Fresh and Ready nothing is launched: only the first `initialize` leads to Ready; for `history_laws` and
-- `run_laws`.
pub mod Early
-- The numbers reported are those that the program wrote, step by step; for the clause `outputs` of `history_laws`.
pub mod Progress
-- Each step of a history was caused by its item, after the steps before it; for `history_laws` and `run_laws`.
pub mod Each
-- Lemmas on elements of a list after which a function returns nothing more; for `history_laws`.
pub mod AfterStops
-- Before a stop and before a log stand just the numbers written up to it, and before a stop the logs too; for the
-- clauses `order` and `logs_follow` of `history_laws`.
pub mod StopOrder
-- The program stands where it stopped last, and what is asked there is answered from there; for the clause `questions`
-- of `history_laws`.
pub mod Standing
-- A run passes no position that is due, and none was ordered before `configurationDone`; for `history_laws` and
-- `run_laws`.
pub mod Passing
-- Each stop is where the definitions say; for the clause `stops` of `history_laws`.
pub mod Stopping
-- The program is started once, in Configuring; for `history_laws`.
pub mod Started
-- Runs are numbered in order, and what positions yield joins along them; for `history_laws` and `run_laws`.
pub mod Runs
-- Runs are numbered in order, and the last one has come to where the program stands; for `history_laws` and `run_laws`.
pub mod Counted
-- The logs reported are those of the positions considered; for `history_laws`.
pub mod Logged
-- The logs reported are those of the positions considered, step by step; for the clauses `logs` and `stops_follow` of
-- `history_laws`.
pub mod Logging
-- A list of events has one history, where an item has one effect; for the clause `one` of `history_laws`.
pub mod OneHistory
-- A text reads as one program; for `history_laws` and `run_laws`.
pub mod Texts
-- The steps of a text's program stand within as many lines and columns as a text may have bytes; for `history_laws`.
pub mod Places
-- The numbers of a history's messages fit in 64 bits; for `history_laws`.
pub mod Fitting
-- A text reads as one list of parts; for `history_laws`.
pub mod MessageParts
-- A command has one reply, a launch one, and so an item one step; for the clauses `one_effect` and `one` of
-- `history_laws`.
pub mod OneReply
-- The contents taken are those of the joined stream; for the clauses `read_back` and `contents` of `history_laws`.
pub mod Contents
-- How the stream was cut into pieces changes nothing; for the clause `cuts` of `history_laws`.
pub mod Cuts
-- Each run is of the launched text, and starts where the program stands; for the clause `runs` of `history_laws`.
pub mod Starts
-- A session that its input's end or failure closed took that event, and `Quit` is the last order; for the clauses
-- `closed_by`, `quits_last` and `quits` of `history_laws`.
pub mod Closings
-- Which run a reply orders and which plan it puts in, and that it holds no run that goes back; for `history_laws` and
-- `run_laws`.
pub mod Ordered
-- Which run an item orders, and under which plan; for `history_laws` and `run_laws`.
pub mod Ordering
-- A run goes back as asked and is not held, and counts begin anew after it; for the clauses `back`, `anew` and
-- `not_held` of `history_laws`.
pub mod GoingBack
-- The table of reactions read by reactions; for `history_laws` and `run_laws`.
pub mod Reacted
-- A step orders at most one run and reports at most one stop, so what is so of the last is so of each; for
-- `history_laws` and `run_laws`.
pub mod Once
-- A step orders at most one thing; for the clause `once` of `run_laws`.
pub mod OneOrder
-- Each run has the next number, and is in the mode that was asked for; for the clauses `counted` and `asked` of
-- `run_laws`.
pub mod Asked
-- What a report tells the client after its numbers and logs; for the clause `told` of `run_laws`.
pub mod Telling
-- A run is held once, where something waits; for the clauses `held` and `waits` of `run_laws`.
pub mod Holding
-- What a request tells besides its answer, and that each granted run is ordered; for the clauses `ordered`, `onward`
-- and `replies` of `run_laws`.
pub mod Granted
-- Each run is under the breakpoints of the lines that were set last, and counts from where that was; for the clauses
-- `lines`, `counts` and `plan` of `run_laws`.
pub mod Lines
-- Each item that reads no text leads from a history to another; for the clause `leads` of `history_laws`.
pub mod Leading
-- While a session takes items, nothing whole is left unread; for the clause `unread` of `history_laws`.
pub mod Unread
-- Each step leads where the table of transitions says, so the situation is where the steps lead from Fresh; for the
-- clauses `moves` and `situation` of `history_laws`.
pub mod Transitions
-- Each request is judged as the table says, a refusal changes nothing, and other items tell nothing; for the clauses
-- `judged`, `refused` and `others` of `command_laws`.
pub mod Judged
-- A launch launches the program of its file, and no other step launches one; for the clause `launched` of
-- `command_laws`.
pub mod Loading
-- How a history with one more step splits at one of its steps; for the clauses `paused` and `as_asked` of
-- `command_laws`.
pub mod Since
-- A pause that waits stops the program where its run is held; for the clause `paused` of `command_laws`.
pub mod Pauses
-- The program stops at position 0 where it has to; for the clause `first` of `command_laws`.
pub mod FirstStop
-- Each stop of a run is as the command asks by which the program goes, and none is passed; for the clauses `as_asked`
-- and `none_passed` of `command_laws`.
pub mod AsAsked
-- Each event that is an item is taken, nothing is taken that isn't, and which items end a session; for the clauses
-- `taken` and `ends` of `command_laws`.
pub mod Takings
-- A source is at a path just where its path is that one; for `run_laws` and `command_laws`.
pub mod Paths
-- Each line of a granted `setBreakpoints` is answered from the program; for the clause `lines` of `command_laws`.
pub mod LineAnswers
-- What the four questions show is what the program is where it stands; for the clause `shown` of `command_laws`.
pub mod Showing
-- A frame is alive where a report ends, but for the one that says that the program is done; for the clauses `as_asked`
-- of `command_laws` and `over_told` of `run_laws`.
pub mod Alive
-- A program is told to have exited where it has ended, and only there; for the clauses `over` and `over_told` of
-- `run_laws`.
pub mod Ends
-- No item leads nowhere; for the clause `all_lead` of `history_laws`.
pub mod Effects
-- The loader is asked for the path of each launch that waits, and for no other; the events are what inbox and loader
-- returned; for the clauses `loads`, `loaded` and `returned` of `command_laws`.
pub mod Asking
