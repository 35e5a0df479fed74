-- The walk along the breakpoints of a step finds those that are met; for `count_arrivals`.
pub mod Walk
-- What the counts are after a walk along the breakpoints of a step; for the functions of `counting` and
-- `debuggee`.
pub mod Tally
-- A breakpoint that is met stops the program if it has no message, and logs if it has one; for the functions of
-- `counting` and `debuggee`.
pub mod Doings
-- The step at which the program stands is found by its place; for the functions of `counting` and
-- `debuggee`.
pub mod Places
-- What considering one more position does to the counts, and whether that position is due; for the functions of
-- `counting` and `debuggee`.
pub mod Here
-- The counts of a debuggee with a new plan, or with none, are right; for `Debuggee::new`, `Debuggee::recount`,
-- `Debuggee::set_plan` and others.
pub mod Fresh
-- The counts of a debuggee that was considered are right one position further; for `Debuggee::advance`,
-- `Debuggee::run_quietly` and `Debuggee::run`.
pub mod Further
-- A debuggee whose machine took a step is at the next position; for `Debuggee::advance`, `Debuggee::step`,
-- `run_quietly` and others.
pub mod Stepping
-- Two plans have the same table exactly where they have the same breakpoints; for the functions of `plan` and `same`.
pub mod Sameness
-- Two conditions, and two messages, are the same exactly where their texts are; for `same_condition` and
-- `same_message`.
pub mod SameTexts
-- Decimal texts and the numbers of rules that they say; for `number` and `read_rule`.
pub mod HitNumbers
-- A list of breakpoints in the order of their steps is cut into a part for each step; for `starts_of` and others.
pub mod Parts
-- The machine's counters count as the breakpoints do of which they are; for `Plan::new`, `Plan::marks` and
-- `Debuggee::run_quietly`.
pub mod Counters
-- Lines that are answered one after another give the whole resolution; for `resolve_at`, `resolve_line` and `resolve`.
pub mod Lines
-- A mark is set exactly at the addresses where steps with breakpoints begin; for the functions of `counting`,
-- `debuggee`, `plan` and others.
pub mod Watching
-- The first step on a line is found in the table of steps; for the functions of `evaluation`, `messages` and
-- `resolving`.
pub mod StepLines
-- A text that is there is not empty; for `read_condition` and `read_rule`.
pub mod Texts
-- A unit's table of blocks holds what the definitions say of each number; for the functions of `evaluation`, `messages`
-- and `resolving`.
pub mod UnitBlocks
-- A text with a fault is no condition; for `read_condition`.
pub mod Conditions
-- A text reads as the parts of a message in one way, found from the left; for the functions of `logging`, `messages`
-- and `same`.
pub mod MessageParts
-- A log message is read part by part as its definition says; for the functions of `messages`.
pub mod MessageTexts
-- The values of a message's expressions in the newest frame are those that its log has; for `log_of`.
pub mod LogValues
-- A plan's breakpoints are found again in the order in which they were asked for; for `Plan::message` and `Plan::new`.
pub mod ByNumber
-- Links lead to the frame that the meaning finds; for `is_met`, `log_of` and `name_value`.
pub mod ValuesLinks
-- What is bound has the value of the source; for `is_met`, `log_of` and `name_value`.
pub mod ValuesBound
-- A condition of the machine's next step is evaluated in the newest frame; for `is_met`, `log_of` and `name_value`.
pub mod ValuesMet
-- What a name stands for, by the home that a look-up returns; for `locate`.
pub mod BoundHomes
-- A name that was looked up for a frame's block has its number in that frame; for `name_value`.
pub mod ValuesNamed
-- Where no breakpoint is met, nothing is due or logged; for `Debuggee::run_quietly` and `dbg_runner`.
pub mod Unwatched
-- What the machine asks at a mark is the condition of a breakpoint there; for `Debuggee::run_quietly`.
pub mod Asked
-- Where the machine counts, it counts as the plan does, and an arrival is due where a breakpoint is met; for
-- `Debuggee::run_quietly`.
pub mod Counted
-- A quiet step goes on and leads to where no breakpoint is met; for `Debuggee::run_quietly`.
pub mod Quiet
-- The counts of a debuggee are right after quiet steps of its machine, and perhaps one more; for
-- `Debuggee::run_quietly` and `Debuggee::run`.
pub mod QuietCounts
-- A search counts all arrivals, and finds the last position where a breakpoint stops; for `Debuggee::search`.
mod Searching
-- Trails are short and ascend, and keeping a checkpoint and looking one up are as defined; for the clauses `short` and
-- `ascend` of `going_back_laws`, and for the functions of `debuggee`, `going_back` and `trail`.
pub mod Trails
-- The counts of a debuggee that went back begin anew, and it runs where it ran before; for `Debuggee::back`.
pub mod Backward
-- Where going back leads is the last position that is due; for the clause `last_due` of `going_back_laws`.
pub mod Retreats
-- The logs of a position say its messages with each expression replaced by its value; for the clauses `replaced`,
-- `said` and `arithmetic` of `log_laws`.
pub mod Said
-- What some texts of an editor read as; for the clauses of `worked_readings`.
pub mod WorkedReadings
