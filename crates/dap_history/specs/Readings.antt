-- Defines the readings of a history, by which a session acts; most say what the last such step, message or order was.
use Rattle.std.specs.Prelude.{ℕ, ℤ, max, Bool, true, false, List, [], ◌∷◌, length, unwrap_or, Option, None, Some, option_map, Result, Ok, Err}
use Rattle.std.specs.List.{filter_map}
use Rattle.std.specs.Option.{option_map_or}
use Rattle.dap_msg.specs.declared.requests.initialize.InitializeArguments.{InitializeArguments}
use Rattle.dap_msg.specs.declared.command.Command.{Command}
use Rattle.dap_msg.specs.declared.command.Command.TheVariants as command
use Rattle.dap_msg.specs.declared.command.CommandName.{CommandName}
use Rattle.dap_msg.specs.declared.command.CommandName.TheVariants as name
use Rattle.dap_msg.specs.declared.command.Supported.TheVariants as supported
use Rattle.dap_msg.specs.declared.outgoing.Outgoing.{Outgoing}
use Rattle.dap_msg.specs.declared.outgoing.Outgoing.TheVariants.{Answer, Event}
use Rattle.dap_msg.specs.declared.outgoing.Body.{Body}
use Rattle.dap_msg.specs.declared.outgoing.Refusal.{Refusal}
use Rattle.dap_msg.specs.declared.outgoing.EventBody.{EventBody}
use Rattle.dap_msg.specs.declared.outgoing.EventBody.TheVariants as event
use Rattle.dap_msg.specs.declared.outgoing.StopReason.{StopReason}
use Rattle.dap_msg.specs.declared.outgoing.StopReason.TheVariants as reason
use Rattle.dbg_plan.specs.Breakpoints.{Breakpoint}
use Rattle.dbg_runner.specs.declared.outcome.SliceOutcome.{SliceOutcome}
use Rattle.dbg_runner.specs.Plain.{Heading, PlainOrder, Go, Hold, Quit, goes_back}
use Rattle.dap_history.specs.Plans.{Plan, no_plan}
use Rattle.dbg_runner.specs.declared.outcome.SliceOutcome.TheVariants as slice
use Rattle.dap_history.specs.Last.{or_else, last_such}
use Rattle.dap_history.specs.History.{Launched, Item, Content, Loaded, Accepted, Fault, InputEnd, ReadFailure, MemoryFailure, Step, History, messages, messages_of, orders_of}
use Rattle.dap_history.specs.declared.situation.Situation.{Situation}
use Rattle.dap_history.specs.declared.situation.Situation.TheVariants.{Fresh, Ready, Configuring, Running, Stopped, Faulted, Ended}
use Rattle.dap_history.specs.declared.ending.Ending.{Ending}
use Rattle.dap_history.specs.declared.ending.Ending.TheVariants as ending
use Rattle.dap_history.specs.declared.ending.Closed.TheVariants.{Disconnected, InputEnded, ReadFailed}
use Rattle.dap_history.specs.declared.fault.SessionFault.TheVariants.{Frame, NoMemory}

-- ---- the situation: a mark is the situation to which something leads, if it changes it; the last mark counts

-- the mark of a successful answer
abbrev pub command_mark : CommandName → Option Situation
command_mark (name.Supported supported.Initialize) = Some Ready
command_mark (name.Supported supported.Launch) = Some Configuring
command_mark _ = None

-- the mark of an answer; a refusal has none
abbrev pub answer_mark : CommandName → Result Body Refusal → Option Situation
answer_mark command (Ok body) = command_mark command
answer_mark command (Err refusal) = None

-- the mark of a stop, which always has one
abbrev pub stop_mark : StopReason → Situation
stop_mark (reason.Exception fault) = Faulted
stop_mark _ = Stopped

-- the mark of an event: only a stop and the program's end have one
abbrev pub event_mark : EventBody → Option Situation
event_mark (event.Stopped r) = Some (stop_mark r)
event_mark (event.Exited code) = Some Ended
event_mark event.Initialized = None
event_mark (event.Output v) = None
event_mark (event.Log text) = None
event_mark event.Terminated = None

-- the mark of a message
abbrev pub message_mark : Outgoing → Option Situation
message_mark (Answer seq command result) = answer_mark command result
message_mark (Event e) = event_mark e

-- the mark of an order: only `Go` has one
abbrev pub order_mark : PlainOrder → Option Situation
order_mark (Go run) = Some Running
order_mark (Hold run) = None
order_mark Quit = None

-- the mark of a step: the last among its messages and then its orders
abbrev pub step_mark : Step → Option Situation
step_mark step = or_else (last_such order_mark step.effect.orders) (last_such message_mark (messages step))

-- How far the client and the program have come. `Transitions` has the same as a table, which is read forwards.
abbrev pub situation : History → Situation
situation past = unwrap_or (last_such step_mark past) Fresh

-- ---- the launched program

-- how the client counts lines and columns, as a successful `initialize` says
abbrev pub settings_of : Command → Option InitializeArguments
settings_of (command.Initialize arguments) = Some arguments
settings_of _ = None

-- the same for an item with its answer
abbrev pub settings_by : Item → Option Outgoing → Option InitializeArguments
settings_by (Content (Some request)) (Some (Answer seq command (Ok body))) = settings_of request.body
settings_by _ _ = None

-- lines and columns count from 1
abbrev pub from_one : InitializeArguments
from_one = record { lines_start_at_1 = true; columns_start_at_1 = true }

-- how the client counts: as it said in `initialize`, or from 1 before that
abbrev pub settings : History → InitializeArguments
settings past = unwrap_or (last_such (λ step. settings_by step.item step.answer) past) from_one

-- the launched program, if there is one
abbrev pub launched : History → Option Launched
launched past = last_such (λ step. step.effect.launched) past

-- ---- runs

-- the run that an order starts, if it starts one
abbrev pub go : PlainOrder → Option Heading
go (Go run) = Some run
go (Hold run) = None
go Quit = None

-- the run that was ordered last
abbrev pub last_run : History → Option Heading
last_run past = last_such go (orders_of past)

-- how many runs were ordered, which is the number of the last
abbrev pub runs : History → ℕ
runs past = length (filter_map go (orders_of past))

-- whether the run that was ordered last goes back
abbrev pub is_back : History → Bool
is_back past = option_map_or (λ run. goes_back run.mode) (last_run past) false

-- the position at which an accepted report ends
abbrev pub end_of : Item → Option ℕ
end_of (Accepted r) = Some r.end
end_of _ = None

-- where the program stands: at the end of the last accepted report
abbrev pub position : History → ℕ
position past = unwrap_or (last_such (λ step. end_of step.item) past) 0

-- the furthest position that the program has reached: the greatest at which an accepted report ended
abbrev pub reached : History → ℕ
reached [] = 0
reached (step ∷ past) = max (unwrap_or (end_of step.item) 0) (reached past)

-- the number that a message reports, if it reports one
abbrev pub output : Outgoing → Option ℤ
output (Event (event.Output v)) = Some v
output _ = None

-- the numbers that messages report
abbrev pub numbers : List Outgoing → List ℤ
numbers messages = filter_map output messages

-- how many numbers have been reported
abbrev pub numbers_told : History → ℕ
numbers_told past = length (numbers (messages_of past))

-- the plan in force: the last that was put in
abbrev pub plan : History → Plan
plan past = unwrap_or (last_such (λ step. step.effect.put_in) past) no_plan

-- ---- what waits during a run until the runner returns the debuggee; when a run is ordered, nothing waits

-- Which breakpoints wait after a step, if it changes them: `Some None` where it orders a run, since none wait then.
abbrev pub waits_by : Step → Option (Option (List Breakpoint))
waits_by step = or_else (option_map (λ run. None) (last_such go step.effect.orders)) (option_map Some step.effect.waits)

-- the breakpoints that wait
abbrev pub waiting_plan : History → Option (List Breakpoint)
waiting_plan past = unwrap_or (last_such waits_by past) None

-- whether an answer grants a pause
abbrev pub is_pause : Option Outgoing → Option Bool
is_pause (Some (Answer seq (name.Supported supported.Pause) (Ok body))) = Some true
is_pause _ = None

-- Whether a pause waits after a step, if it changes that: none does where it orders a run.
abbrev pub pauses_by : Step → Option Bool
pauses_by step = or_else (option_map (λ run. false) (last_such go step.effect.orders)) (is_pause step.answer)

-- a pause waits
abbrev pub waiting_pause : History → Bool
waiting_pause past = unwrap_or (last_such pauses_by past) false

-- whether the last run is held after an order, if the order changes it
abbrev pub hold_mark : PlainOrder → Option Bool
hold_mark (Go run) = Some false
hold_mark (Hold run) = Some true
hold_mark Quit = None

-- the last run was ordered to hold
abbrev pub is_held : History → Bool
is_held past = unwrap_or (last_such hold_mark (orders_of past)) false

-- ---- the ending

-- how a command closes the session, if it does
abbrev pub closing_command : Command → Option Ending
closing_command command.Disconnect = Some (ending.Closed Disconnected)
closing_command _ = None

-- how a report ends the session, if it does
abbrev pub closing_report : SliceOutcome → Option Ending
closing_report slice.NoMemory = Some (ending.Fault NoMemory)
closing_report _ = None

-- how an item ends the session, if it does
abbrev pub closing : Item → Option Ending
closing (Content None) = None
closing (Content (Some request)) = closing_command request.body
closing (Loaded launch file) = None
closing (Accepted r) = closing_report r.outcome
closing (Fault k) = Some (ending.Fault (Frame k))
closing InputEnd = Some (ending.Closed InputEnded)
closing ReadFailure = Some (ending.Closed ReadFailed)
closing MemoryFailure = Some (ending.Fault NoMemory)

-- how the session ended, if it did
abbrev pub ending_of : History → Option Ending
ending_of past = last_such (λ step. closing step.item) past
