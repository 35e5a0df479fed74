-- Defines which reports of the runner are accepted, and what they cause.
use Rattle.std.specs.Prelude.{◌≡◌, ℕ, ◌+◌, ◌-◌, Bool, true, false, if◌then◌else◌, List, [], ◌∷◌, ◌++◌, map, drop, Option, Some, option_map, unwrap_or}
use Rattle.dap_msg.specs.declared.outgoing.EventBody.{EventBody}
use Rattle.dap_msg.specs.declared.outgoing.EventBody.TheVariants as event
use Rattle.dap_msg.specs.declared.outgoing.StopReason.TheVariants as stop
use Rattle.dbg_plan.specs.Breakpoints.{Breakpoint}
use Rattle.dbg_runner.specs.declared.outcome.SliceOutcome.{SliceOutcome}
use Rattle.dbg_runner.specs.Plain.{PlainReport, Heading, Go, goes_back}
use Rattle.dap_history.specs.Plans.{Plan}
use Rattle.dbg_runner.specs.declared.outcome.SliceOutcome.TheVariants as slice
use Rattle.dap_history.specs.declared.situation.Situation.TheVariants.{Running}
use Rattle.dap_history.specs.History.{History, Effect}
use Rattle.dap_history.specs.Readings.{situation, last_run, runs, position, plan, numbers_told, waiting_plan, waiting_pause}
use Rattle.dap_history.specs.Replies.{nothing, only_events, stop_of, exception_of, stopped_events, exited_events, log_events}

-- A report is accepted while the program is running, if it continues the run that was ordered last.
pub record Accepts (past : History) (r : PlainReport) : Type 0 where
  pub running : situation past ≡ Running
  pub run : Heading
  pub run_is : last_run past ≡ Some run
  pub expected : r.heading ≡ record run { start = position past }

-- ---- what an accepted report causes

-- First the report's numbers, in order, without those that were reported before the program went back; then its logs.
abbrev pub outputs : History → PlainReport → List EventBody
outputs past r = map event.Output (drop (numbers_told past - r.numbers_before) r.numbers) ++ log_events r.plan r.logs

-- breakpoints that are put in where a report ends count from the next position
abbrev pub from_next : ℕ → List Breakpoint → Plan
from_next finish bs = record { breakpoints = bs; counted_from = finish + 1 }

-- the plan that is put in where breakpoints wait
abbrev pub put_in_at : ℕ → Option (List Breakpoint) → Option Plan
put_in_at finish waits = option_map (from_next finish) waits

-- the same; where a run that went back stops and no breakpoints wait, those in force are put in again and count anew
abbrev pub put_in_by : History → PlainReport → Option Plan
put_in_by past r =
    if goes_back r.mode
    then Some (from_next r.end (unwrap_or (waiting_plan past) (plan past).breakpoints))
    else put_in_at r.end (waiting_plan past)

-- the report's numbers and logs, and then these events; the session has the debuggee, and breakpoints that wait are put
-- in
abbrev pub stopped_effect : History → PlainReport → List EventBody → Effect
stopped_effect past r events = record nothing { events = outputs past r ++ events; put_in = put_in_by past r }

-- the program goes on where it was held, in another run in the same mode
abbrev pub continued_effect : History → PlainReport → Effect
continued_effect past r =
    let put_in = put_in_by past r in
    let now = unwrap_or put_in (plan past) in
    record nothing {
      events = outputs past r;
      put_in = put_in;
      orders = Go
          (record r.heading
          { run = runs past + 1; plan = now.breakpoints; counted_from = now.counted_from; start = r.end }) ∷ [];
    }

-- what the report of a held run causes, by whether a pause waits
abbrev pub held_effect : History → PlainReport → Bool → Effect
held_effect past r true = stopped_effect past r (stopped_events stop.Pause)
held_effect past r false = continued_effect past r

-- what an accepted report causes
abbrev pub report_effect : History → PlainReport → SliceOutcome → Effect
report_effect past r slice.More = only_events (outputs past r)
report_effect past r (slice.Due reason) = stopped_effect past r (stopped_events (stop_of reason))
report_effect past r slice.Held = held_effect past r (waiting_pause past)
report_effect past r slice.Done = only_events (outputs past r ++ exited_events 0)
report_effect past r (slice.Fault fault) = stopped_effect past r (stopped_events (stop.Exception (exception_of fault)))
report_effect past r slice.NoMemory = nothing
