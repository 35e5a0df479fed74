-- Defines, for private contracts, how the program goes on, stops or ends after an answer.
use Rattle.std.specs.Prelude.{◌≡◌, ◌+◌, List, ◌∷◌, [], ◌++◌, true, ◌||◌, if◌then◌else◌, None, Ok, option_map}
use Rattle.std.specs.Option.{option_to_list}
use Rattle.dap_msg.specs.declared.outgoing.Body.{Body}
use Rattle.dap_msg.specs.declared.outgoing.Body.TheVariants as body
use Rattle.dap_msg.specs.declared.outgoing.EventBody.{EventBody}
use Rattle.dbg_plan.specs.Debugged.{Debugged}
use Rattle.dbg_plan.specs.declared.mode.Mode.{Mode}
use Rattle.dbg_plan.specs.declared.mode.Reason.{Reason}
use Rattle.pl0_unit.specs.declared.unit.Unit.{Unit as Compiled}
use Rattle.dbg_runner.specs.Orders.{plain_order}
use Rattle.dbg_runner.specs.Plain.{Go, Hold, goes_back}
use Rattle.dbg_runner.specs.Reported.{heading}
use Rattle.dap_history.specs.Replies.{exited_events, stop_of, stopped_events}
use Rattle.dap_replies.specs.Runs.{OrderedRun, begun_run, ordered_to_hold}
use Rattle.dap_replies.specs.declared.phase.Phase.{Phase}
use Rattle.dap_replies.specs.declared.phase.Phase.TheVariants as phase
use Rattle.dap_replies.specs.declared.phase.Target.{Target}
use Rattle.dap_replies.specs.declared.effect.Reply.{Reply}

-- after these events the debuggee goes on in a further run
pub record HasGone (t : Target) (d : Debugged) (m : Mode) (body : Body) (events : List EventBody) (given : Reply) : Type
    0 where
  pub result_is : given.result ≡ Ok body
  pub events_are : given.effect.events ≡ events
  pub orders_are : option_to_list (option_map plain_order given.effect.order) ≡ Go (heading (t.runs + 1) d m) ∷ []
  pub phase_is : given.effect.phase ≡ phase.Running (record t { runs = t.runs + 1 }) (begun_run d m)

-- after these events the program stops where it stands
pub record HasStopped (t : Target) (d : Debugged) (reason : Reason) (events : List EventBody) (given : Reply) : Type 0
  where
    pub result_is : given.result ≡ Ok body.None
    pub events_are : given.effect.events ≡ events ++ stopped_events (stop_of reason)
    pub order_is : given.effect.order ≡ None
    pub phase_is : given.effect.phase ≡ phase.Stopped t d

-- the program of this target has ended
abbrev pub IsOver : Target → Compiled → Phase → Type 0
IsOver target unit (phase.Ended t u) = (t ≡ target) × (u.value ≡ unit)
IsOver target unit _ = ⊥

-- the program has ended with the code 1
pub record HasEnded (t : Target) (u : Compiled) (body : Body) (given : Reply) : Type 0 where
  pub result_is : given.result ≡ Ok body
  pub events_are : given.effect.events ≡ exited_events 1
  pub order_is : given.effect.order ≡ None
  pub phase_is : IsOver t u given.effect.phase

-- a pause waits in this run
pub record WaitsToPause (t : Target) (run : OrderedRun) (given : Reply) : Type 0 where
  pub result_is : given.result ≡ Ok body.None
  pub events_are : given.effect.events ≡ []
  pub orders_are : option_to_list (option_map plain_order given.effect.order) ≡ (if run.held
      || goes_back run.mode then [] else Hold t.runs ∷ [])
  pub phase_is : given.effect.phase ≡ phase.Running t (ordered_to_hold (record run { waiting_pause = true }))

-- the program stands
abbrev pub IsAtStop : Phase → Type 0
IsAtStop (phase.Stopped t d) = Unit {0}
IsAtStop (phase.Faulted t d) = Unit {0}
IsAtStop _ = ⊥
