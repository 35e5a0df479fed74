-- Defines what a command is answered with, and what it causes after the answer.
use Rattle.std.specs.Prelude.{ℕ, Bool, nat_eq, List, [], ◌∷◌, map, Option, None, Some, Result, Ok, Err}
use Rattle.dap_msg.specs.declared.question.Shown.{Shown}
use Rattle.dap_msg.specs.declared.outgoing.Body.{Body}
use Rattle.dap_msg.specs.declared.outgoing.Body.TheVariants as body
use Rattle.dap_msg.specs.declared.outgoing.Refusal.{Refusal}
use Rattle.dap_msg.specs.declared.outgoing.EventBody.{EventBody}
use Rattle.dap_msg.specs.declared.outgoing.EventBody.TheVariants as event
use Rattle.dap_msg.specs.declared.outgoing.StopReason.{StopReason}
use Rattle.dap_msg.specs.declared.outgoing.StopReason.TheVariants as stop
use Rattle.dap_msg.specs.declared.outgoing.Exception.{Exception}
use Rattle.dap_msg.specs.declared.outgoing.Exception.TheVariants as exception
use Rattle.pl0_meaning.specs.declared.RunFault.{RunFault}
use Rattle.pl0_meaning.specs.declared.RunFault.TheVariants as run_fault
use Rattle.dbg_plan.specs.Breakpoints.{Breakpoint}
use Rattle.dbg_plan.specs.Logs.{Log, log_text}
use Rattle.dbg_plan.specs.Plans.{parts_at}
use Rattle.dbg_plan.specs.declared.mode.Reason.{Reason}
use Rattle.dbg_plan.specs.declared.mode.Reason.TheVariants as reason
use Rattle.dbg_runner.specs.Plain.{PlainOrder}
use Rattle.dap_history.specs.History.{Launched, Effect}

-- the result of a command, and what it causes after the answer
pub record Reply : Type 0 where
  pub result : Result Body Refusal
  pub effect : Effect

-- no effect
abbrev pub nothing : Effect
nothing = record { events = []; orders = []; launched = None; put_in = None; waits = None }

-- these events alone
abbrev pub only_events : List EventBody → Effect
only_events events = record nothing { events = events }

-- these orders alone
abbrev pub only_orders : List PlainOrder → Effect
only_orders orders = record nothing { orders = orders }

-- an answer alone
abbrev pub answered : Body → Reply
answered body = record { result = Ok body; effect = nothing }

-- a refusal causes nothing
abbrev pub refused : Refusal → Reply
refused why = record { result = Err why; effect = nothing }

-- what a question shows is the body of its answer
abbrev pub in_body : Result Shown Refusal → Result Body Refusal
in_body (Ok shown) = Ok (body.Shown shown)
in_body (Err why) = Err why

-- an answer, and what it causes
abbrev pub reply_with : Body → Effect → Reply
reply_with body effect = record { result = Ok body; effect = effect }

-- a program is launched, and this holds of it
abbrev pub OfProgram : Option Launched → (Launched → Type 0) → Type 0
OfProgram None says = ⊥
OfProgram (Some l) says = says l

-- ---- stops

-- the reason of a stop, as the client sees it
abbrev pub stop_of : Reason → StopReason
stop_of reason.Breakpoint = stop.Breakpoint
stop_of reason.Entry = stop.Entry
stop_of reason.Step = stop.Step

-- the fault of a step, as the client sees it
abbrev pub exception_of : RunFault → Exception
exception_of run_fault.Overflow = exception.Overflow
exception_of run_fault.DivideByZero = exception.DivideByZero
exception_of run_fault.Depth = exception.Depth
exception_of run_fault.StepLimit = exception.StepLimit

-- the event that the program stopped
abbrev pub stopped_events : StopReason → List EventBody
stopped_events r = event.Stopped r ∷ []

-- the events that the program has ended with this code
abbrev pub exited_events : ℕ → List EventBody
exited_events code = event.Exited code ∷ event.Terminated ∷ []

-- ---- logs

-- the text of a log of these breakpoints
abbrev pub text_of_log : List Breakpoint → Log → List ℕ
text_of_log breakpoints log = log_text (parts_at breakpoints log.number) log.values

-- logs as events
abbrev pub log_events : List Breakpoint → List Log → List EventBody
log_events breakpoints logs = map (λ log. event.Log (text_of_log breakpoints log)) logs

-- ---- the thread

-- the thread is 1, the only one
abbrev pub is_main_thread : ℕ → Bool
is_main_thread thread = nat_eq thread 1
