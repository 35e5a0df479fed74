-- Defines which run a command orders: `configurationDone`, `continue`, `next`, `stepIn`, `stepOut`, `stepBack`,
-- `reverseContinue`.
use Rattle.std.specs.Prelude.{ℕ, ◌+◌, List, [], ◌∷◌, ◌++◌, if◌then◌else◌, Option, None, Some}
use Rattle.dap_msg.specs.declared.outgoing.Body.{Body}
use Rattle.dap_msg.specs.declared.outgoing.Body.TheVariants as body
use Rattle.dap_msg.specs.declared.outgoing.EventBody.{EventBody}
use Rattle.dap_msg.specs.declared.requests.resume.ResumeKind.{ResumeKind}
use Rattle.dap_msg.specs.declared.requests.resume.ResumeKind.TheVariants as resume
use Rattle.dap_msg.specs.declared.requests.resume.RetreatKind.{RetreatKind}
use Rattle.dap_msg.specs.declared.requests.resume.RetreatKind.TheVariants as retreat
use Rattle.dbg_plan.specs.declared.mode.Mode.{Mode}
use Rattle.dbg_plan.specs.declared.mode.Mode.TheVariants as mode
use Rattle.dbg_plan.specs.declared.mode.Reason.{Reason}
use Rattle.dbg_plan.specs.Due.{due}
use Rattle.dbg_plan.specs.Logs.{logs}
use Rattle.dap_history.specs.Plans.{Plan}
use Rattle.dbg_runner.specs.Plain.{PlainOrder, Go}
use Rattle.dap_history.specs.History.{Launched, History, Effect}
use Rattle.dap_history.specs.Readings.{runs, position, plan}
use Rattle.dap_history.specs.Replies.{nothing, only_events, stop_of, stopped_events, log_events}

-- the order of the next run, which begins at this position under this plan and in this mode
abbrev pub goes : History → Launched → ℕ → Plan → Mode → List PlainOrder
goes past l begins p m =
    Go (record {
      run = runs past + 1;
      text = l.text;
      plan = p.breakpoints;
      counted_from = p.counted_from;
      mode = m;
      start = begins;
    }) ∷ []

-- the same, where the run begins where the program stands, under the plan in force
abbrev pub resumes : History → Launched → Mode → List PlainOrder
resumes past l m = goes past l (position past) (plan past) m

-- ---- `configurationDone`

-- the mode in which position 0 is considered
abbrev pub first_mode : Launched → Mode
first_mode l = if l.stop_on_entry then mode.Entry else mode.Continue

-- why position 0 is due, if it is
abbrev pub due_first : History → Launched → Option Reason
due_first past l = due l.program (plan past).breakpoints (plan past).counted_from (first_mode l) 0

-- what position 0 logs
abbrev pub first_logs : History → Launched → List EventBody
first_logs past l =
    let now = plan past in
    log_events now.breakpoints (logs l.program now.breakpoints now.counted_from 0)

-- position 0 logs, and then the program stops there if it is due, or the first run begins there
abbrev pub enters : History → Launched → Option Reason → Effect
enters past l (Some r) = only_events (first_logs past l ++ stopped_events (stop_of r))
enters past l None = record nothing { events = first_logs past l; orders = resumes past l mode.Continue }

-- ---- `continue`, `next`, `stepIn`, `stepOut`

-- the mode of the run, by the number of frames that are alive where the program stands
abbrev pub mode_of : ResumeKind → ℕ → Mode
mode_of resume.Continue depth = mode.Continue
mode_of resume.Next depth = mode.Over depth
mode_of resume.StepIn depth = mode.In
mode_of resume.StepOut depth = mode.Out depth

-- the body of the answer: only `continue` has one
abbrev pub body_of : ResumeKind → Body
body_of resume.Continue = body.Continued
body_of _ = body.None

-- ---- `stepBack`, `reverseContinue`

-- the mode of the run
abbrev pub retreat_mode : RetreatKind → Mode
retreat_mode retreat.StepBack = mode.StepBack
retreat_mode retreat.ReverseContinue = mode.Reverse
