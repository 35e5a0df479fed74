-- Defines what the contracts of the functions speak of that handle a report.
use Rattle.std.specs.Prelude.{◌≡◌, ℕ, ◌+◌, ◌-◌, ℤ, List, ◌++◌, ◌∷◌, [], length, drop, map}
use Rattle.dap_msg.specs.declared.outgoing.EventBody.{EventBody}
use Rattle.dap_msg.specs.declared.outgoing.EventBody.TheVariants as event
use Rattle.dap_msg.specs.declared.outgoing.StopReason.{StopReason}
use Rattle.dap_msg.specs.declared.outgoing.StopReason.TheVariants as stop
use Rattle.dbg_plan.specs.Debugged.{Debugged}
use Rattle.dbg_runner.specs.declared.outcome.SliceOutcome.{SliceOutcome}
use Rattle.dbg_runner.specs.declared.outcome.SliceOutcome.TheVariants as slice
use Rattle.dbg_runner.specs.Reported.{Reported, plain_report}
use Rattle.dap_history.specs.History.{History, Effect}
use Rattle.dap_history.specs.Replies.{log_events}
use Rattle.dap_replies.specs.declared.phase.Target.{Target}
use Rattle.dap_replies.specs.declared.phase.Phase.{Phase}
use Rattle.dap_replies.specs.declared.phase.Phase.TheVariants as phase
use Rattle.dap_replies.specs.Runs.{OrderedRun, heading_in}
use Rattle.dap_replies.specs.Phases.{IsPhase}
use Rattle.dap_replies.specs.declared.effect.Effect.{Effect as Done}
use Rattle.dap_replies.specs.Replied.{DoesEffect, report_step}

-- the numbers of a report that weren't reported before, where `told` numbers were
abbrev pub fresh : ℕ → Reported → List ℤ
fresh told r = drop (told - r.numbers_before) r.numbers

-- these numbers and the logs of the report, as events
abbrev pub outputs_after : ℕ → Reported → List EventBody
outputs_after told r = map event.Output (fresh told r) ++ log_events r.plan r.logs

-- the target after these numbers were reported
abbrev pub with_told : Target → Reported → Target
with_told t r = record t { told = t.told + length (fresh t.told r) }

-- the report of a slice with this outcome contains the debuggee
abbrev pub Stops : SliceOutcome → Type 0
Stops (slice.Due reason) = Unit {0}
Stops slice.Held = Unit {0}
Stops (slice.Fault fault) = Unit {0}
Stops _ = ⊥

-- the report continues the run
abbrev pub ContinuesRun : Reported → Target → OrderedRun → Type 0
ContinuesRun report target run = (plain_report report).heading ≡ heading_in target.runs run

-- the phase of a program that stands for this reason
abbrev pub standing : Target → Debugged → StopReason → Phase
standing target d (stop.Exception fault) = phase.Faulted target d
standing target d _ = phase.Stopped target d

-- the report has this effect, and the phase afterwards represents the history with it
pub record ReportCauses (report : Reported) (effect : Effect) (past : History) (done : Done) : Type 0 where
  pub does : DoesEffect done effect
  pub phase_is : IsPhase done.phase (past ++ report_step (plain_report report) effect ∷ [])

-- the same for each history that the phase with this run represents
abbrev pub FollowsReport : Target → OrderedRun → Reported → (History → Effect) → Done → Type 0
FollowsReport target run report effect done =
    (past : History) → IsPhase (phase.Running target run) past → ReportCauses report (effect past) past done
