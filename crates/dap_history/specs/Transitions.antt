-- Defines the table of transitions: in which situation which step leads to which other. States that the situation goes
-- by it.
use Rattle.std.specs.Prelude.{◌≡◌, ◌++◌, ◌∷◌, [], List, Option, None, Some, Ok}
use Rattle.dap_msg.specs.declared.command.Command.{Command}
use Rattle.dap_msg.specs.declared.command.Command.TheVariants as command
use Rattle.dap_msg.specs.declared.outgoing.Outgoing.{Outgoing}
use Rattle.dap_msg.specs.declared.outgoing.Outgoing.TheVariants.{Answer}
use Rattle.dap_msg.specs.declared.outgoing.StopReason.{StopReason}
use Rattle.dbg_runner.specs.declared.outcome.SliceOutcome.{SliceOutcome}
use Rattle.dbg_runner.specs.declared.outcome.SliceOutcome.TheVariants as slice
use Rattle.dap_history.specs.declared.situation.Situation.{Situation}
use Rattle.dap_history.specs.declared.situation.Situation.TheVariants.{Fresh, Ready, Configuring, Running, Stopped, Faulted, Ended}
use Rattle.dap_history.specs.History.{Item, Content, Loaded, Accepted, Step}
use Rattle.dap_history.specs.Readings.{situation}
use Rattle.dap_history.specs.Stops.{stop_in}
use Rattle.dap_history.specs.Always.{OfHistories, OfSteps}

-- ---- the table

-- Stopped where a stop is reported, and otherwise Running
abbrev pub runs_unless : Option StopReason → Situation
runs_unless None = Running
runs_unless (Some reason) = Stopped

-- Where a command that is granted leads, by the stop that is reported after its answer, if there is one. All other
-- commands keep the situation.
abbrev pub command_leads : Command → Situation → Option StopReason → Situation
command_leads (command.Initialize asked) Fresh stop = Ready
command_leads command.ConfigurationDone Configuring stop = runs_unless stop
command_leads (command.Resume kind asked) Stopped stop = Running
command_leads (command.Resume kind asked) Faulted stop = Ended
command_leads (command.Retreat kind asked) Stopped stop = Running
command_leads (command.Retreat kind asked) Faulted stop = Running
command_leads _ s stop = s

-- where a launch that is granted leads, once its file has come
abbrev pub launch_leads : Situation → Situation
launch_leads Ready = Configuring
launch_leads s = s

-- Where a report leads, by the stop that it brings, if there is one. One after which the run goes on keeps the
-- situation.
abbrev pub report_leads : SliceOutcome → Situation → Option StopReason → Situation
report_leads (slice.Due reason) Running stop = Stopped
report_leads slice.Held Running stop = runs_unless stop
report_leads (slice.Fault fault) Running stop = Faulted
report_leads slice.Done Running stop = Ended
report_leads _ s stop = s

-- ---- steps

-- to the first situation where the answer grants its request, and otherwise to the second
abbrev pub if_granted : Option Outgoing → Situation → Situation → Situation
if_granted (Some (Answer seq command (Ok body))) there s = there
if_granted _ there s = s

-- Where an item leads, by its answer and the stop that is reported, if there are any. All other items keep the
-- situation.
abbrev pub item_leads : Item → Option Outgoing → Option StopReason → Situation → Situation
item_leads (Content (Some request)) answer stop s = if_granted answer (command_leads request.body s stop) s
item_leads (Loaded launch file) answer stop s = if_granted answer (launch_leads s) s
item_leads (Accepted r) answer stop s = report_leads r.outcome s stop
item_leads _ answer stop s = s

-- the situation after a step
abbrev pub after_step : Situation → Step → Situation
after_step s step = item_leads step.item step.answer (stop_in step) s

-- the situation after steps, one after another
abbrev pub after_steps : Situation → List Step → Situation
after_steps s [] = s
after_steps s (step ∷ steps) = after_steps (after_step s step) steps

-- ---- the laws

-- Each step leads to the situation that the table of transitions has.
abbrev pub EachStepLeads : Type 0
EachStepLeads = OfSteps (λ before step.
    situation (before ++ step ∷ []) ≡ after_step (situation before) step)

-- The situation is where the steps lead from Fresh.
abbrev pub SituationIsAfterSteps : Type 0
SituationIsAfterSteps = OfHistories (λ past.
    situation past ≡ after_steps Fresh past)
