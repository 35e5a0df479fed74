-- Defines which histories a phase represents.
use Rattle.std.specs.Prelude.{◌≡◌, Option, None, Some}
use Rattle.pl0_unit.specs.declared.unit.Unit.{Unit as Compiled}
use Rattle.pl0_machine.specs.Machine.{program_of}
use Rattle.dbg_plan.specs.Debugged.{Debugged}
use Rattle.dbg_runner.specs.Plain.{Heading}
use Rattle.dbg_runner.specs.Reported.{text_of}
use Rattle.dap_msg.specs.declared.command.Command.{Command}
use Rattle.dap_msg.specs.declared.command.Command.TheVariants as command
use Rattle.dap_history.specs.declared.launch.Launch.{Launch}
use Rattle.dap_history.specs.declared.situation.Situation.{Situation}
use Rattle.dap_history.specs.declared.situation.Situation.TheVariants as situation_is
use Rattle.dap_history.specs.Plans.{no_plan}
use Rattle.dap_history.specs.History.{History}
use Rattle.dap_history.specs.Readings.{situation, settings, launched, last_run, runs, position, numbers_told, plan, waiting_plan, waiting_pause, is_held}
use Rattle.dap_replies.specs.declared.phase.Phase.{Phase}
use Rattle.dap_replies.specs.declared.phase.Phase.TheVariants as phase
use Rattle.dap_replies.specs.declared.phase.Target.{Target}
use Rattle.dap_replies.specs.Runs.{OrderedRun, heading_in}

-- ---- the situation, and what waits

-- the situation of a phase
abbrev pub situation_of : Phase → Situation
situation_of phase.Fresh = situation_is.Fresh
situation_of (phase.Ready s) = situation_is.Ready
situation_of (phase.Launching s launch) = situation_is.Ready
situation_of (phase.Configuring t d) = situation_is.Configuring
situation_of (phase.Running t run) = situation_is.Running
situation_of (phase.Stopped t d) = situation_is.Stopped
situation_of (phase.Faulted t d) = situation_is.Faulted
situation_of (phase.Ended t u) = situation_is.Ended

-- the launch that waits for its file, if there is one
abbrev pub launch_of : Phase → Option Launch
launch_of (phase.Launching s launch) = Some launch
launch_of _ = None

-- The command wants no file: it is no launch, or a launch is refused in this phase.
abbrev pub WantsNoFile : Phase → Command → Type 0
WantsNoFile (phase.Ready s) (command.Launch arguments) = ⊥
WantsNoFile _ _ = Unit {0}

-- ---- what is kept of the program

-- nothing was launched
pub record IsUnlaunched (past : History) : Type 0 where
  pub launched_is : launched past ≡ None
  pub runs_are : runs past ≡ 0
  pub position_is : position past ≡ 0
  pub told_is : numbers_told past ≡ 0
  pub plan_is : plan past ≡ no_plan

-- the program is the launched one
pub record IsTarget (t : Target) (u : Compiled) (past : History) : Type 0 where
  pub launched_is : launched past ≡ Some (record
      { path = t.path; stop_on_entry = t.stop_on_entry; text = text_of u; program = program_of u })
  pub settings_are : t.settings ≡ settings past
  pub runs_are : t.runs ≡ runs past
  pub told_is : t.told ≡ numbers_told past

-- the debuggee is where the program stands, under the plan in force
pub record IsDebuggee (d : Debugged) (past : History) : Type 0 where
  pub position_is : d.position ≡ position past
  pub breakpoints_are : d.breakpoints ≡ (plan past).breakpoints
  pub counted_from_is : d.counted_from ≡ (plan past).counted_from

-- The run is the one that was ordered last, come to where the program stands, and the same breakpoints and pause wait.
pub record IsRun (run : OrderedRun) (past : History) : Type 0 where
  pub first : Heading
  pub ordered : last_run past ≡ Some first
  pub goes_on : record first { start = position past } ≡ heading_in (runs past) run
  pub breakpoints_are : run.breakpoints ≡ (plan past).breakpoints
  pub counted_from_is : run.counted_from ≡ (plan past).counted_from
  pub waiting_plan_is : run.waiting_plan ≡ waiting_plan past
  pub waiting_pause_is : run.waiting_pause ≡ waiting_pause past
  pub held_is : run.held ≡ is_held past

-- ---- phases

-- what the phase keeps is what the history says
abbrev pub Keeps : Phase → History → Type 0
Keeps phase.Fresh past = IsUnlaunched past
Keeps (phase.Ready s) past = (s ≡ settings past) × IsUnlaunched past
Keeps (phase.Launching s launch) past = (s ≡ settings past) × IsUnlaunched past
Keeps (phase.Configuring t d) past = IsTarget t d.unit past × IsDebuggee d past × (d.position ≡ 0)
Keeps (phase.Running t run) past = IsTarget t run.unit past × IsRun run past
Keeps (phase.Stopped t d) past = IsTarget t d.unit past × IsDebuggee d past
Keeps (phase.Faulted t d) past = IsTarget t d.unit past × IsDebuggee d past
Keeps (phase.Ended t u) past = IsTarget t u.value past

-- The phase represents the history: its situation is the history's, and so is what it keeps.
pub record IsPhase (p : Phase) (past : History) : Type 0 where
  pub situation_is : situation past ≡ situation_of p
  pub keeps : Keeps p past
