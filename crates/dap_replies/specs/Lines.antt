-- Defines, for private contracts, what the lines of `setBreakpoints` are answered with, and in which program.
use Rattle.std.specs.Prelude.{◌≡◌, ℕ, ◌<◌, List, length, map, Option, None, Some}
use Rattle.pl0_tree.specs.Tree.{Block}
use Rattle.pl0_tree.specs.Steps.{steps}
use Rattle.dap_msg.specs.declared.requests.set_breakpoints.SourceBreakpoint.{SourceBreakpoint}
use Rattle.dap_msg.specs.declared.outgoing.BreakpointAnswer.{BreakpointAnswer}
use Rattle.dbg_plan.specs.Breakpoints.{Breakpoint}
use Rattle.dbg_plan.specs.declared.resolving.Resolution.{Resolution}
use Rattle.dbg_plan.specs.declared.resolving.Resolution.TheVariants.{At}
use Rattle.dap_history.specs.Breakpoints.{IsResolved, answer_to_line}
use Rattle.pl0_unit.specs.declared.unit.Unit.{Unit as Compiled}
use Rattle.dap_replies.specs.declared.phase.Phase.{Phase}
use Rattle.dap_replies.specs.declared.phase.Phase.TheVariants as phase
use Rattle.dap_replies.specs.declared.phase.Target.{Target}

-- Lines of the program's source have these answers and these breakpoints.
pub record AreAnswered (main : Block) (less : ℕ) (lines : List SourceBreakpoint) (answers : List BreakpointAnswer)
    (breakpoints : List Breakpoint) : Type 0 where
  pub resolutions : List Resolution
  pub resolved : IsResolved main less lines resolutions breakpoints
  pub answers_are : answers ≡ map (answer_to_line main less) resolutions

-- the step that a line is resolved to, if there is one, is a step of the program
abbrev pub IsAtStep : Block → Resolution → Type 0
IsAtStep main (At n) = n < length (steps main)
IsAtStep main _ = Unit {0}

-- the launched program, if there is one, and what the phase keeps of its launch
abbrev pub program_in : Phase → Option (Target × Compiled)
program_in (phase.Configuring t d) = Some (t, d.unit)
program_in (phase.Running t run) = Some (t, run.unit)
program_in (phase.Stopped t d) = Some (t, d.unit)
program_in (phase.Faulted t d) = Some (t, d.unit)
program_in (phase.Ended t u) = Some (t, u.value)
program_in _ = None
