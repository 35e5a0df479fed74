-- What contracts see of a debuggee. What it has counted follows from this.
use Rattle.std.specs.Prelude.{◌≡◌, ℕ, ◌+◌, ◌<◌, List, Option}
use Rattle.pl0_tree.specs.Tree.{Block}
use Rattle.pl0_tree.specs.Plain.{plain_block}
use Rattle.pl0_unit.specs.declared.unit.Unit.{Unit as Compiled}
use Rattle.pl0_machine.specs.Machine.{Standing, depth_of}
use Rattle.dbg_plan.specs.Breakpoints.{Breakpoint}
use Rattle.dbg_plan.specs.declared.mode.Mode.{Mode}
use Rattle.dbg_plan.specs.declared.mode.Reason.{Reason}
use Rattle.dbg_plan.specs.Due.{due}
use Rattle.dbg_plan.specs.Trail.{Trail}
use Rattle.dbg_plan.specs.Logs.{Log, logs}

-- A program at a position, and its breakpoints in force, which count from position `counted_from`. The positions below
-- `next` were considered. The trail says to which positions it can go back at once.
pub record Debugged : Type 0 where
  pub unit : Compiled
  pub position : ℕ
  pub breakpoints : List Breakpoint
  pub counted_from : ℕ
  pub next : ℕ
  pub trail : Trail

abbrev pub machine_of : Debugged → Standing
machine_of d = record { unit = d.unit; position = d.position }

abbrev pub debugged_program : Debugged → Block
debugged_program d = plain_block d.unit.tree.program

-- a frame is alive
abbrev pub IsRunning : Standing → Type 0
IsRunning m = 0 < depth_of m

-- the program runs, and its position was considered
pub record IsConsidered (d : Debugged) : Type 0 where
  pub behind : d.next ≡ d.position + 1
  pub running : IsRunning (machine_of d)

-- the program runs, and its position is the next to be considered
pub record IsNext (d : Debugged) : Type 0 where
  pub here : d.next ≡ d.position
  pub running : IsRunning (machine_of d)

-- why the position is due, if it is
abbrev pub due_now : Debugged → Mode → Option Reason
due_now d mode = due (debugged_program d) d.breakpoints d.counted_from mode d.position

-- what the position logs
abbrev pub logs_now : Debugged → List Log
logs_now d = logs (debugged_program d) d.breakpoints d.counted_from d.position
