-- Defines how a session stands.
use Rattle.std.specs.Prelude.{ℕ, ◌+◌, ◌^◌, ◌-◌, min, Bool, true, false, List, [], map, Option, None, Some, option_map, string_bytes}
use Rattle.debuggee.specs.Plain.{PlainBreakpoint, PlainFault, plain_breakpoint, plain_fault}
use Rattle.dap_debug.specs.declared.state.Counting.{Counting}
use Rattle.dap_debug.specs.declared.state.Phase.{Phase}
use Rattle.dap_debug.specs.declared.state.Phase.TheVariants as phase
use Rattle.dap_debug.specs.declared.state.State.{State}

-- how a session stands: how far its program has come, the program's path, why the step that was tried last can't be
-- taken, if it can't, the breakpoints that are set, and how the client counts
pub record Standing (S : Type 0) : Type 0 where
  pub phase : Phase S
  pub path : List ℕ
  pub fault : Option PlainFault
  pub breakpoints : List PlainBreakpoint
  pub counting : Counting

abbrev pub standing : {S : Type 0} → State S → Standing S
standing state = record {
  phase = state.phase;
  path = string_bytes state.path;
  fault = option_map plain_fault state.fault;
  breakpoints = map plain_breakpoint state.breakpoints.items;
  counting = state.counting;
}

-- a client that says nothing counts from 1
abbrev pub from_one : Counting
from_one = record { lines_start_at_1 = true; columns_start_at_1 = true }

-- a session that has just begun
abbrev pub unused : {S : Type 0} → Standing S
unused = record { phase = phase.NoProgram; path = []; fault = None; breakpoints = []; counting = from_one }

-- the program, if there is one
abbrev pub program_in : {S : Type 0} → Phase S → Option S
program_in phase.NoProgram = None
program_in (phase.Configuring program stop_on_entry) = Some program
program_in (phase.Running program how) = Some program
program_in (phase.Stopped program) = Some program
program_in (phase.Ended program) = Some program

-- the program runs
abbrev pub is_running : {S : Type 0} → Phase S → Bool
is_running (phase.Running program mode) = true
is_running _ = false

-- ---- lines and columns, as the client counts them

-- by how much a client's numbers are less than those counted from 1: 1 if it counts from 0
abbrev pub offset : Bool → ℕ
offset true = 0
offset false = 1

abbrev pub line_offset : Counting → ℕ
line_offset counting = offset counting.lines_start_at_1

abbrev pub column_offset : Counting → ℕ
column_offset counting = offset counting.columns_start_at_1

-- the number counted from 1 of one that is so much less; the largest is 2^64 - 1
abbrev pub from_client : ℕ → ℕ → ℕ
from_client less number = min (number + less) (2 ^ 64 - 1)
