-- Defines `setBreakpoints`: how its lines are resolved, what they are answered with, and what they cause.
use Rattle.std.specs.Prelude.{ℕ, ◌+◌, ◌-◌, Bool, true, false, ◌||◌, List, [], ◌∷◌, slice_get, map, if◌then◌else◌, Option, Some}
use Rattle.std.specs.Option.{option_map_or}
use Rattle.std.specs.Str.{bytes_eq}
use Rattle.dap_msg.specs.declared.requests.set_breakpoints.SourceBreakpoint.{SourceBreakpoint}
use Rattle.dap_msg.specs.declared.outgoing.BreakpointAnswer.{BreakpointAnswer}
use Rattle.dap_msg.specs.declared.outgoing.BreakpointAnswer.TheVariants as answer
use Rattle.dap_msg.specs.declared.outgoing.BreakpointRefusal.TheVariants as why
use Rattle.pl0_tree.specs.Tree.{Block}
use Rattle.pl0_tree.specs.Steps.{steps}
use Rattle.dbg_plan.specs.Breakpoints.{Breakpoint}
use Rattle.dbg_plan.specs.Resolutions.{AskedLine, AreResolved}
use Rattle.dbg_runner.specs.Plain.{PlainOrder, Hold}
use Rattle.dbg_plan.specs.declared.resolving.Resolution.{Resolution}
use Rattle.dbg_plan.specs.declared.resolving.Resolution.TheVariants.{At, NoStep, BadCondition, BadHitCondition, BadLogMessage}
use Rattle.dap_history.specs.declared.situation.Situation.{Situation}
use Rattle.dap_history.specs.declared.situation.Situation.TheVariants.{Configuring, Running, Stopped, Faulted}
use Rattle.dap_history.specs.History.{History, Effect}
use Rattle.dap_history.specs.Readings.{settings, runs, is_back, position, is_held}
use Rattle.dap_history.specs.Replies.{nothing}

-- ---- lines and columns, as the client counts them

-- By how much a client's numbers are less than those counted from 1: 0 where it counts from 1 too, and 1 where it
-- counts from 0.
abbrev pub offset : Bool → ℕ
offset true = 0
offset false = 1

-- the offset of the client's lines, as it said in `initialize`
abbrev pub line_offset : History → ℕ
line_offset past = offset (settings past).lines_start_at_1

-- the offset of the client's columns
abbrev pub column_offset : History → ℕ
column_offset past = offset (settings past).columns_start_at_1

-- ---- what lines become

-- A line of the request, as the debugger is asked for it: with its number counted from 1, which is `less` more than the
-- client's, and with the client's texts.
abbrev pub asked_as : ℕ → SourceBreakpoint → AskedLine
asked_as less b = record {
  line = b.line + less;
  condition = b.condition;
  hit_condition = b.hit_condition;
  log_message = b.log_message;
}

-- Each line is answered from the program alone. The breakpoints are those that were answered with a step, in the order
-- asked.
abbrev pub IsResolved : Block → ℕ → List SourceBreakpoint → List Resolution → List Breakpoint → Type 0
IsResolved main less lines = AreResolved main (map (asked_as less) lines)

-- the line of step n, from 1
abbrev pub step_line : Block → ℕ → ℕ
step_line main n = option_map_or (λ s. s.place.line) (slice_get (steps main) n) 0

-- the answer to a line, by how it is resolved; its line is counted as the client counts
abbrev pub answer_to_line : Block → ℕ → Resolution → BreakpointAnswer
answer_to_line main less (At n) = answer.At (step_line main n - less)
answer_to_line main less NoStep = answer.Unverified why.NoStep
answer_to_line main less BadCondition = answer.Unverified why.BadCondition
answer_to_line main less BadHitCondition = answer.Unverified why.BadHitCondition
answer_to_line main less BadLogMessage = answer.Unverified why.BadLogMessage

-- ---- what they cause

-- The order to hold the current run, unless that was ordered before. A run that goes back isn't held.
abbrev pub hold_once : History → List PlainOrder
hold_once past = if is_held past || is_back past then [] else Hold (runs past) ∷ []

-- Where the session has the debuggee, the plan is put in at once: before `configurationDone` it counts from position 0,
-- and later from the position after the one where the program stands. During a run the breakpoints wait.
abbrev pub effect_in : Situation → History → List Breakpoint → Effect
effect_in Configuring past bs = record nothing { put_in = Some (record { breakpoints = bs; counted_from = 0 }) }
effect_in Stopped past bs =
    record nothing { put_in = Some (record { breakpoints = bs; counted_from = position past + 1 }) }
effect_in Faulted past bs =
    record nothing { put_in = Some (record { breakpoints = bs; counted_from = position past + 1 }) }
effect_in Running past bs = record nothing { waits = Some bs; orders = hold_once past }
effect_in _ past bs = nothing

-- the source is at this path
abbrev pub is_same_path : Option (List ℕ) → List ℕ → Bool
is_same_path path other = option_map_or (λ p. bytes_eq p other) path false
