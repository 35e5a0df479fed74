-- States the law of `setBreakpoints`: what each of its lines is answered with. Defines which breakpoints they give.
use Rattle.std.specs.Prelude.{◌≡◌, ◌++◌, ◌∷◌, [], ℕ, ◌+◌, ◌-◌, List, map, slice_get, None, Some}
use Rattle.dap_msg.specs.declared.request.Request.{Request}
use Rattle.dap_msg.specs.declared.command.Command.TheVariants as command
use Rattle.dap_msg.specs.declared.requests.initialize.InitializeArguments.{InitializeArguments}
use Rattle.dap_msg.specs.declared.requests.set_breakpoints.SetBreakpointsArguments.{SetBreakpointsArguments}
use Rattle.dap_msg.specs.declared.requests.set_breakpoints.SourceBreakpoint.{SourceBreakpoint}
use Rattle.dap_msg.specs.declared.outgoing.Body.TheVariants as body
use Rattle.dap_msg.specs.declared.outgoing.BreakpointAnswer.{BreakpointAnswer}
use Rattle.dap_msg.specs.declared.outgoing.BreakpointAnswer.TheVariants as answer
use Rattle.dap_msg.specs.declared.outgoing.BreakpointRefusal.TheVariants as why
use Rattle.pl0_tree.specs.Tree.{Block}
use Rattle.pl0_tree.specs.Steps.{StepAt, steps}
use Rattle.dbg_plan.specs.Breakpoints.{Breakpoint}
use Rattle.dbg_plan.specs.Resolutions.{step_from, ReadsConditionAt, ReadsRule, ReadsMessageAt, HasConditionAt, HasRule, HasMessageAt}
use Rattle.dap_history.specs.History.{Launched, Step, History}
use Rattle.dap_history.specs.Readings.{launched}
use Rattle.dap_history.specs.Runs.{Grants}
use Rattle.dap_history.specs.Initialized.{IsInitializedBy, less_by}
use Rattle.dap_history.specs.Always.{OfHistories}

-- A line, of a client whose lines are so much less than counted from 1, is answered with the line of the first step at
-- or after it, if its condition, its hit condition and its message read there; or else with the first reason why not.
abbrev pub AnswersLine : Block → ℕ → SourceBreakpoint → BreakpointAnswer → Type 0
AnswersLine main less b (answer.At n) =
    (i : ℕ) × (s : StepAt) × (step_from main (b.line + less) ≡ Some i) × (slice_get (steps main) i ≡ Some s)
    × (n ≡ s.place.line - less) × HasConditionAt main i b.condition × HasRule b.hit_condition
    × HasMessageAt main i b.log_message
AnswersLine main less b (answer.Unverified why.OtherSource) = ⊥
AnswersLine main less b (answer.Unverified why.NoStep) = step_from main (b.line + less) ≡ None
AnswersLine main less b (answer.Unverified why.BadCondition) =
    (i : ℕ) × (step_from main (b.line + less) ≡ Some i) × (¬ HasConditionAt main i b.condition)
AnswersLine main less b (answer.Unverified why.BadHitCondition) =
    (i : ℕ) × (step_from main (b.line + less) ≡ Some i) × HasConditionAt main i b.condition
    × (¬ HasRule b.hit_condition)
AnswersLine main less b (answer.Unverified why.BadLogMessage) =
    (i : ℕ) × (step_from main (b.line + less) ≡ Some i) × HasConditionAt main i b.condition
    × HasRule b.hit_condition × (¬ HasMessageAt main i b.log_message)

-- each line, in order
abbrev pub AnswersLines : Block → ℕ → List SourceBreakpoint → List BreakpointAnswer → Type 0
AnswersLines main less [] [] = Unit {0}
AnswersLines main less (b ∷ bs) (a ∷ answers) = AnswersLine main less b a × AnswersLines main less bs answers
AnswersLines main less _ _ = ⊥

-- the breakpoint of a line at step i: its condition, rule and message are what the line's texts read as there
pub record IsBreakpointAt (main : Block) (i : ℕ) (line : SourceBreakpoint) (b : Breakpoint) : Type 0 where
  pub step_is : b.step ≡ i
  pub condition_is : ReadsConditionAt main i line.condition b.condition
  pub rule_is : ReadsRule line.hit_condition b.rule
  pub message_is : ReadsMessageAt main i line.log_message b.message

-- A line that is answered with a step gives a breakpoint there; any other gives none.
abbrev pub GivesBreakpoint : Block → ℕ → SourceBreakpoint → BreakpointAnswer → List Breakpoint → Type 0
GivesBreakpoint main less line (answer.At n) bs =
    (i : ℕ) × (b : Breakpoint) × (step_from main (line.line + less) ≡ Some i) × (bs ≡ b ∷ [])
    × IsBreakpointAt main i line b
GivesBreakpoint main less line (answer.Unverified why) bs = bs ≡ []

-- each line, in order, with its answer and the breakpoints that it gives, one or none
abbrev pub GiveBreakpoints : Block → ℕ → List SourceBreakpoint → List BreakpointAnswer → List Breakpoint → Type 0
GiveBreakpoints main less [] [] bs = bs ≡ []
GiveBreakpoints main less (line ∷ lines) (a ∷ answers) bs =
    (mine : List Breakpoint) × (rest : List Breakpoint) × (bs ≡ mine ++ rest) × AnswersLine main less line a
    × GivesBreakpoint main less line a mine × GiveBreakpoints main less lines answers rest
GiveBreakpoints main less _ _ bs = ⊥

-- A granted `setBreakpoints` is answered line by line, with the line of a step, the first reason why not, or
-- `otherSource`. At the launched path it is the line of the first step at or after it, in the client's own counting,
-- or a reason; at any other path, or none, it is `otherSource`.
abbrev pub LinesAreAnswered : Type 0
LinesAreAnswered = OfHistories (λ past.
    (before : History) (step : Step) (after : History) (request : Request) (asked : SetBreakpointsArguments)
    → past ≡ before ++ step ∷ after → (granted : Grants step request)
    → request.body ≡ command.SetBreakpoints asked
    → (l : Launched) × (counting : InitializeArguments) × (answers : List BreakpointAnswer)
    × (launched before ≡ Some l) × IsInitializedBy before counting × (granted.body ≡ body.Breakpoints answers)
    × (asked.path ≡ Some l.path
    → AnswersLines l.program (less_by counting.lines_start_at_1) asked.breakpoints answers)
    × ((¬ (asked.path ≡ Some l.path)) → answers ≡ map (λ b. answer.Unverified why.OtherSource) asked.breakpoints))
