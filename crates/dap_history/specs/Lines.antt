-- States the laws of breakpoints: each run has those of the lines that were set last, and counts from where they were
-- set.
use Rattle.std.specs.Prelude.{◌≡◌, [], ℕ, ◌+◌, Bool, true, false, ◌||◌, if◌then◌else◌, is_some, List, Option, None, Some, option_map, unwrap_or, Ok}
use Rattle.std.specs.Option.{option_map_or}
use Rattle.dap_msg.specs.declared.command.Command.{Command}
use Rattle.dap_msg.specs.declared.command.Command.TheVariants as command
use Rattle.dap_msg.specs.declared.outgoing.Outgoing.{Outgoing}
use Rattle.dap_msg.specs.declared.outgoing.Outgoing.TheVariants.{Answer}
use Rattle.dap_msg.specs.declared.requests.initialize.InitializeArguments.{InitializeArguments}
use Rattle.dap_msg.specs.declared.outgoing.BreakpointAnswer.{BreakpointAnswer}
use Rattle.dap_msg.specs.declared.requests.set_breakpoints.SourceBreakpoint.{SourceBreakpoint}
use Rattle.dbg_plan.specs.Breakpoints.{Breakpoint}
use Rattle.dbg_runner.specs.Plain.{Heading}
use Rattle.dap_history.specs.declared.situation.Situation.{Situation}
use Rattle.dap_history.specs.declared.situation.Situation.TheVariants.{Configuring, Stopped, Faulted}
use Rattle.dap_history.specs.Last.{last_such}
use Rattle.dap_history.specs.History.{Launched, Item, Content, Step, History}
use Rattle.dap_history.specs.Readings.{situation, launched, last_run, is_back, plan}
use Rattle.dap_history.specs.Initialized.{IsInitializedBy, less_by}
use Rattle.dap_history.specs.LineAnswers.{GiveBreakpoints}
use Rattle.std.specs.Str.{bytes_eq}
use Rattle.dap_history.specs.Considered.{starts_by}
use Rattle.dap_history.specs.Stops.{run_in, Orders}
use Rattle.dap_history.specs.Always.{OfLawfulHistories, OfLawfulSteps}

-- ---- lines

-- the lines that a command sets at this path, if it sets any
abbrev pub lines_at : List ℕ → Command → Option (List SourceBreakpoint)
lines_at path (command.SetBreakpoints asked) =
    if option_map_or (λ p. bytes_eq p path) asked.path false then Some asked.breakpoints else None
lines_at path _ = None

-- the lines that an item sets at this path, if it is granted and sets any
abbrev pub lines_by : List ℕ → Item → Option Outgoing → Option (List SourceBreakpoint)
lines_by path (Content (Some request)) (Some (Answer seq command (Ok body))) = lines_at path request.body
lines_by path _ _ = None

-- the lines that were set last at this path
abbrev pub lines_set : List ℕ → History → Option (List SourceBreakpoint)
lines_set path past = last_such (λ step. lines_by path step.item step.answer) past

-- the breakpoints of lines, as the client counts them; there are none where no lines were set
abbrev pub AreOfLines : Launched → InitializeArguments → Option (List SourceBreakpoint) → List Breakpoint → Type 0
AreOfLines l counting None breakpoints = breakpoints ≡ []
AreOfLines l counting (Some lines) breakpoints =
    (answers : List BreakpointAnswer)
    × GiveBreakpoints l.program (less_by counting.lines_start_at_1) lines answers breakpoints

-- the session has the debuggee: the program isn't started yet, or stands
abbrev pub HasDebuggee : Situation → Type 0
HasDebuggee Configuring = Unit {0}
HasDebuggee Stopped = Unit {0}
HasDebuggee Faulted = Unit {0}
HasDebuggee _ = ⊥

-- While the session has the debuggee, the plan is the breakpoints of the lines set last at the launched path. Each
-- is at the step that its line is answered with, with its condition, hit condition and message. Before the program
-- is started it counts from position 0.
abbrev pub PlanIsOfLines : Type 0
PlanIsOfLines = OfLawfulHistories (λ past.
    HasDebuggee (situation past) → (l : Launched) → launched past ≡ Some l
    → (counting : InitializeArguments) × IsInitializedBy past counting
    × AreOfLines l counting (lines_set l.path past) (plan past).breakpoints
    × (situation past ≡ Configuring → (plan past).counted_from ≡ 0))

-- Each run is under the breakpoints of the lines set last at the launched path.
abbrev pub EachRunHasItsLines : Type 0
EachRunHasItsLines = OfLawfulSteps (λ before step.
    (run : Heading)
    → Orders step run
    → (l : Launched) × (counting : InitializeArguments) × (launched before ≡ Some l) × IsInitializedBy before counting
    × AreOfLines l counting (lines_set l.path before) run.plan)

-- ---- counting

-- whether lines count as set anew after a step, if the step changes it: lines that are set make it so, and a run that
-- is ordered or the start of the program ends it
abbrev pub anew_mark : List ℕ → Step → Option Bool
anew_mark path step =
    if is_some (run_in step) || starts_by step.answer then Some false else option_map (λ lines. true)
    (lines_by path step.item step.answer)

-- lines were set since the program was started, and since the last run was ordered
abbrev pub are_anew : List ℕ → History → Bool
are_anew path past = unwrap_or (last_such (anew_mark path) past) false

-- from where a run counts: from the position after its beginning, if anew; otherwise as the run before it, or from 0
abbrev pub next_counted : Bool → Option Heading → ℕ → ℕ
next_counted true last start = start + 1
next_counted false last start = option_map_or (λ run. run.counted_from) last 0

-- from where a run that begins at this position counts
abbrev pub first_counted : History → Launched → Option Outgoing → ℕ → ℕ
first_counted past l answer start =
    if starts_by answer then 0 else next_counted (are_anew l.path past || is_back past) (last_run past) start

-- The run that starts the program counts from position 0. A later run counts from the position after its beginning
-- if lines were set since the run before it, or if that run went back; otherwise from where that run counts, or from
-- 0 if none was.
abbrev pub EachRunCountsFrom : Type 0
EachRunCountsFrom = OfLawfulSteps (λ before step.
    (run : Heading)
    → Orders step run
    → (l : Launched) × (launched before ≡ Some l) × (run.counted_from ≡ first_counted before l step.answer run.start))
