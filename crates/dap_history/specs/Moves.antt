-- States the laws of what moves the program: whether it stops at position 0, that a pause stops it, and that each stop
-- is the one that the user's command asks for.
use Rattle.std.specs.Prelude.{◌≡◌, ◌++◌, ◌∷◌, ℕ, ◌+◌, ◌-◌, ◌<◌, ◌≤◌, nat_le, nat_lt, Bool, true, false, ◌&&◌, if◌then◌else◌, List, Option, None, Some, IsSome, is_some, is_none, All}
use Rattle.std.specs.List.{list_any}
use Rattle.dap_msg.specs.declared.request.Request.{Request}
use Rattle.dap_msg.specs.declared.command.Command.{Command}
use Rattle.dap_msg.specs.declared.command.Command.TheVariants as command
use Rattle.dap_msg.specs.declared.requests.resume.ThreadArguments.{ThreadArguments}
use Rattle.dap_msg.specs.declared.requests.resume.ResumeKind.TheVariants as resume
use Rattle.dap_msg.specs.declared.requests.resume.RetreatKind.{RetreatKind}
use Rattle.dap_msg.specs.declared.requests.resume.RetreatKind.TheVariants as retreat
use Rattle.dap_msg.specs.declared.outgoing.StopReason.{StopReason}
use Rattle.dap_msg.specs.declared.outgoing.StopReason.TheVariants as stop
use Rattle.pl0_meaning.specs.declared.RunFault.{RunFault}
use Rattle.pl0_meaning.specs.Values.{Frame, Configuration}
use Rattle.pl0_meaning.specs.Runs.{at, outcome, Faults}
use Rattle.dbg_plan.specs.Breakpoints.{Breakpoint}
use Rattle.dbg_plan.specs.Due.{stops, depth_at}
use Rattle.dbg_runner.specs.Plain.{Heading, PlainReport, goes_back}
use Rattle.dbg_runner.specs.declared.outcome.SliceOutcome.TheVariants as slice
use Rattle.dap_history.specs.declared.situation.Situation.TheVariants.{Running}
use Rattle.dap_history.specs.History.{Launched, Item, Content, Accepted, Step, History}
use Rattle.dap_history.specs.Readings.{situation, launched, last_run, position, plan}
use Rattle.dap_history.specs.Stops.{told_fault, stop_in, StopsAt, run_in}
use Rattle.dap_history.specs.Runs.{Grants}
use Rattle.dap_history.specs.Always.{OfLawfulHistories, OfLawfulSteps, OfSteps}

-- ---- position 0

-- why the program stops at position 0, if it does: at a breakpoint there, or else, with `stopOnEntry`, at the entry
abbrev pub first_stop : Launched → List Breakpoint → Option StopReason
first_stop l breakpoints =
    if list_any (stops l.program 0 0) breakpoints then Some stop.Breakpoint
    else (if l.stop_on_entry then Some stop.Entry else None)

-- A granted `configurationDone` stops the program at position 0 where a breakpoint does, or else `stopOnEntry`, and
-- otherwise lets it run.
abbrev pub PositionZeroIsConsidered : Type 0
PositionZeroIsConsidered = OfLawfulSteps (λ before step.
    (request : Request)
    → Grants step request → request.body ≡ command.ConfigurationDone
    → (l : Launched) × (launched before ≡ Some l) × (stop_in step ≡ first_stop l (plan before).breakpoints)
    × (is_some (run_in step) ≡ is_none (stop_in step)))

-- ---- pauses

-- a `pause` was granted, and no run was ordered since
pub record PauseWaits (past : History) : Type 0 where
  pub early : History
  pub step : Step
  pub later : History
  pub past_is : past ≡ early ++ step ∷ later
  pub request : Request
  pub asked : ThreadArguments
  pub granted : Grants step request
  pub pause_is : request.body ≡ command.Pause asked
  pub none_since : All (λ (s : Step). run_in s ≡ None) later

-- The program stops with the reason `pause` exactly when its run was held and a `pause` was granted since that was
-- ordered. Where none was, another run is ordered.
abbrev pub PausesStop : Type 0
PausesStop = OfSteps (λ before step.
    ((r : PlainReport) → step.item ≡ Accepted r → r.outcome ≡ slice.Held
    → (PauseWaits before → stop_in step ≡ Some stop.Pause)
    × (¬ PauseWaits before → (stop_in step ≡ None) × IsSome (run_in step)))
    × (stop_in step ≡ Some stop.Pause
    → (r : PlainReport) × (step.item ≡ Accepted r) × (r.outcome ≡ slice.Held) × PauseWaits before))

-- ---- what a command asks for

-- the item is a request
abbrev pub is_request_item : Item → Bool
is_request_item (Content (Some request)) = true
is_request_item _ = false

-- the step is a request that lets the program run
abbrev pub sets_going : Step → Bool
sets_going step = is_some (run_in step) && is_request_item step.item

-- After these steps the program goes by this command: it is the last that let the program run. The program stood at
-- position `from` when it was asked.
pub record GoesBy (past : History) (asked : Command) (from : ℕ) : Type 0 where
  pub early : History
  pub step : Step
  pub later : History
  pub past_is : past ≡ early ++ step ∷ later
  pub request : Request
  pub granted : Grants step request
  pub asked_is : request.body ≡ asked
  pub from_is : from ≡ position early
  pub goes : sets_going step ≡ true
  pub last : All (λ (s : Step). sets_going s ≡ false) later

-- A command is done where n frames are alive, if d were when it was asked: `stepIn` at once, `next` where there are no
-- more, `stepOut` where there are fewer. `continue` and the start of the program never are.
abbrev pub is_done : Command → ℕ → ℕ → Bool
is_done (command.Resume resume.StepIn asked) d n = true
is_done (command.Resume resume.Next asked) d n = nat_le n d
is_done (command.Resume resume.StepOut asked) d n = nat_lt n d
is_done _ d n = false

-- a breakpoint stops the program at position m, where arrivals are counted from position t
abbrev pub is_met : Launched → Heading → ℕ → ℕ → Bool
is_met l run t m = list_any (stops l.program t m) run.plan

-- why the run has to stop at position m, if it has: at a breakpoint, or else since the command is done
abbrev pub reason_at : Launched → Heading → Command → ℕ → ℕ → Option StopReason
reason_at l run asked from m =
    if is_met l run run.counted_from m then Some stop.Breakpoint
    else (if is_done asked (depth_at l.program from) (depth_at l.program m) then Some stop.Step else None)

-- the run had nowhere to stop after its beginning and before m
abbrev pub NowhereBefore : Launched → Heading → Command → ℕ → ℕ → Type 0
NowhereBefore l run asked from m = (k : ℕ) → run.start < k → k < m → reason_at l run asked from k ≡ None

-- the same, up to and including m
abbrev pub NowhereUpTo : Launched → Heading → Command → ℕ → ℕ → Type 0
NowhereUpTo l run asked from m = (k : ℕ) → run.start < k → k ≤ m → reason_at l run asked from k ≡ None

-- A run forward stopped at m for this reason: where it was held for a pause; before a step that faults, with that
-- fault; or at the first position after its beginning where it had to.
abbrev pub StopsForward : Launched → Heading → Command → ℕ → StopReason → ℕ → Type 0
StopsForward l run asked from stop.Pause m = (run.start ≤ m) × NowhereUpTo l run asked from m
StopsForward l run asked from (stop.Exception x) m =
    (fault : RunFault) × (x ≡ told_fault fault) × (outcome l.program m ≡ Faults fault) × (run.start ≤ m)
    × NowhereUpTo l run asked from m
StopsForward l run asked from reason m =
    (reason_at l run asked from m ≡ Some reason) × (run.start < m) × NowhereBefore l run asked from m

-- no breakpoint stops the program from position m on, before the run's beginning; for going back arrivals are counted
-- from position 0
abbrev pub NoneMet : Launched → Heading → ℕ → Type 0
NoneMet l run m = (k : ℕ) → m ≤ k → k < run.start → is_met l run 0 k ≡ false

-- A run back stopped at m for this reason. `stepBack`: at the position before, with `step`. `reverseContinue`: at the
-- last position before where a breakpoint stops the program, with `breakpoint`; or at 0, where none does, with `entry`.
abbrev pub StopsBack : Launched → Heading → RetreatKind → StopReason → ℕ → Type 0
StopsBack l run retreat.StepBack stop.Step m = m ≡ run.start - 1
StopsBack l run retreat.ReverseContinue stop.Breakpoint m =
    (m < run.start) × (is_met l run 0 m ≡ true) × NoneMet l run (m + 1)
StopsBack l run retreat.ReverseContinue stop.Entry m = (m ≡ 0) × NoneMet l run 0
StopsBack l run _ reason m = ⊥

-- one of the two, by the command
abbrev pub StopsAsAsked : Launched → Heading → Command → ℕ → StopReason → ℕ → Type 0
StopsAsAsked l run (command.Retreat kind asked) from reason m = StopsBack l run kind reason m
StopsAsAsked l run asked from reason m = StopsForward l run asked from reason m

-- a frame is alive at position m
abbrev pub IsAlive : Launched → ℕ → Type 0
IsAlive l m = (f : Frame) × (below : Configuration) × (at l.program m ≡ Some (f ∷ below))

-- Each stop of a run is as its command asks, in positions and numbers of frames, with its reason, and no such stop
-- is passed. `stepBack` leads to the position before, `reverseContinue` to where a breakpoint was met last, or to 0.
-- A frame is alive there: where the program has ended, it doesn't stop.
abbrev pub EachStopIsAsAsked : Type 0
EachStopIsAsAsked = OfLawfulHistories (λ past.
    (before : History) (reason : StopReason) (m : ℕ) → StopsAt past before reason m
    → (run : Heading) → last_run before ≡ Some run
    → (l : Launched) × (asked : Command) × (from : ℕ) × (launched before ≡ Some l) × GoesBy before asked from
    × StopsAsAsked l run asked from reason m × IsAlive l m)

-- While it runs forward, the program has come to no position after its run's beginning where its command asks for a
-- stop. So none is passed where a run is held and goes on as another.
abbrev pub NoStopIsPassed : Type 0
NoStopIsPassed = OfLawfulHistories (λ past.
    situation past ≡ Running → (run : Heading) → last_run past ≡ Some run → goes_back run.mode ≡ false
    → (l : Launched) × (asked : Command) × (from : ℕ) × (launched past ≡ Some l) × GoesBy past asked from
    × (run.start ≤ position past) × NowhereUpTo l run asked from (position past))
