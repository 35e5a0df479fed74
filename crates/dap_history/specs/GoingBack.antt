-- States the laws of going back: which command asked for a run that goes back, and how the run is ordered.
use Rattle.dap_msg.specs.declared.requests.resume.RetreatKind.TheVariants as retreat
use Rattle.dbg_plan.specs.declared.mode.Mode.TheVariants as mode
use Rattle.std.specs.Prelude.{◌≡◌, ℕ, ◌+◌, true, if◌then◌else◌, Option, None, Some, IsSome, Ok}
use Rattle.dap_msg.specs.declared.command.Command.{Command}
use Rattle.dap_msg.specs.declared.command.Command.TheVariants as command
use Rattle.dap_msg.specs.declared.command.CommandName.{CommandName}
use Rattle.dap_msg.specs.declared.outgoing.Outgoing.TheVariants.{Answer}
use Rattle.dap_msg.specs.declared.outgoing.Body.{Body}
use Rattle.dbg_plan.specs.declared.mode.Mode.{Mode}
use Rattle.dbg_runner.specs.Plain.{Heading, PlainOrder, Hold, goes_back}
use Rattle.dap_history.specs.Last.{last_such}
use Rattle.dap_history.specs.History.{Item, Content}
use Rattle.dap_history.specs.Readings.{is_back}
use Rattle.dap_history.specs.Stops.{run_in, Orders}
use Rattle.dap_history.specs.Always.{OfLawfulSteps, OfSteps}

-- the mode in which a command goes back, if it does
abbrev pub back_by : Command → Option Mode
back_by (command.Retreat retreat.StepBack asked) = Some mode.StepBack
back_by (command.Retreat retreat.ReverseContinue asked) = Some mode.Reverse
back_by _ = None

-- the mode in which an item asks to go back, if it does
abbrev pub back_in : Item → Option Mode
back_in (Content (Some request)) = back_by request.body
back_in _ = None

-- the mode of a run, if it goes back
abbrev pub back_of : Heading → Option Mode
back_of run = if goes_back run.mode then Some run.mode else None

-- A run goes back exactly when a granted `stepBack` or `reverseContinue` asks for it, in its mode.
-- `EachStopIsAsAsked` says where it leads.
abbrev pub EachGoesBackAsAsked : Type 0
EachGoesBackAsAsked = OfLawfulSteps (λ before step.
    ((run : Heading) → Orders step run → back_of run ≡ back_in step.item)
    × ((m : Mode) (seq : ℕ) (name : CommandName) (b : Body) → back_in step.item ≡ Some m
    → step.answer ≡ Some (Answer seq name (Ok b)) → IsSome (run_in step)))

-- A run after one that went back counts from the position after its beginning.
abbrev pub CountsBeginAnew : Type 0
CountsBeginAnew = OfLawfulSteps (λ before step.
    (run : Heading)
    → Orders step run
    → is_back before ≡ true → run.counted_from ≡ run.start + 1)

-- the number of the run that an order holds, if it holds one
abbrev pub held_by : PlainOrder → Option ℕ
held_by (Hold run) = Some run
held_by _ = None

-- No run that goes back is ordered to hold.
abbrev pub RetreatsAreNotHeld : Type 0
RetreatsAreNotHeld = OfSteps (λ before step.
    is_back before ≡ true → last_such held_by step.effect.orders ≡ None)
