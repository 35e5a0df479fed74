-- States the laws of launching: what is launched is the program of the file that came, and nothing else launches one.
use Rattle.std.specs.Prelude.{◌≡◌, ◌⊎◌, ◌∷◌, [], ℕ, List, Option, None, Some, Ok, Err, IsSome}
use Rattle.dap_msg.specs.declared.command.CommandName.TheVariants as name
use Rattle.dap_msg.specs.declared.command.Supported.TheVariants as supported
use Rattle.dap_msg.specs.declared.outgoing.Outgoing.TheVariants.{Answer}
use Rattle.dap_msg.specs.declared.outgoing.Body.TheVariants as body
use Rattle.dap_msg.specs.declared.outgoing.EventBody.TheVariants as event
use Rattle.dap_msg.specs.declared.outgoing.Refusal.{Refusal}
use Rattle.dap_msg.specs.declared.outgoing.Refusal.TheVariants as refusal
use Rattle.pl0_tree.specs.Tree.{Block}
use Rattle.pl0_tree.specs.declared.tree.Place.{Place}
use Rattle.pl0_tree.specs.declared.fault.FaultKind.{FaultKind}
use Rattle.pl0_tree.specs.Faults.{fault_number, IsFirstFault, IsTreeOf}
use Rattle.dap_history.specs.declared.launch.Launch.{Launch}
use Rattle.dap_history.specs.History.{Loaded, Step}
use Rattle.dap_history.specs.Always.{OfSteps}

-- The text is a program. It is launched under the path and with the options of the request; the answer has no body, and
-- `initialized` is all that follows it.
pub record LaunchesIts (launch : Launch) (text : List ℕ) (step : Step) : Type 0 where
  pub program : Block
  pub reads : ∥ IsTreeOf text program ∥₁
  pub launched_is : step.effect.launched ≡ Some
      (record {
        path = launch.arguments.program;
        stop_on_entry = launch.arguments.stop_on_entry;
        text = text;
        program = program;
      })
  pub answer_is : step.answer ≡ Some (Answer launch.seq (name.Supported supported.Launch) (Ok body.None))
  pub events_are : step.effect.events ≡ event.Initialized ∷ []
  pub orders_are : step.effect.orders ≡ []

-- the launch is refused so
abbrev pub RefusesLaunch : Launch → Refusal → Step → Type 0
RefusesLaunch launch why step = step.answer ≡ Some (Answer launch.seq (name.Supported supported.Launch) (Err why))

-- The text is no program, and the launch is refused with the text's first fault: its number, line and column.
pub record RefusesFault (launch : Launch) (text : List ℕ) (step : Step) : Type 0 where
  pub kind : FaultKind
  pub place : Place
  pub first : IsFirstFault text kind place
  pub refusal_is : RefusesLaunch launch (refusal.Syntax (fault_number kind) place.line place.column) step

-- what becomes of a launch by its file's bytes, or none where the file can't be read
abbrev pub EndsLaunch : Launch → Option (List ℕ) → Step → Type 0
EndsLaunch launch None step = RefusesLaunch launch refusal.CannotRead step
EndsLaunch launch (Some text) step = LaunchesIts launch text step ⊎ RefusesFault launch text step

-- A launch launches the program of its file, with its path and options, and `initialized` alone follows; or it is
-- refused. It is refused where the file can't be read, or with its first fault. No other step launches a program.
abbrev pub EachLaunchIsOfItsFile : Type 0
EachLaunchIsOfItsFile = OfSteps (λ before step.
    ((launch : Launch) (file : Option (List ℕ)) → step.item ≡ Loaded launch file → EndsLaunch launch file step)
    × (IsSome step.effect.launched
    → (launch : Launch) × (text : List ℕ) × (step.item ≡ Loaded launch (Some text)) × LaunchesIts launch text step))
