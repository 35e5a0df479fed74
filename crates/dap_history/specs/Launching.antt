-- Defines `launch`. Profile: a session launches one program, whose text has no fault.
use Rattle.std.specs.Prelude.{◌≡◌, ℕ, ◌⊎◌, List, [], ◌∷◌, Option, None, Some}
use Rattle.dap_msg.specs.declared.requests.launch.LaunchArguments.{LaunchArguments}
use Rattle.dap_msg.specs.declared.request.Request.{Request}
use Rattle.dap_msg.specs.declared.command.Command.{Command}
use Rattle.dap_msg.specs.declared.command.Command.TheVariants as command
use Rattle.dap_msg.specs.declared.outgoing.Body.TheVariants as body
use Rattle.dap_msg.specs.declared.outgoing.Refusal.{Refusal}
use Rattle.dap_msg.specs.declared.outgoing.Refusal.TheVariants as refusal
use Rattle.dap_msg.specs.declared.outgoing.EventBody.TheVariants as event
use Rattle.pl0_tree.specs.Tree.{Block}
use Rattle.pl0_tree.specs.declared.tree.Place.{Place}
use Rattle.pl0_tree.specs.declared.fault.FaultKind.{FaultKind}
use Rattle.pl0_tree.specs.Faults.{fault_number, IsFirstFault, IsTreeOf}
use Rattle.dap_history.specs.declared.situation.Situation.{Situation}
use Rattle.dap_history.specs.declared.situation.Situation.TheVariants.{Ready}
use Rattle.dap_history.specs.declared.launch.Launch.{Launch}
use Rattle.dap_history.specs.History.{Effect}
use Rattle.dap_history.specs.Replies.{Reply, nothing, refused, reply_with}

-- the launch that a request asks for, which waits for its file, if it asks for one
abbrev pub wanted_by : ℕ → Command → Option Launch
wanted_by seq (command.Launch arguments) = Some (record { seq = seq; arguments = arguments })
wanted_by seq _ = None

-- In the situation Ready a `launch` whose arguments fit waits for its file. In any other it is refused at once.
abbrev pub wanted_in : Situation → Option Request → Option Launch
wanted_in Ready (Some request) = wanted_by request.seq request.body
wanted_in _ _ = None

-- the refusal of a text with this fault
abbrev pub syntax : FaultKind → Place → Refusal
syntax kind place = refusal.Syntax (fault_number kind) place.line place.column

-- what a launch of this program causes
abbrev pub launches : LaunchArguments → List ℕ → Block → Effect
launches arguments text program =
    record nothing {
      events = event.Initialized ∷ [];
      launched = Some
          (record {
            path = arguments.program;
            stop_on_entry = arguments.stop_on_entry;
            text = text;
            program = program;
          });
    }

-- the text has faults, and the first of them is reported
pub record RefusesText (text : List ℕ) (reply : Reply) : Type 0 where
  pub kind : FaultKind
  pub place : Place
  pub first : IsFirstFault text kind place
  pub reply_is : reply ≡ refused (syntax kind place)

-- the text is a program, which is launched
pub record LaunchesText (arguments : LaunchArguments) (text : List ℕ) (reply : Reply) : Type 0 where
  pub program : Block
  pub reads : ∥ IsTreeOf text program ∥₁
  pub reply_is : reply ≡ reply_with body.None (launches arguments text program)

-- The reply to a launch with its file's bytes, or none where the file can't be read.
abbrev pub Launches : LaunchArguments → Option (List ℕ) → Reply → Type 0
Launches arguments None reply = reply ≡ refused refusal.CannotRead
Launches arguments (Some text) reply = RefusesText text reply ⊎ LaunchesText arguments text reply
