-- Defines what follows a launch whose file is a program without faults.
use Rattle.std.specs.Prelude.{◌≡◌, [], ◌∷◌, None, Ok}
use Rattle.dap_msg.specs.declared.requests.initialize.InitializeArguments.{InitializeArguments}
use Rattle.dap_msg.specs.declared.requests.launch.LaunchArguments.{LaunchArguments}
use Rattle.dap_msg.specs.declared.outgoing.Body.TheVariants as body
use Rattle.dap_msg.specs.declared.outgoing.EventBody.TheVariants as event
use Rattle.pl0_tree.specs.declared.program.Tree.{Tree}
use Rattle.pl0_unit.specs.declared.unit.Unit.{Unit as Compiled}
use Rattle.dbg_plan.specs.Trail.{new_trail}
use Rattle.dbg_plan.specs.Debugged.{Debugged}
use Rattle.dap_replies.specs.declared.phase.Phase.TheVariants as phase
use Rattle.dap_replies.specs.declared.phase.Target.{Target}
use Rattle.dap_replies.specs.declared.effect.Reply.{Reply as Given}

-- the target of a launched program, before any run was ordered
abbrev pub target_of : InitializeArguments → LaunchArguments → Target
target_of settings arguments =
    record {
      settings = settings;
      path = arguments.program;
      stop_on_entry = arguments.stop_on_entry;
      runs = 0;
      told = 0;
    }

-- a program at its start, under the empty plan
abbrev pub unstarted : Compiled → Debugged
unstarted unit = record { unit = unit; position = 0; breakpoints = []; counted_from = 0; next = 0; trail = new_trail }

-- the program of the tree waits for its configuration
pub record HasBegun (settings : InitializeArguments) (arguments : LaunchArguments) (tree : Tree) (given : Given) : Type
    0 where
  pub unit : Compiled
  pub tree_is : unit.tree ≡ tree
  pub result_is : given.result ≡ Ok body.None
  pub events_are : given.effect.events ≡ event.Initialized ∷ []
  pub no_order : given.effect.order ≡ None
  pub phase_is : given.effect.phase ≡ phase.Configuring (target_of settings arguments) (unstarted unit)
