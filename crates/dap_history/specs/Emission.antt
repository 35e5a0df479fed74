-- Defines what each item causes.
use Rattle.std.specs.Prelude.{◌≡◌, ◌++◌, ◌∷◌, [], ℕ, None, Some}
use Rattle.dap_msg.specs.Commands.{name_of}
use Rattle.dap_msg.specs.declared.command.Command.{Command}
use Rattle.dap_msg.specs.declared.command.CommandName.{CommandName}
use Rattle.dap_msg.specs.declared.command.CommandName.TheVariants as name
use Rattle.dap_msg.specs.declared.command.Supported.TheVariants as supported
use Rattle.dap_msg.specs.declared.outgoing.Outgoing.TheVariants.{Answer}
use Rattle.dap_history.specs.declared.situation.Situation.{Situation}
use Rattle.dbg_runner.specs.Plain.{Quit}
use Rattle.dap_history.specs.History.{Item, Content, Loaded, Accepted, Fault, InputEnd, ReadFailure, MemoryFailure, Step, History, Effect}
use Rattle.dap_history.specs.Readings.{situation}
use Rattle.dap_history.specs.Replies.{Reply, nothing, only_orders}
use Rattle.dap_history.specs.Launching.{Launches}
use Rattle.dap_history.specs.Reactions.{Reaction, Reacts, reply_of}
use Rattle.dap_history.specs.Reports.{report_effect}

-- the reply to a command: that of a reaction which the table has
pub record RepliesIn (s : Situation) (past : History) (asked : Command) (reply : Reply) : Type 0 where
  pub reaction : Reaction
  pub reacts : Reacts s past asked reaction
  pub reply_is : reply ≡ reply_of past reaction

-- the step answers a request, and does what the reply says
pub record Answers (seq : ℕ) (command : CommandName) (reply : Reply) (step : Step) : Type 0 where
  pub answer_is : step.answer ≡ Some (Answer seq command reply.result)
  pub effect_is : step.effect ≡ reply.effect

-- the step answers nothing, and has this effect
pub record HasEffect (effect : Effect) (step : Step) : Type 0 where
  pub answer_is : step.answer ≡ None
  pub effect_is : step.effect ≡ effect

-- What an item causes: one answer for each request, and what follows it.
abbrev pub Causes : History → Item → Step → Type 0
Causes past (Content None) step = HasEffect nothing step
Causes past (Content (Some request)) step =
    (reply : Reply) × RepliesIn (situation past) past request.body reply
    × Answers request.seq (name_of request.body) reply step
Causes past (Loaded launch file) step =
    (reply : Reply) × Launches launch.arguments file reply × Answers launch.seq (name.Supported supported.Launch) reply
    step
Causes past (Accepted r) step = HasEffect (report_effect past r r.outcome) step
Causes past (Fault k) step = HasEffect nothing step
Causes past InputEnd step = HasEffect (only_orders (Quit ∷ [])) step
Causes past ReadFailure step = HasEffect (only_orders (Quit ∷ [])) step
Causes past MemoryFailure step = HasEffect nothing step

-- the history after one more item
pub record IsAfter (past : History) (item : Item) (new : History) : Type 0 where
  pub step : Step
  pub item_is : step.item ≡ item
  pub causes : Causes past item step
  pub new_is : new ≡ past ++ step ∷ []
