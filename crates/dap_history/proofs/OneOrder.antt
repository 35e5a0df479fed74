-- A step orders at most one thing.
use Rattle.dap_history.proofs.Common.{Breakpoint, Causes, Command, Content, Effect, History, Item, Launch, Launched, Launches, Option, PlainReport, Reaction, Reason, Reply, Situation, SliceOutcome, Some, effect_in, enters, hold_once, report_effect, reply_of, runs, ℕ}
use Rattle.std.proofs.Common.{List, arith}
use Rattle.dap_history.specs.History.{Step}
use Rattle.dap_history.specs.Runs.{EachStepOrdersOnce}
use Rattle.dap_history.proofs.Once.{AtMostOne, only}
use Rattle.dap_history.proofs.Reacted.{Reacted, by_reaction}
use Rattle.dap_history.proofs.Judged.{was_taken}
use Rattle.std.proofs.lemmas.Grind.{common_steps}

abbrev OrdersOnce : Effect → Type 0
OrdersOnce effect = AtMostOne effect.orders

held_once : (past : History) → AtMostOne (hold_once past)
held_once past = grind (arith, common_steps, runs) steps 200000

sets_once : (s : Situation) (past : History) (bs : List Breakpoint) → OrdersOnce (effect_in s past bs)
sets_once s past bs = grind (arith, common_steps, held_once) steps 200000

enters_once : (past : History) (l : Launched) (why : Option Reason) → OrdersOnce (enters past l why)
enters_once past l why = grind (arith, common_steps) steps 200000

reaction_once : (past : History) {s : Situation} {asked : Command} {reaction : Reaction}
    → Reacted past s asked reaction → OrdersOnce (reply_of past reaction).effect
reaction_once past is = grind (arith, common_steps, sets_once, enters_once, held_once) steps 200000

report_once : (past : History) (r : PlainReport) (e : SliceOutcome) → OrdersOnce (report_effect past r e)
report_once past r e = grind (arith, common_steps) steps 200000

launch_once : (launch : Launch) (file : Option (List ℕ)) (reply : Reply) → Launches launch.arguments file reply
    → OrdersOnce reply.effect
launch_once launch file reply is = grind (arith, common_steps) steps 200000

step_once : (past : History) (item : Item) (step : Step) → Causes past item step → OrdersOnce step.effect
step_once past (Content (Some request)) step is =
    rw is.2.effect_is (by_reaction (λ (r : Reply). OrdersOnce r.effect) (λ reaction. reaction_once past) is.1)
step_once past item step is = grind (arith, common_steps, launch_once, report_once) steps 200000

pub each_orders_once : EachStepOrdersOnce
each_orders_once f events past rest history before step after past_is front back order orders_are =
    only step.effect.orders front back order
    (step_once before step.item step (was_taken f events past rest history before step after past_is).causes) orders_are
