-- In Fresh and Ready nothing is launched: only the first `initialize` leads to Ready.
use Rattle.dap_history.proofs.Common.{Answers, Body, Command, CommandName, Event, EventBody, Fresh, History, None, Ok, Option, PlainOrder, Reaction, Ready, Refusal, RepliesIn, Reply, Situation, Some, Step, [], answer_mark, command_mark, event_mark, last_such, message_mark, name_of, or_else, order_mark, reply_of, step_mark, unwrap_or, with_answer, ℕ, ◌∷◌, ◌≡◌, ◌⊎◌}
use Rattle.std.proofs.Common.{List}
use Rattle.std.specs.Prelude.{map, Result}
use Rattle.dap_history.proofs.Told.{by_stop_mark}
use Rattle.dap_history.proofs.Reacted.{IsCalm, Reacted, by_answering, by_reaction}
use Rattle.std.proofs.Common.{arith}
use Rattle.std.proofs.lemmas.Grind.{common_steps}

abbrev pub IsEarly : Situation → Type 0
IsEarly Fresh = Unit {0}
IsEarly Ready = Unit {0}
IsEarly _ = ⊥

abbrev pub IsEarlyMark : Option Situation → Type 0
IsEarlyMark None = ⊥
IsEarlyMark (Some s) = IsEarly s

-- of two marks, neither early
neither : (a b : Option Situation) → ¬ IsEarlyMark a → ¬ IsEarlyMark b → ¬ IsEarlyMark (or_else a b)
neither a b not_a not_b is = grind (arith, common_steps) steps 200000

order_late : (o : PlainOrder) → ¬ IsEarlyMark (order_mark o)
order_late o is = grind (arith, common_steps) steps 200000

orders_late : (os : List PlainOrder) → ¬ IsEarlyMark (last_such order_mark os)
orders_late [] is = is
orders_late (o ∷ os) is = neither (last_such order_mark os) (order_mark o) (orders_late os) (order_late o) is

event_late : (e : EventBody) → ¬ IsEarlyMark (event_mark e)
event_late e is = grind (arith, common_steps, by_stop_mark) steps 200000

events_late : (es : List EventBody) → ¬ IsEarlyMark (last_such message_mark (map Event es))
events_late [] is = is
events_late (e ∷ es) is = grind (arith, common_steps, neither, map, events_late es, event_late) steps 1500000

-- a step without an answer leads to neither
pub unanswered_late : (step : Step) → step.answer ≡ None → ¬ IsEarlyMark (step_mark step)
unanswered_late step none is =
    grind (arith, common_steps, neither, map, orders_late, events_late, with_answer) steps 1500000

-- nor one whose answer doesn't
pub answered_late : (seq : ℕ) (command : CommandName) (reply : Reply) (step : Step) → Answers seq command reply step
    → ¬ IsEarlyMark (answer_mark command reply.result) → ¬ IsEarlyMark (step_mark step)
answered_late seq command reply step answers not is =
    grind (arith, common_steps, neither, map, orders_late, events_late, with_answer) steps 1500000

pub result_late : (command : CommandName) → ¬ IsEarlyMark (command_mark command) → (result : Result Body Refusal)
    → ¬ IsEarlyMark (answer_mark command result)
result_late command not result is = grind (arith, common_steps) steps 200000

calm_early : (past : History) (s : Situation) (asked : Command) (b : Body) → IsCalm past s asked b
    → IsEarlyMark (answer_mark (name_of asked) (Ok b)) → s ≡ Fresh
calm_early past s asked b calm early = grind (arith, common_steps) steps 200000

reaction_early : (past : History) {s : Situation} {asked : Command} {reaction : Reaction}
    → Reacted past s asked reaction
    → IsEarlyMark (answer_mark (name_of asked) (reply_of past reaction).result) → s ≡ Fresh
reaction_early past (by_answering s asked b calm) early = calm_early past s asked b calm early
reaction_early past _ early = absurd early

-- an answer that leads to Ready is given in Fresh
pub early_reply : (s : Situation) (past : History) (asked : Command) (reply : Reply) → RepliesIn s past asked reply
    → IsEarlyMark (answer_mark (name_of asked) reply.result) → s ≡ Fresh
early_reply s past asked reply is early = grind (arith, common_steps, by_reaction, reaction_early) steps 1500000

pub early_unwrap : (o : Option Situation) (s : Situation) → IsEarly (unwrap_or o s) → IsEarlyMark o
    ⊎ ((o ≡ None) × IsEarly s)
early_unwrap o s is = grind (arith, common_steps) steps 200000
