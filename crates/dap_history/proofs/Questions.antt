-- A question's answer is that of a reaction which answers or refuses.
use Rattle.dap_history.proofs.Common.{Err, History, Inspects, InspectsAs, Ok, Question, Reaction, Refusal, Refuse, reply_of, ◌≡◌}
use Rattle.std.specs.Prelude.{Result}
use Rattle.dap_msg.specs.declared.question.Shown.{Shown}
use Rattle.dap_msg.specs.declared.outgoing.Body.TheVariants as body
use Rattle.dap_history.specs.Replies.{in_body}
use Rattle.dap_history.specs.Reactions.{Answer}
use Rattle.std.proofs.Common.{arith}
use Rattle.std.proofs.lemmas.Grind.{common_steps}

-- the reaction with this answer
abbrev pub reaction_with : Result Shown Refusal → Reaction
reaction_with (Ok b) = Answer (body.Shown b)
reaction_with (Err why) = Refuse why

-- the reaction to a question has the answer of the place where the program stands
pub inspects_there : (past : History) (q : Question) (reaction : Reaction) → Inspects past q reaction
    → (result : Result Shown Refusal) × InspectsAs past q result × (reaction ≡ reaction_with result)
inspects_there past q reaction is = grind (arith, common_steps) steps 200000

-- each answer to a question is that of a reaction
pub reaction_there : (past : History) (q : Question) (result : Result Shown Refusal) → InspectsAs past q result
    → Inspects past q (reaction_with result)
reaction_there past q result is = grind (arith, common_steps) steps 200000

pub result_with : (past : History) (result : Result Shown Refusal)
    → (reply_of past (reaction_with result)).result ≡ in_body result
result_with past result = grind (arith, common_steps) steps 200000
