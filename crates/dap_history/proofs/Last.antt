-- A `disconnect` that is taken is the last item, and its answer the last message.
use Rattle.dap_history.proofs.Common.{Causes, Content, Ending, History, Incoming, IsTaking, Ok, Some, Step, [], ap, closing, messages, messages_of, subst, with_answer, ℕ, ◌++◌, ◌∙◌, ◌∷◌, ◌≡◌, inl, inr, ◌⊎◌}
use Rattle.dap_msg.specs.declared.command.Command.TheVariants as command
use Rattle.dap_msg.specs.declared.command.CommandName.TheVariants as name
use Rattle.dap_msg.specs.declared.command.Supported.TheVariants.{Disconnect}
use Rattle.dap_msg.specs.declared.outgoing.Outgoing.TheVariants.{Answer}
use Rattle.dap_msg.specs.declared.outgoing.Body.TheVariants as body
use Rattle.dap_history.specs.Laws.{DisconnectIsLast}
use Rattle.dap_history.proofs.Reacted.{replied}
use Rattle.dap_history.proofs.Readings.{last_such-append, messages_of-snoc}
use Rattle.dap_history.proofs.Along.{IsKept, any_events, along}
use Rattle.dap_history.proofs.Each.{splits, none_first, WasTaken, EachTaken, each_kept, each_first}
use Rattle.dap_history.proofs.Passing.{none_left}
use Rattle.std.proofs.Common.{arith}
use Rattle.std.proofs.lemmas.Grind.{common_steps}

-- no item follows one that closes
pub record ClosesLast (past : History) : Type 0 where
  pub last : (before : History) (step : Step) (after : History) (by : Ending) → past ≡ before ++ step ∷ after
      → closing step.item ≡ Some by → after ≡ []

-- where an item closed, none is taken any more
closed_there : (before : History) (step : Step) (after : History) (by : Ending) → closing step.item ≡ Some by
    → ¬ IsTaking (before ++ step ∷ after)
closed_there before step after by closes taking = grind (arith, common_steps, none_left, last_such-append) steps 200000

closes_last_more : (past : History) (s : Step) → IsTaking past → ClosesLast past → ClosesLast (past ++ s ∷ [])
closes_last_more past s taking here = record {
  last = λ before step after by is closes. by_place before step after by closes (splits past s before step after is);
}
  where
    by_place : (before : History) (step : Step) (after : History) (by : Ending) → closing step.item ≡ Some by
        → ((past ≡ before) × (s ≡ step) × (after ≡ [])) ⊎ ((rest : History) × (past ≡ before ++ step ∷ rest))
        → after ≡ []
    by_place before step after by closes (inl is) = is.2
    by_place before step after by closes (inr is) =
        absurd (closed_there before step is.0 by closes (subst IsTaking is.1 taking))

closes_last_kept : (Q : Incoming → Type 0) → IsKept Q ClosesLast
closes_last_kept Q = grind (arith, common_steps, closes_last_more) steps 200000

closes_last_first : ClosesLast []
closes_last_first = record { last = λ before step after by is closes. absurd (none_first before step after is) }

-- the messages of a `disconnect`
answers_it : (past : History) (step : Step) (seq : ℕ) → Causes past
    (Content (Some (record { seq = seq; body = command.Disconnect }))) step
    → messages step ≡ Answer seq (name.Supported Disconnect) (Ok body.None) ∷ []
answers_it past step seq is = grind (arith, common_steps, with_answer, replied) steps 200000

pub disconnect_last : DisconnectIsLast
disconnect_last f events past rest history before step after seq past_is item_is = (
  ends,
  ap messages_of (past_is ∙ ap (λ a. before ++ step ∷ a) ends) ∙ messages_of-snoc before step
      ∙ ap (λ l. messages_of before ++ l)
      (answers_it before step seq (subst (λ i. Causes before i step) item_is was.causes)),
)
  where
    each : EachTaken (λ e. Unit {0}) ClosesLast past
    each = along (λ e. Unit {0}) (EachTaken (λ e. Unit {0}) ClosesLast)
        (each_kept (λ e. Unit {0}) ClosesLast (closes_last_kept (λ e. Unit {0})))
        (each_first (λ e. Unit {0}) ClosesLast closes_last_first) f events past rest (any_events events) history

    was : WasTaken (λ e. Unit {0}) ClosesLast before step
    was = each.each before step after past_is

    ends : after ≡ []
    ends = each.now.last before step after _ past_is (ap closing item_is)
