-- Where the program stands it is where it stopped last, and what is asked there is answered from there.
use Rattle.dap_history.proofs.Common.{Inspects, Reacts, All-append, All-cons, All-nil, Answers, AnswersFrom, Body, Causes, Command, CommandName, Event, EventBody, Faulted, History, Incoming, InspectsAs, IsStopped, Item, Launched, None, OfProgram, Ok, Option, Outgoing, PlainOrder, Question, Reaction, Refusal, RepliesAt, RepliesIn, Reply, Request, Situation, Some, Step, StopReason, Stopped, StoppedLastAt, [], answer_mark, ap, at, command_mark, end_of, event_mark, inl, inr, last_such, launched, message_mark, name_of, or_else, order_mark, refl, reply_of, situation, step_mark, stop_in, stop_of_event, subject_in, subst, sym, unwrap_or, with_answer, ℕ, ◌++◌, ◌∙◌, ◌∷◌, ◌≡◌, ◌⊎◌}
use Rattle.std.proofs.Common.{List, arith}
use Rattle.std.specs.Prelude.{map, Result}
use Rattle.dap_msg.specs.declared.question.Shown.{Shown}
use Rattle.dap_history.specs.Replies.{in_body}
use Rattle.std.proofs.lemmas.List.{append_assoc}
use Rattle.dap_msg.specs.declared.outgoing.Outgoing.TheVariants.{Answer}
use Rattle.dap_msg.specs.declared.outgoing.EventBody.TheVariants as event
use Rattle.dap_history.specs.Readings.{position}
use Rattle.dap_history.specs.Stops.{QuestionsAreAnsweredThere}
use Rattle.dap_history.proofs.Readings.{situation-snoc, position-snoc}
use Rattle.dap_history.proofs.Along.{IsTaken, IsKept, any_events, along}
use Rattle.dap_history.proofs.Each.{WasTaken, EachTaken, each_kept, each_first}
use Rattle.dap_history.proofs.Questions.{inspects_there, result_with}
use Rattle.dap_history.proofs.Reacted.{IsCalm, Reacted, by_answering, by_reaction}
use Rattle.dap_msg.specs.declared.command.Command.TheVariants as command
use Rattle.std.proofs.lemmas.Grind.{common_steps}

-- ---- marks of a kind

-- the mark is a situation of which P holds
abbrev pub MarkIs : (Situation → Type 0) → Option Situation → Type 0
MarkIs P None = ⊥
MarkIs P (Some s) = P s

pub mark_else : (P : Situation → Type 0) (a b : Option Situation) → MarkIs P (or_else a b) → MarkIs P a
    ⊎ ((a ≡ None) × MarkIs P b)
mark_else here a b is = grind (arith, common_steps) steps 200000

pub mark_unwrap : (P : Situation → Type 0) (o : Option Situation) (s : Situation) → P (unwrap_or o s) → MarkIs P o
    ⊎ ((o ≡ None) × P s)
mark_unwrap here o s is = grind (arith, common_steps) steps 200000

-- an answer stands in its place
abbrev pub IsAnswer : Option Outgoing → Type 0
IsAnswer None = Unit {0}
IsAnswer (Some (Answer seq command result)) = Unit {0}
IsAnswer (Some (Event e)) = ⊥

pub answers_only : (past : History) (item : Item) (step : Step) → Causes past item step → IsAnswer step.answer
answers_only past item step is = grind (arith, common_steps) steps 200000

-- ---- a step that leads to where the program stands reports a stop

command_not : (c : CommandName) → ¬ MarkIs IsStopped (command_mark c)
command_not c is = grind (arith, common_steps) steps 200000

answer_not : (c : CommandName) (result : Result Body Refusal) → ¬ MarkIs IsStopped (answer_mark c result)
answer_not c result is = grind (arith, common_steps, command_not) steps 200000

orders_not : (os : List PlainOrder) → ¬ MarkIs IsStopped (last_such order_mark os)
orders_not [] is = is
orders_not (o ∷ os) is = grind (arith, common_steps, orders_not os, mark_else) steps 200000

abbrev pub ReportsStop : List EventBody → Type 0
ReportsStop es = (r : StopReason) × (last_such stop_of_event es ≡ Some r)

stop_else : (e : EventBody) (es : List EventBody) → ReportsStop es → ReportsStop (e ∷ es)
stop_else e es is = (is.0, ap (λ o. or_else o (stop_of_event e)) is.1)

stop_first : (o : Option StopReason) (r : StopReason) → (s : StopReason) × (or_else o (Some r) ≡ Some s)
stop_first None r = (r, refl)
stop_first (Some s) r = (s, refl)

event_stops : (e : EventBody) (es : List EventBody) → MarkIs IsStopped (event_mark e) → ReportsStop (e ∷ es)
event_stops (event.Stopped r) es is = stop_first (last_such stop_of_event es) r
event_stops _ es is = absurd is

events_stop : (es : List EventBody) → MarkIs IsStopped (last_such message_mark (map Event es)) → ReportsStop es
events_stop [] is = absurd is
events_stop (e ∷ es) is = either (events_stop es) (mark_else IsStopped _ _ is)
  where
    either : (MarkIs IsStopped (last_such message_mark (map Event es)) → ReportsStop es)
        → (MarkIs IsStopped (last_such message_mark (map Event es))
        ⊎ ((last_such message_mark (map Event es) ≡ None) × MarkIs IsStopped (event_mark e))) → ReportsStop (e ∷ es)
    either more (inl is) = stop_else e es (more is)
    either more (inr is) = event_stops e es is.1

messages_stop : (a : Option Outgoing) (es : List EventBody) → IsAnswer a
    → MarkIs IsStopped (last_such message_mark (with_answer a (map Event es))) → ReportsStop es
messages_stop a es answer is = grind (arith, common_steps, events_stop, mark_else, answer_not) steps 200000

pub step_stops : (step : Step) → IsAnswer step.answer → MarkIs IsStopped (step_mark step)
    → ReportsStop step.effect.events
step_stops step answer is = grind (arith, common_steps, mark_else, orders_not, messages_stop) steps 200000

-- ---- along a history

-- the program stands where it stopped last
abbrev pub Stood : History → Type 0
Stood past = IsStopped (situation past) → (m : ℕ) × StoppedLastAt past m × (m ≡ position past)

-- no report is accepted where the program stands
moves_nothing : (Q : Incoming → Type 0) (past : History) (item : Item) → IsTaken Q past item
    → IsStopped (situation past) → end_of item ≡ None
moves_nothing here past item taken is = grind (arith, common_steps) steps 200000

stops_here : (past : History) (step : Step) (r : StopReason) → stop_in step ≡ Some r → Stood (past ++ step ∷ [])
stops_here past step r is standing = grind (arith, common_steps, position, All-nil) steps 200000

stands_on : (past : History) (step : Step) (m : ℕ) → stop_in step ≡ None → StoppedLastAt past m
    → StoppedLastAt (past ++ step ∷ []) m
stands_on past step m none was = record {
  early = was.early;
  step = was.step;
  later = was.later ++ step ∷ [];
  past_is = ap (λ h. h ++ step ∷ []) was.past_is ∙ append_assoc was.early (was.step ∷ was.later) (step ∷ []);
  reason = was.reason;
  stop_is = was.stop_is;
  none_later =
      All-append (λ (s : Step). stop_in s ≡ None) was.later (step ∷ []) was.none_later
      (All-cons (λ (s : Step). stop_in s ≡ None) step [] none (All-nil (λ (s : Step). stop_in s ≡ None)));
  position_is = was.position_is;
}

stood_more : (Q : Incoming → Type 0) (past : History) (step : Step) → IsTaken Q past step.item
    → Causes past step.item step → Stood past → Stood (past ++ step ∷ [])
stood_more Q past step taken causes stood = by_stop (stop_in step) refl
  where
    onward : stop_in step ≡ None → (MarkIs IsStopped (step_mark step)
        ⊎ ((step_mark step ≡ None) × IsStopped (situation past)))
        → (m : ℕ) × StoppedLastAt (past ++ step ∷ []) m × (m ≡ position (past ++ step ∷ []))
    onward none (inl is) = grind (arith, common_steps, step_stops, answers_only) steps 200000
    onward none (inr is) =
        let was = stood is.1 in (
          was.0,
          stands_on past step was.0 none was.1,
          cc (was.2, position-snoc past step, moves_nothing Q past step.item taken is.1),
        )

    by_stop : (o : Option StopReason) → stop_in step ≡ o → Stood (past ++ step ∷ [])
    by_stop (Some r) is = stops_here past step r is
    by_stop None none =
        λ standing. onward none (mark_unwrap IsStopped _ _ (subst IsStopped (situation-snoc past step) standing))

pub stood_kept : (Q : Incoming → Type 0) → IsKept Q Stood
stood_kept Q = record {
  step = λ past item new taking taken after here.
      subst Stood (sym after.new_is)
      (stood_more Q past after.step (subst (IsTaken Q past) (sym after.item_is) taken)
      (subst (λ i. Causes past i after.step) (sym after.item_is) after.causes) here);
}

-- ---- questions

-- a question is answered as it is where the program stands; elsewhere it is refused
abbrev AsShown : History → Question → Reply → Type 0
AsShown past q reply =
    (b : Result Shown Refusal) × InspectsAs past q b × (reply.result ≡ in_body b)

inspects_here : (s : Situation) (past : History) (q : Question) (reply : Reply) → IsStopped s
    → RepliesIn s past (command.Inspect q) reply → AsShown past q reply
inspects_here s past q reply stands is = by_reacts s stands is.reacts
  where
    as_shown : Inspects past q is.reaction → AsShown past q reply
    as_shown inspects =
        let there = inspects_there past q is.reaction inspects in (
          there.0,
          there.1,
          ap (λ (r : Reply). r.result) (is.reply_is ∙ ap (reply_of past) there.2) ∙ result_with past there.0,
        )

    by_reacts : (s : Situation) → IsStopped s → Reacts s past (command.Inspect q) is.reaction → AsShown past q reply
    by_reacts Stopped stands reacts = as_shown reacts
    by_reacts Faulted stands reacts = as_shown reacts
    by_reacts _ stands reacts = absurd stands

calm_stands : (past : History) (s : Situation) (q : Question) (b : Body) → IsCalm past s (command.Inspect q) b
    → IsStopped s
calm_stands past s q b calm = grind (arith, common_steps) steps 200000

reaction_stands : (past : History) {s : Situation} {asked : Command} {reaction : Reaction}
    → Reacted past s asked reaction
    → (q : Question) (b : Body) → asked ≡ command.Inspect q → (reply_of past reaction).result ≡ Ok b → IsStopped s
reaction_stands past (by_answering s asked body calm) q b asks granted = calm_stands past s q body (rw (← asks) calm)
reaction_stands past _ q b asks granted = absurd cc

-- the program that is inspected, shown where it stopped last
shown : (before : History) (request : Request) (question : Question) (step : Step) (reply : Reply)
    (b : Result Shown Refusal) → reply.result ≡ in_body b → (l : Option Launched) → launched before ≡ l
    → OfProgram l (λ l. RepliesAt (subject_in before l) (at l.program (position before)) question b)
    → Answers request.seq (name_of request.body) reply step → (m : ℕ) × StoppedLastAt before m × (m ≡ position before)
    → (l : Launched) × (m : ℕ) × (launched before ≡ Some l) × StoppedLastAt before m
    × AnswersFrom l before m request question step
shown before request question step reply b so None is inspects answers stood = absurd inspects
shown before request question step reply b so (Some l) is inspects answers stood =
    (l, stood.0, is, stood.1, record { result = b; shown = rw stood.2 inspects; answer_is = cc answers.answer_is })

pub questions_answered : QuestionsAreAnsweredThere
questions_answered f events past rest history before request question step asks = (
  λ standing.
      let there = inspects_here (situation before) before question causes.0 standing inspects in
      shown before request question step causes.0 there.0 there.2 (launched before) refl there.1 causes.2
      (was.held standing),
  λ b answer. by_reaction (λ (r : Reply). r.result ≡ Ok b → IsStopped (situation before))
      (λ reaction reacted granted. reaction_stands before reacted question b asks.question_is granted) causes.1
      (let e = sym causes.2.answer_is ∙ answer in cc),
)
  where
    each : EachTaken (λ e. Unit {0}) Stood past
    each = along (λ e. Unit {0}) (EachTaken (λ e. Unit {0}) Stood)
        (each_kept (λ e. Unit {0}) Stood (stood_kept (λ e. Unit {0})))
        (each_first (λ e. Unit {0}) Stood (λ is. absurd is)) f events past rest (any_events events) history

    was : WasTaken (λ e. Unit {0}) Stood before step
    was = each.each before step asks.after asks.past_is

    causes : (reply : Reply) × RepliesIn (situation before) before request.body reply
        × Answers request.seq (name_of request.body) reply step
    causes = subst (λ i. Causes before i step) asks.item_is was.causes

    inspects : RepliesIn (situation before) before (command.Inspect question) causes.0
    inspects = subst (λ c. RepliesIn (situation before) before c causes.0) asks.question_is causes.1
