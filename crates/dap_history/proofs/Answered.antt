-- Each request is answered once.
use Rattle.dap_history.proofs.Common.{Answers, Causes, CommandName, Content, Event, EventBody, History, Item, None, Reply, Some, Step, [], filter_map, filter_map-append, map-append, messages, messages_of, refl, ℕ, ◌++◌, ◌∷◌, ◌≡◌}
use Rattle.std.proofs.Common.{List, arith}
use Rattle.std.specs.Prelude.{map}
use Rattle.dap_history.specs.Laws.{answered_request, request_of_item, EachIsAnsweredOnce}
use Rattle.dap_history.proofs.Readings.{messages_of-snoc}
use Rattle.dap_history.proofs.Along.{IsKept, any_events, along}
use Rattle.std.proofs.lemmas.Grind.{common_steps}

abbrev Once : History → Type 0
Once past = filter_map answered_request (messages_of past) ≡ filter_map request_of_item
    (map (λ (step : Step). step.item) past)

-- events answer nothing
events_answer_nothing : (events : List EventBody) → filter_map answered_request (map Event events) ≡ []
events_answer_nothing [] = refl
events_answer_nothing (e ∷ events) = events_answer_nothing events

answers_once : (seq : ℕ) (command : CommandName) (reply : Reply) (step : Step) → Answers seq command reply step
    → filter_map answered_request (messages step) ≡ (seq, command) ∷ []
answers_once seq command reply step is = cc (is.answer_is, events_answer_nothing step.effect.events)

answers_never : (step : Step) → step.answer ≡ None → filter_map answered_request (messages step) ≡ []
answers_never step is = cc (events_answer_nothing step.effect.events)

-- an item has one answer if it asks, and else none
once_here : (past : History) (item : Item) (step : Step) → Causes past item step
    → filter_map answered_request (messages step) ≡ filter_map request_of_item (item ∷ [])
once_here past (Content (Some request)) step is = answers_once _ _ is.0 step is.2
once_here past item step is = grind (arith, common_steps, answers_once, answers_never) steps 200000

once_more : (past : History) (item : Item) (step : Step) → step.item ≡ item → Causes past item step → Once past
    → Once (past ++ step ∷ [])
once_more past item step item_is causes here =
    grind (arith, common_steps, filter_map, messages_of-snoc, filter_map-append, once_here, map-append) steps 200000

once_kept : IsKept (λ e. Unit {0}) Once
once_kept = grind (arith, common_steps, once_more) steps 200000

pub each_answered : EachIsAnsweredOnce
each_answered f events past rest history =
    along (λ e. Unit {0}) Once once_kept refl f events past rest (any_events events) history
