-- A run passes no position that is due, and none was ordered before `configurationDone`.
use Rattle.dap_history.proofs.Common.{Accepted, Accepts, Block, Body, Causes, Command, CommandName, Configuring, Content, Effect, Ended, EndsBy, Err, Event, EventBody, Faulted, Go, GoesBackBy, HasEffect, Heading, History, Hold, Incoming, IsLawfulReport, IsPassed, Item, Launch, Launched, Launches, Loaded, None, NoneDueBefore, NoneDueUpTo, Ok, Option, Outgoing, PlainOrder, PlainReport, Quit, Reason, Refusal, RepliesIn, Reply, Running, Situation, SliceOutcome, Some, Step, Stopped, WentBack, WentOn, WrittenJoins, [], answer_mark, ap, arith, cases_lt, command_mark, due, due_in_run, end_of, exited_events, faults, go, goes_back, has_come, has_no_memory, inl, inr, is_spent, lacks_memory, last_run, last_such, launched, message_mark, messages, name_of, or_else, order_mark, refl, report_effect, situation, step_mark, subst, sym, takes_all, unwrap_or, with_answer, ℕ, ⊎_elim, ◌<◌, ◌∙◌, ◌∷◌, ◌≡◌, ◌≤◌, ◌⊎◌}
use Rattle.std.proofs.Common.{List, true}
use Rattle.std.specs.Prelude.{map, Result}
use Rattle.dap_msg.specs.declared.command.CommandName.TheVariants as name
use Rattle.dap_msg.specs.declared.command.Supported.TheVariants as supported
use Rattle.dap_msg.specs.declared.outgoing.Outgoing.TheVariants.{Answer}
use Rattle.dbg_runner.specs.Lawful.{is_held, due_in as due_of}
use Rattle.dbg_runner.specs.declared.outcome.SliceOutcome.TheVariants as slice
use Rattle.dap_history.specs.Readings.{position}
use Rattle.dap_history.proofs.Texts.{OneProgram}
use Rattle.dap_history.proofs.Along.{IsTaken}
use Rattle.dap_history.proofs.Silent.{GoesBy, no_go, of_text, all_silent}
use Rattle.dap_history.proofs.Outputs.{outputs_mark, GoesAs, no_run, as_text, report_goes, report_launches}
use Rattle.dap_history.proofs.Told.{by_stop_mark}
use Rattle.dap_history.proofs.Standing.{MarkIs, mark_else, IsAnswer}
use Rattle.dap_history.proofs.Progress.{Progress, report_program}
use Rattle.dap_history.proofs.Reacted.{replied}
use Rattle.std.proofs.lemmas.Grind.{common_steps}

-- ---- who leads to Configuring, and to Running

abbrev pub IsConfiguring : Situation → Type 0
IsConfiguring Configuring = Unit {0}
IsConfiguring _ = ⊥

abbrev pub IsRunning : Situation → Type 0
IsRunning Running = Unit {0}
IsRunning _ = ⊥

orders_not : (os : List PlainOrder) → ¬ MarkIs IsConfiguring (last_such order_mark os)
orders_not [] is = is
orders_not (o ∷ os) is = grind (arith, common_steps, orders_not os, mark_else) steps 200000

-- no event leads to a situation of which neither Stopped, Faulted nor Ended is one
events_not : (P : Situation → Type 0) → ¬ P Stopped → ¬ P Faulted → ¬ P Ended → (es : List EventBody)
    → ¬ MarkIs P (last_such message_mark (map Event es))
events_not P stopped faulted ended [] is = is
events_not P stopped faulted ended (e ∷ es) is =
    grind (arith, common_steps, events_not P stopped faulted ended es, mark_else, map, by_stop_mark) steps 200000

-- a step leads to Configuring by its answer alone
configured_by : (step : Step) → MarkIs IsConfiguring (step_mark step)
    → MarkIs IsConfiguring (last_such message_mark (with_answer step.answer []))
configured_by step is = by_orders (mark_else IsConfiguring _ _ is)
  where
    by_answer : (a : Option Outgoing) → MarkIs IsConfiguring
        (last_such message_mark (with_answer a (map Event step.effect.events)))
        → MarkIs IsConfiguring (last_such message_mark (with_answer a []))
    by_answer None is = events_not IsConfiguring (λ x. x) (λ x. x) (λ x. x) step.effect.events is
    by_answer (Some a) is = by_events (mark_else IsConfiguring _ _ is)
      where
        by_events : (MarkIs IsConfiguring (last_such message_mark (map Event step.effect.events))
            ⊎ ((last_such message_mark (map Event step.effect.events) ≡ None) × MarkIs IsConfiguring (message_mark a)))
            → MarkIs IsConfiguring (last_such message_mark (with_answer (Some a) []))
        by_events (inl is) = absurd (events_not IsConfiguring (λ x. x) (λ x. x) (λ x. x) step.effect.events is)
        by_events (inr is) = is.1

    by_orders : (MarkIs IsConfiguring (last_such order_mark step.effect.orders)
        ⊎ ((last_such order_mark step.effect.orders ≡ None) × MarkIs IsConfiguring
        (last_such message_mark (messages step))))
        → MarkIs IsConfiguring (last_such message_mark (with_answer step.answer []))
    by_orders (inl is) = absurd (orders_not step.effect.orders is)
    by_orders (inr is) = by_answer step.answer is.1

-- no answer to a content does: a `launch` that is answered at once is refused
result_not : (c : CommandName) → ¬ MarkIs IsConfiguring (command_mark c) → (result : Result Body Refusal)
    → ¬ MarkIs IsConfiguring (answer_mark c result)
result_not c not result is = grind (arith, common_steps) steps 200000

reply_not : (s : Situation) (past : History) (asked : Command) (reply : Reply) → RepliesIn s past asked reply
    → ¬ MarkIs IsConfiguring (answer_mark (name_of asked) reply.result)
reply_not s past asked reply is mark = grind (arith, common_steps, replied, result_not) steps 200000

abbrev pub IsLoaded : Item → Type 0
IsLoaded (Loaded launch file) = Unit {0}
IsLoaded _ = ⊥

-- a step leads to Configuring only where a launch was loaded
pub loaded_there : (past : History) (item : Item) (step : Step) → Causes past item step
    → MarkIs IsConfiguring (step_mark step) → IsLoaded item
loaded_there past (Content (Some request)) step is mark =
    absurd (reply_not _ past request.body is.0 is.1 (subst (λ a. MarkIs IsConfiguring (last_such message_mark
    (with_answer a []))) is.2.answer_is (configured_by step mark)))
loaded_there past (Loaded launch file) step is mark = tt
loaded_there past _ step is mark =
    absurd (subst (λ a. MarkIs IsConfiguring (last_such message_mark (with_answer a []))) is.answer_is
    (configured_by step mark))

-- a step leads to Running only where it orders a run
orders_run : (os : List PlainOrder) → last_such go os ≡ None → ¬ MarkIs IsRunning (last_such order_mark os)
orders_run [] none is = is
orders_run (o ∷ os) none is = grind (arith, common_steps, orders_run os, go, mark_else) steps 200000

answer_runs_not : (a : Option Outgoing) → IsAnswer a → (es : List EventBody)
    → ¬ MarkIs IsRunning (last_such message_mark (with_answer a (map Event es)))
answer_runs_not None is es mark = events_not IsRunning (λ x. x) (λ x. x) (λ x. x) es mark
answer_runs_not (Some (Event e)) is es mark = is
answer_runs_not (Some (Answer seq c result)) is es mark = neither (mark_else IsRunning _ _ mark)
  where
    command_not : (c : CommandName) → ¬ MarkIs IsRunning (command_mark c)
    command_not (name.Supported supported.Initialize) is = is
    command_not (name.Supported supported.Launch) is = is
    command_not _ is = is

    answer_not : (result : Result Body Refusal) → ¬ MarkIs IsRunning (answer_mark c result)
    answer_not (Ok b) is = command_not c is
    answer_not (Err r) is = is

    neither : ¬ (MarkIs IsRunning (last_such message_mark (map Event es))
        ⊎ ((last_such message_mark (map Event es) ≡ None) × MarkIs IsRunning (answer_mark c result)))
    neither (inl is) = events_not IsRunning (λ x. x) (λ x. x) (λ x. x) es is
    neither (inr is) = answer_not result is.1

pub runs_not : (step : Step) → IsAnswer step.answer → last_such go step.effect.orders ≡ None
    → ¬ MarkIs IsRunning (step_mark step)
runs_not step answer none is = grind (arith, common_steps, mark_else, orders_run, answer_runs_not) steps 200000

-- ---- runs begin where the program stands

-- the runs that a step orders begin at this position
pub data BeginsAt (here : ℕ) : Option Heading → Type 0 where
  none_begins : BeginsAt here None
  begins_at : (run : Heading) → run.start ≡ here → BeginsAt here (Some run)

begins_by : (past : History) (o : Option Heading) → GoesBy past o → BeginsAt (position past) o
begins_by past None no_go = none_begins
begins_by past (Some run) (of_text run' l launch text begins) = begins_at run begins

begins_on : (text : List ℕ) (finish : ℕ) (o : Option Heading) → GoesAs text finish o → BeginsAt finish o
begins_on text finish None no_run = none_begins
begins_on text finish (Some run) (as_text run' text_is begins) = begins_at run begins

abbrev pub BeginsHere : ℕ → Effect → Type 0
BeginsHere here effect = BeginsAt here (last_such go effect.orders)

pub loaded_orders : (launch : Launch) (file : Option (List ℕ)) (reply : Reply) → Launches launch.arguments file reply
    → last_such go reply.effect.orders ≡ None
loaded_orders launch file reply is = grind (arith, common_steps, go) steps 200000

loaded_begins : (here : ℕ) (o : Option Heading) → o ≡ None → BeginsAt here o
loaded_begins here o is = subst (BeginsAt here) (sym is) none_begins

pub item_begins : (past : History) (item : Item) (step : Step) → Causes past item step
    → BeginsHere (unwrap_or (end_of item) (position past)) step.effect
item_begins past (Content (Some request)) step is =
    rw is.2.effect_is (begins_by past (last_such go is.0.effect.orders) (all_silent _ past request.body is.0 is.1).goes)
item_begins past (Loaded launch file) step is = rw is.2.effect_is (loaded_begins _ _ (loaded_orders launch file _ is.1))
item_begins past (Accepted r) step is = rw is.effect_is (begins_on _ _ _ (report_goes past r _))
item_begins past _ step is = subst (BeginsHere (position past)) (sym is.effect_is) none_begins

-- nothing is launched while a program runs
pub launches_not : (Q : Incoming → Type 0) (past : History) (item : Item) (step : Step) → IsTaken Q past item
    → Causes past item step → IsRunning (situation past) → step.effect.launched ≡ None
launches_not Q past (Content (Some request)) step taken is running =
    ap (λ (e : Effect). e.launched) is.2.effect_is ∙ (all_silent (situation past) past request.body is.0 is.1).no_launch
launches_not here past item step taken is running = grind (arith, common_steps, report_launches) steps 200000

-- ---- the marks of a report

pub none_left : {A : Type 0} (a b : Option A) → or_else a b ≡ None → (a ≡ None) × (b ≡ None)
none_left a b is = grind (arith, common_steps) steps 200000

pub no_mark_no_go : (os : List PlainOrder) → last_such order_mark os ≡ None → last_such go os ≡ None
no_mark_no_go [] is = refl
no_mark_no_go (o ∷ os) is =
    ap (λ l. or_else l (go o)) (no_mark_no_go os (none_left _ _ is).0) ∙ none_here o (none_left _ _ is).1
  where
    none_here : (o : PlainOrder) → order_mark o ≡ None → go o ≡ None
    none_here (Go run) is = absurd cc
    none_here (Hold run) is = refl
    none_here Quit is = refl

abbrev pub mark_of_effect : Effect → Option Situation
mark_of_effect effect = or_else (last_such order_mark effect.orders) (last_such message_mark (map Event effect.events))

pub mark_of : (effect : Effect) (step : Step) → HasEffect effect step → step_mark step ≡ mark_of_effect effect
mark_of effect step has = cc (has.answer_is, has.effect_is)

-- where a report leads nowhere, its end isn't due
abbrev pub NotDueAtEnd : Block → PlainReport → Type 0
NotDueAtEnd main r = (r.end ≡ r.start) ⊎ (due_of main r r.end ≡ None)

abbrev LeadsNowhere : History → PlainReport → SliceOutcome → Type 0
LeadsNowhere past r e = mark_of_effect (report_effect past r e) ≡ None

stops_somewhere : (past : History) (r : PlainReport) (reason : Reason) → ¬ LeadsNowhere past r (slice.Due reason)
stops_somewhere past r reason none = grind (arith, common_steps, outputs_mark) steps 200000

undue_by : (main : Block) (past : History) (r : PlainReport) (e : SliceOutcome) → EndsBy main r e
    → LeadsNowhere past r e → NotDueAtEnd main r
undue_by main past r slice.More (takes_all spent undue runs) none = inr undue
undue_by main past r (slice.Due reason) is none = absurd (stops_somewhere past r reason none)
undue_by main past r slice.Held (is_held stays runs) none = inl stays
undue_by main past r slice.Done is none = let e = sym (outputs_mark past r (exited_events 0)) ∙ none in absurd cc
undue_by main past r (slice.Fault fault) (faults early passed fails runs) none = by_end passed
  where
    by_end : (r.end ≡ r.start) ⊎ IsPassed main r r.end → NotDueAtEnd main r
    by_end (inl stays) = inl stays
    by_end (inr is) = inr is.undue
undue_by main past r slice.NoMemory (lacks_memory stays runs) none = inl stays

pub undue_end : (main : Block) (past : History) (r : PlainReport) → WentOn main r → LeadsNowhere past r r.outcome
    → NotDueAtEnd main r
undue_end main past r went none = undue_by main past r r.outcome went.outcome none

-- a run that goes back and has not stopped stays where it began
stays_by : (main : Block) (past : History) (r : PlainReport) (e : SliceOutcome) → GoesBackBy main r e
    → LeadsNowhere past r e → r.end ≡ r.start
stays_by main past r slice.More (is_spent stays spent) none = stays
stays_by main past r (slice.Due reason) (has_come comes) none = absurd (stops_somewhere past r reason none)
stays_by main past r slice.NoMemory (has_no_memory stays) none = stays
stays_by main past r _ is none = elim is [ ]

pub stays_end : (main : Block) (past : History) (r : PlainReport) → WentBack main r → LeadsNowhere past r r.outcome
    → r.end ≡ r.start
stays_end main past r went none = stays_by main past r r.outcome went.outcome none

-- ---- along a history

module _ (one : OneProgram) (joins : WrittenJoins) where
  -- a run passes nothing that is due, and none was ordered before `configurationDone`
  pub record Ran (past : History) : Type 0 where
    pub so_far : Progress past
    pub configuring : IsConfiguring (situation past) → (last_run past ≡ None) × (position past ≡ 0)
    pub running : IsRunning (situation past) → (l : Launched) → launched past ≡ Some l → (run : Heading)
        → last_run past ≡ Some run
        → (run.start ≤ position past) × NoneDueUpTo l run (position past)
    -- one that goes back stands where it began
    pub back : IsRunning (situation past) → (run : Heading) → last_run past ≡ Some run → goes_back run.mode ≡ true
        → position past ≡ run.start

  -- the report is of the launched program, the last run, and what that run passed
  module _ (past : History) (r : PlainReport) (accepts : Accepts past r) (lawful : IsLawfulReport r) (ran : Ran past)
      (l : Launched) (is : launched past ≡ Some l) where
    abbrev run : Heading
    run = accepts.run

    pub same_due : (k : ℕ) → due_in_run l run k ≡ due_of lawful.program r k
    same_due k =
        let same = accepts.expected in
        sym
        (ap (λ (p : Block). due p r.plan r.counted_from r.mode k)
        (report_program one joins past r lawful l accepts (ran.so_far.progress (Some l) is))
        ∙ ap (λ (h : Heading). due l.program h.plan h.counted_from h.mode k) same)

    pub starts_here : r.start ≡ position past
    starts_here = ap (λ (h : Heading). h.start) accepts.expected

    was : (run.start ≤ position past) × NoneDueUpTo l run (position past)
    was = ran.running (subst IsRunning (sym accepts.running) tt) l is run accepts.run_is

    pub begun_there : run.start ≤ r.start
    begun_there = subst (λ n. run.start ≤ n) (sym starts_here) was.0

    -- where the report stays
    pub still : r.end ≡ r.start → (run.start ≤ r.end) × NoneDueUpTo l run r.end
    still stays = subst (λ n. (run.start ≤ n) × NoneDueUpTo l run n) (sym (stays ∙ starts_here)) was

    -- where it goes on
    module _ (went : WentOn lawful.program r) where
      pub begun_before : run.start ≤ r.end
      begun_before = let a = begun_there in let b = went.begun in omega (arith, a, b)

      pub none_before : NoneDueBefore l run r.end
      none_before k above below =
          ⊎_elim
          (λ (past_begin : r.start < k). same_due k ∙ (went.passed k past_begin below).undue)
          (λ (up_to : k ≤ r.start). was.1 k above (subst (λ n. k ≤ n) starts_here up_to))
          (cases_lt r.start k)

      pub none_up_to : NotDueAtEnd lawful.program r → NoneDueUpTo l run r.end
      none_up_to at_end k above up_to =
          ⊎_elim
          (λ (below : k < r.end). none_before k above below)
          (λ (there : r.end ≤ k). let same : k ≡ r.end = omega (arith, there, up_to) in by_end at_end same)
          (cases_lt k r.end)
        where
          by_end : NotDueAtEnd lawful.program r → k ≡ r.end → due_in_run l run k ≡ None
          by_end (inl stays) same = (still stays).1 k above (omega (arith, same))
          by_end (inr undue) same = same_due k ∙ ap (due_of lawful.program r) same ∙ undue
