-- Each item that reads no text leads from a history to another.
use Rattle.dap_history.proofs.Common.{Accepted, Block, Body, Breakpoint, Causes, Command, Configuration, Configuring, Content, Effect, EndsBy, Fault, Faulted, GoesBackBy, History, InputEnd, Inspects, IsAfter, IsSome, IsStopped, Item, Launch, Launched, Launches, Loaded, MemoryFailure, Mode, None, OfProgram, Ok, Option, Outgoing, PlainReport, Question, Reaction, Reacts, ReadFailure, Reason, RepliesAt, RepliesFrom, RepliesIn, Reply, Resume, Retreat, Situation, SliceOutcome, Some, Start, Step, Stopped, Went, WrittenJoins, [], ap, arith, at, end_of, for_thread, goal_of, goes_back, inl, inr, is_some, last_due, launched, nothing, or_else, refl, refused, reply_of, situation, step_mark, stop_at, subject_in, subst, suc, sym, unwrap_or, zero, ℕ, ◌++◌, ◌∙◌, ◌∷◌, ◌≡◌, ◌≤◌, ◌⊎◌, back_if}
use Rattle.std.proofs.Common.{List, Bool, true, false}
use Rattle.std.specs.Prelude.{Result}
use Rattle.dap_msg.specs.declared.question.Question.TheVariants as question
use Rattle.dap_msg.specs.declared.question.Shown.{Shown}
use Rattle.dap_msg.specs.declared.outgoing.Refusal.{Refusal}
use Rattle.dap_msg.specs.declared.command.Command.TheVariants as command
use Rattle.dap_msg.specs.declared.outgoing.Refusal.TheVariants as refusal
use Rattle.pl0_meaning.specs.Laws.{RunsHaveNoGaps}
use Rattle.dbg_runner.specs.Lawful.{RunsAt}
use Rattle.dap_history.specs.Readings.{position}
use Rattle.dap_history.specs.Laws.{IsPlain, IsPlainItem, EachItemLeads}
use Rattle.dap_history.proofs.Readings.{situation-snoc, position-snoc, launched-snoc}
use Rattle.dap_history.proofs.Texts.{OneProgram}
use Rattle.dap_history.proofs.Along.{IsTaken, IsKept, IsLawfulEvent, lawful_events, along}
use Rattle.dap_history.proofs.Early.{IsEarly}
use Rattle.dap_history.proofs.Silent.{all_silent}
use Rattle.dap_history.proofs.Questions.{reaction_there, reaction_with}
use Rattle.dap_history.proofs.Reacted.{IsCalm, Reacted, by_refusing, by_answering, by_setting, by_retreating, by_closing, by_reaction}
use Rattle.dap_history.proofs.Outputs.{report_launches}
use Rattle.dap_history.proofs.Progress.{report_program}
use Rattle.dap_history.proofs.Passing.{Ran}
use Rattle.dap_history.proofs.Stopping.{ran_more, ran_first}
use Rattle.dap_history.proofs.Lines.{step_of, answering, launching, same_step}
use Rattle.std.proofs.lemmas.Grind.{common_steps}

-- ---- where a report ends the program runs

-- a position that is due lies below
last_due_below : (main : Block) (bs : List Breakpoint) (n m : ℕ) → last_due main bs n ≡ Some m → m ≤ n
last_due_below main bs zero m is = absurd cc
last_due_below main bs (suc n) m is = grind (arith, common_steps, is_some, last_due_below main bs n m) steps 200000

stop_below : (n : ℕ) (o : Option ℕ) → ((m : ℕ) → o ≡ Some m → m ≤ n) → (stop_at o).position ≤ n
stop_below n o below = grind (arith, common_steps) steps 200000

-- going back leads no further
pub goal_below : (main : Block) (bs : List Breakpoint) (m : Mode) (n e : ℕ) (why : Reason)
    → goal_of main bs m n ≡ Some (record { position = e; reason = why }) → e ≤ n
goal_below main bs m n e why is = grind (arith, common_steps, stop_below, last_due_below) steps 200000

runs_some : (main : Block) (n : ℕ) (o : Option Configuration) → at main n ≡ o → RunsAt main n → IsSome (at main n)
runs_some main n o is runs = grind (arith, common_steps, is_some) steps 200000

module _ (main : Block) (r : PlainReport) (no_gaps : RunsHaveNoGaps) where
  ends_alive : (e : SliceOutcome) → EndsBy main r e → IsSome (at main r.end)
  ends_alive e is = grind (arith, common_steps, runs_some, at, is_some) steps 200000

  back_below : (e : SliceOutcome) → GoesBackBy main r e → r.end ≤ r.start
  back_below e by = grind (arith, common_steps, goal_below) steps 200000

  went_alive : (b : Bool) → Went main r (back_if b) → IsSome (at main r.end)
  went_alive false went = ends_alive r.outcome went.outcome
  went_alive true went =
      no_gaps main r.end r.start (back_below r.outcome went.outcome)
      (runs_some main r.start (at main r.start) refl went.begun)

-- ---- a program is launched

-- the step leads to where none is, or launches one
abbrev EarlyOr : Situation → Step → Type 0
EarlyOr s step = IsEarly (unwrap_or (step_mark step) s) ⊎ ((l : Launched) × (step.effect.launched ≡ Some l))

calm_early : (past : History) (s : Situation) (seq : ℕ) (asked : Command) (b : Body) → IsEarly s
    → IsCalm past s asked b → EarlyOr s (answering seq asked (Ok b) nothing)
calm_early past s seq asked b early calm = grind (arith, common_steps) steps 200000

standing_late : (s : Situation) → IsStopped s → ¬ IsEarly s
standing_late s stands early = grind (arith, common_steps) steps 200000

reaction_early : (past : History) (seq : ℕ) → launched past ≡ None → {s : Situation} {asked : Command}
    {reaction : Reaction} → IsEarly s → Reacted past s asked reaction
    → EarlyOr s (answering seq asked (reply_of past reaction).result (reply_of past reaction).effect)
reaction_early past seq none early (by_refusing s asked why) = inl early
reaction_early past seq none early (by_answering s asked b calm) = calm_early past s seq asked b early calm
reaction_early past seq none early (by_setting s a l found bs there path_is resolved) =
    absurd (let e = sym none ∙ there in cc)
reaction_early past seq none early (by_retreating s kind a l stands there) = absurd (standing_late s stands early)
reaction_early past seq none early (by_closing s) = inl early
reaction_early past seq none early _ = absurd early

launch_early : (s : Situation) (launch : Launch) (file : Option (List ℕ)) (reply : Reply) → IsEarly s
    → Launches launch.arguments file reply → EarlyOr s (launching launch file reply)
launch_early s launch None reply early is = subst (λ r. EarlyOr s (launching launch None r)) (sym is) (inl early)
launch_early s launch (Some text) reply early (inl is) = rw is.reply_is (inl early)
launch_early s launch (Some text) reply early (inr is) = rw is.reply_is (inr (_, refl))

item_early : (past : History) (item : Item) (step : Step) → step.item ≡ item → IsTaken IsLawfulEvent past item
    → Causes past item step → launched past ≡ None → IsEarly (situation past) → EarlyOr (situation past) step
item_early past (Content (Some request)) step item_is taken is none early =
    subst (EarlyOr (situation past)) (sym (same_step step _ _ is.0.effect item_is is.2.answer_is is.2.effect_is))
    (by_reaction (λ (r : Reply). EarlyOr (situation past) (answering request.seq request.body r.result r.effect)) (λ
    reaction reacted. reaction_early past request.seq none early reacted) is.1)
item_early past item step item_is taken is none early =
    grind (arith, common_steps, same_step, nothing, launch_early) steps 200000

-- ---- along a history

-- a situation is early, or not
early_or_late : (s : Situation) → IsEarly s ⊎ ¬ IsEarly s
early_or_late s = grind (arith, common_steps) steps 200000

-- a program is launched
abbrev pub IsLaunched : History → Type 0
IsLaunched past = (l : Launched) × (launched past ≡ Some l)

launched_by : (past : History) (step : Step) (l : Launched) → step.effect.launched ≡ Some l
    → IsLaunched (past ++ step ∷ [])
launched_by past step l is = (l, launched-snoc past step ∙ ap (λ o. or_else o (launched past)) is)

launched_on : (past : History) (step : Step) (o : Option Launched) → step.effect.launched ≡ o → (l : Launched)
    → launched past ≡ Some l → IsLaunched (past ++ step ∷ [])
launched_on past step None is l there = (l, launched-snoc past step ∙ ap (λ o. or_else o (launched past)) is ∙ there)
launched_on past step (Some new) is l there = launched_by past step new is

module _ (one : OneProgram) (joins : WrittenJoins) (no_gaps : RunsHaveNoGaps) where
  pub record Leading (past : History) : Type 0 where
    pub ran : Ran one joins past
    pub late : ¬ IsEarly (situation past) → IsLaunched past
    pub alive : (l : Launched) → launched past ≡ Some l → IsSome (at l.program (position past))

  late_more : (past : History) (step : Step) → IsTaken IsLawfulEvent past step.item → Causes past step.item step
      → Leading past → ¬ IsEarly (situation (past ++ step ∷ [])) → IsLaunched (past ++ step ∷ [])
  late_more past step taken causes here late = by_launched (launched past) refl
    where
      by_early : launched past ≡ None → EarlyOr (situation past) step → IsLaunched (past ++ step ∷ [])
      by_early none (inl early) = absurd (late (subst IsEarly (sym (situation-snoc past step)) early))
      by_early none (inr launch) = launched_by past step launch.0 launch.1

      by_situation : launched past ≡ None → IsEarly (situation past) ⊎ ¬ IsEarly (situation past)
          → IsLaunched (past ++ step ∷ [])
      by_situation none (inl early) = by_early none (item_early past step.item step refl taken causes none early)
      by_situation none (inr not) = absurd (let e = sym none ∙ (here.late not).1 in cc)

      by_launched : (o : Option Launched) → launched past ≡ o → IsLaunched (past ++ step ∷ [])
      by_launched None none = by_situation none (early_or_late (situation past))
      by_launched (Some l) there = launched_on past step step.effect.launched refl l there

  -- where the program stands after an item
  alive_item : (past : History) (item : Item) (step : Step) → IsTaken IsLawfulEvent past item → Causes past item step
      → Leading past → (l : Launched) → or_else step.effect.launched (launched past) ≡ Some l
      → IsSome (at l.program (unwrap_or (end_of item) (position past)))
  alive_item past (Content (Some request)) step taken is here l there =
      here.alive l (cc (is.2.effect_is, (all_silent (situation past) past request.body is.0 is.1).no_launch))
  alive_item past (Loaded launch file) step taken is here l there =
      let none : launched past ≡ None = here.ran.so_far.early (subst IsEarly (sym taken) tt) in
      subst (λ n. IsSome (at l.program n)) (sym (here.ran.so_far.progress None none).2) refl
  alive_item past (Accepted r) step taken is here l there =
      let before : launched past ≡ Some l = cc (is.effect_is, report_launches past r r.outcome) in
      rw (← (report_program one joins past r taken.1 l taken.0 (here.ran.so_far.progress (Some l) before))) (went_alive
      taken.1.program r no_gaps (goes_back r.mode) taken.1.lawful.went)
  alive_item past _ step taken is here l there = here.alive l (cc is.effect_is)

  leading_more : (past : History) (step : Step) → IsTaken IsLawfulEvent past step.item → Causes past step.item step
      → Leading past → Leading (past ++ step ∷ [])
  leading_more past step taken causes here = record {
    ran = ran_more one joins past step taken causes here.ran;
    late = late_more past step taken causes here;
    alive = λ l there. subst (λ n. IsSome (at l.program n)) (sym (position-snoc past step))
        (alive_item past step.item step taken causes here l (sym (launched-snoc past step) ∙ there));
  }

  pub leading_kept : IsKept IsLawfulEvent Leading
  leading_kept = record {
    step = λ past item new taking taken after here.
        subst Leading (sym after.new_is)
        (leading_more past after.step (subst (IsTaken IsLawfulEvent past) (sym after.item_is) taken)
        (subst (λ i. Causes past i after.step) (sym after.item_is) after.causes) here);
  }

  pub leading_first : Leading []
  leading_first = record { ran = ran_first one joins; late = λ late. absurd (late tt); alive = λ l there. absurd cc }

  -- ---- each item leads on

  module _ (past : History) (here : Leading past) where
    -- what is asked of the launched program has an answer
    pub of_program : (l : Launched) → launched past ≡ Some l → (says : Launched → Type 0) → says l
        → OfProgram (launched past) says
    of_program l there says is = subst (λ o. OfProgram o says) (sym there) is

    abbrev Answered : (Reply → Type 0) → Type 0
    Answered says = (reply : Reply) × says reply

    with_program : (says : Launched → Reaction → Type 0) → IsLaunched past
        → ((l : Launched) → launched past ≡ Some l → (reaction : Reaction) × says l reaction)
        → (reaction : Reaction) × OfProgram (launched past) (λ l. says l reaction)
    with_program says l some = let a = some l.0 l.1 in (a.0, of_program l.0 l.1 (λ k. says k a.0) a.1)

    pub is_late : (s : Situation) → situation past ≡ s → ¬ IsEarly s → IsLaunched past
    is_late s is late = here.late (λ early. late (subst IsEarly is early))

    -- the table has a reaction
    abbrev Reacting : Situation → Command → Type 0
    Reacting s asked = (reaction : Reaction) × Reacts s past asked reaction

    -- a question that every configuration answers
    module _ (asked : Question) (answers : (l : Launched) (c : Configuration)
        → (b : Result Shown Refusal) × RepliesFrom (subject_in past l) c asked b) where
      at_some : (l : Launched) (o : Option Configuration) → IsSome o
          → (b : Result Shown Refusal) × RepliesAt (subject_in past l) o asked b
      at_some l (Some c) is = answers l c
      at_some l None is = absurd cc

      at_program : IsLaunched past → (reaction : Reaction) × Inspects past asked reaction
      at_program there =
          let a = at_some there.0 _ (here.alive there.0 there.1) in (
            reaction_with a.0,
            reaction_there past asked a.0 (of_program there.0 there.1 (λ l. RepliesAt (subject_in past
                l) (at l.program (position past)) asked a.0) a.1),
          )

    asked_there : (q : Question) → IsPlain (command.Inspect q) → IsLaunched past
        → (reaction : Reaction) × Inspects past q reaction
    asked_there (question.Evaluate a) plain there = absurd plain
    asked_there q plain there = at_program q (λ l c. (_, refl)) there

    reacts : (s : Situation) → situation past ≡ s → (asked : Command) → IsPlain asked → Reacting s asked
    reacts Configuring is command.ConfigurationDone plain =
        with_program (λ l reaction. reaction ≡ Start l) (is_late Configuring is (λ x. x)) (λ l there. (_, refl))
    reacts Stopped is (command.Resume k a) plain =
        with_program (λ l reaction. reaction ≡ for_thread a (Resume l k)) (is_late Stopped is (λ x. x))
        (λ l there. (_, refl))
    reacts Stopped is (command.Retreat k a) plain =
        with_program (λ l reaction. reaction ≡ for_thread a (Retreat l k)) (is_late Stopped is (λ x. x))
        (λ l there. (_, refl))
    reacts Faulted is (command.Retreat k a) plain =
        with_program (λ l reaction. reaction ≡ for_thread a (Retreat l k)) (is_late Faulted is (λ x. x))
        (λ l there. (_, refl))
    reacts Stopped is (command.Inspect q) plain = asked_there q plain (is_late Stopped is (λ x. x))
    reacts Faulted is (command.Inspect q) plain = asked_there q plain (is_late Faulted is (λ x. x))
    reacts s is (command.SetBreakpoints a) plain = absurd plain
    reacts s is asked plain = (_, refl)

    replies : (asked : Command) → IsPlain asked → Answered (RepliesIn (situation past) past asked)
    replies asked plain =
        let r = reacts (situation past) refl asked plain in
        (reply_of past r.0, record { reaction = r.0; reacts = r.1; reply_is = refl })

    abbrev pub LeadsOn : Item → Type 0
    LeadsOn item = (new : History) × IsAfter past item new

    pub by_step : (item : Item) (answer : Option Outgoing) (effect : Effect)
        → Causes past item (step_of item answer effect) → LeadsOn item
    by_step item answer effect causes = (
      past ++ step_of item answer effect ∷ [],
      record { step = step_of item answer effect; item_is = refl; causes = causes; new_is = refl },
    )

    pub leads_on : (item : Item) → IsPlainItem item → LeadsOn item
    leads_on (Content None) plain = by_step (Content None) None nothing (record { answer_is = refl; effect_is = refl })
    leads_on (Content (Some request)) plain =
        let reply = replies request.body plain in
        by_step _ _ reply.0.effect (reply.0, reply.1, record { answer_is = refl; effect_is = refl })
    leads_on (Loaded launch None) plain =
        by_step _ _ nothing (refused refusal.CannotRead, refl, record { answer_is = refl; effect_is = refl })
    leads_on (Loaded launch (Some text)) plain = absurd plain
    leads_on (Accepted r) plain = by_step _ None _ (record { answer_is = refl; effect_is = refl })
    leads_on (Fault k) plain = by_step (Fault k) None nothing (record { answer_is = refl; effect_is = refl })
    leads_on InputEnd plain = by_step InputEnd None _ (record { answer_is = refl; effect_is = refl })
    leads_on ReadFailure plain = by_step ReadFailure None _ (record { answer_is = refl; effect_is = refl })
    leads_on MemoryFailure plain = by_step MemoryFailure None nothing (record { answer_is = refl; effect_is = refl })

  pub each_item_leads : EachItemLeads
  each_item_leads f events past rest lawful history item plain =
      leads_on past (along IsLawfulEvent Leading leading_kept leading_first f events past rest
      (lawful_events events lawful) history) item plain
