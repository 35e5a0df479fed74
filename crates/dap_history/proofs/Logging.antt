-- The logs reported are those of the positions considered, step by step.
use Rattle.dap_history.proofs.Common.{Accepted, Causes, Content, Effect, EventBody, HasEffect, Heading, History, Item, Launch, Launched, Launches, Loaded, LogsAreSaid, None, Option, PlainOrder, PlainReport, Ready, Reply, Some, Step, WrittenJoins, [], all_runs, ap, append-nil, before_start, end_in, filter_map-append, flat_map, go, inl, inr, last_run, launched, log_of, log_texts, messages, messages_of, or_else, orders_of, refl, run_texts, situation, starts_by, subst, sym, ℕ, ◌++◌, ◌∙◌, ◌∷◌, ◌≡◌, ◌⊎◌}
use Rattle.std.proofs.Common.{List, Bool, true, false, append_assoc}
use Rattle.dap_history.specs.Considered.{first_texts, logged}
use Rattle.dap_history.specs.Laws.{LogsAreOfPositions, StopsFollowLogs}
use Rattle.dap_history.proofs.Readings.{messages_of-snoc, launched-snoc}
use Rattle.dap_history.proofs.Along.{IsTaken, IsKept, IsLawfulEvent, lawful_events, along}
use Rattle.dap_history.proofs.Each.{each_kept, each_first}
use Rattle.dap_history.proofs.Told.{texts_in, texts_of_logs}
use Rattle.dap_history.proofs.Silent.{LogsBy, all_silent}
use Rattle.dap_history.proofs.Outputs.{answer_unlogged, no_answer_unlogged, told_texts, report_texts, report_launches}
use Rattle.dap_history.proofs.Went.{nothing_told}
use Rattle.dap_history.proofs.Texts.{OneProgram}
use Rattle.dap_history.proofs.Progress.{Progress}
use Rattle.dap_history.proofs.Passing.{none_left, Ran}
use Rattle.dap_history.proofs.Stopping.{ran_first, ran_more}
use Rattle.dap_history.proofs.StopOrder.{IsStop, logs_after_stops, all_so_far}
use Rattle.dap_history.proofs.Started.{here_if, before_start-snoc, StartsBy, starts_not, starts_here, whether_starts, Unstarted, unstarted_more}
use Rattle.dap_history.proofs.Runs.{none_such}
use Rattle.dap_history.proofs.Counted.{Counted, counted_more, counted_first}
use Rattle.dap_history.proofs.Logged.{same_texts, aside_same, runs_texts, report_texts_more}
use Rattle.std.proofs.Common.{arith}
use Rattle.std.proofs.lemmas.Grind.{common_steps}

-- ---- what a step logs

-- what position 0 logs where the program is started
abbrev start_texts : Bool → Option Launched → History → List (List ℕ)
start_texts false l past = []
start_texts true None past = []
start_texts true (Some l) past = first_texts l (Some past)

abbrev item_texts : Item → List (List ℕ)
item_texts (Accepted r) = told_texts r
item_texts _ = []

by_logs : LogsAreSaid → (past : History) (events : List EventBody) (b : Bool) (l : Option Launched) → launched past ≡ l
    → LogsBy (situation past) past events b → texts_in events ≡ start_texts b l past
by_logs said past events b l is here = grind (arith, common_steps, texts_of_logs, append-nil) steps 200000

unlogged : (past : History) (step : Step) (effect : Effect) (l : Option Launched) → HasEffect effect step
    → texts_in effect.events ≡ [] → log_texts (messages step) ≡ start_texts (starts_by step.answer) l past
unlogged past step effect l has none = grind (arith, common_steps, no_answer_unlogged) steps 1500000

launch_texts : (launch : Launch) (file : Option (List ℕ)) (reply : Reply) → Launches launch.arguments file reply
    → texts_in reply.effect.events ≡ []
launch_texts launch file reply is = grind (arith, common_steps) steps 200000

no_start : (b : Bool) (l : Option Launched) (past : History) (step : Step) → StartsBy past step b
    → situation past ≡ Ready → start_texts b l past ≡ []
no_start false l past step starts_not ready = refl
no_start true l past step (starts_here k configuring there effect_is leads) ready =
    absurd (let e = sym configuring ∙ ready in cc)

step_texts : LogsAreSaid → (past : History) (item : Item) (step : Step) (l : Option Launched) → launched past ≡ l
    → IsTaken IsLawfulEvent past item → Causes past item step
    → log_texts (messages step) ≡ start_texts (starts_by step.answer) l past ++ item_texts item
step_texts said past (Content (Some request)) step l is taken causes =
    grind (arith, common_steps, answer_unlogged, by_logs, all_silent, append-nil) steps 1500000
step_texts said past (Loaded launch file) step l is ready causes =
    grind (arith, common_steps, answer_unlogged, launch_texts, no_start, whether_starts, append-nil) steps 1500000
step_texts said past (Accepted r) step l is taken causes =
    grind (arith, common_steps, no_answer_unlogged, report_texts, nothing_told) steps 1500000
step_texts said past _ step l is taken causes = unlogged past step _ l causes refl ∙ sym (append-nil _)

-- ---- what is launched

launches_once : (past : History) (item : Item) (step : Step) (l : Launched) → Progress past → launched past ≡ Some l
    → IsTaken IsLawfulEvent past item → Causes past item step → step.effect.launched ≡ None
launches_once past item step l so_far is taken causes =
    grind (arith, common_steps, all_silent, report_launches) steps 200000

-- a report, or an item that reports of no run
abbrev Reports : Item → Type 0
Reports item = ((r : PlainReport) × (item ≡ Accepted r)) ⊎ (((n : ℕ) → end_in n item ≡ None) × (item_texts item ≡ []))

reports_or_not : (item : Item) → Reports item
reports_or_not item = grind (arith, common_steps) steps 200000

logs-snoc : (past : History) (step : Step) → log_texts (messages_of (past ++ step ∷ [])) ≡ log_texts (messages_of past)
    ++ log_texts (messages step)
logs-snoc past step = grind (arith, common_steps, messages_of-snoc, filter_map-append) steps 1500000

abbrev ToldOf : History → Option Launched → Type 0
ToldOf past None = log_texts (messages_of past) ≡ []
ToldOf past (Some l) = log_texts (messages_of past) ≡ logged l past

module _ (one : OneProgram) (joins : WrittenJoins) (said : LogsAreSaid) where
  pub record Logging (past : History) : Type 0 where
    pub ran : Ran one joins past
    pub counted : Counted past
    pub unstarted : Unstarted past
    pub unlaunched : launched past ≡ None → before_start past ≡ None
    pub told : (l : Option Launched) → launched past ≡ l → ToldOf past l

  no_runs_yet : (past : History) → last_run past ≡ None → all_runs past ≡ []
  no_runs_yet past none = none_such PlainOrder Heading go (orders_of past) none

  module _ (past : History) (step : Step) (taken : IsTaken IsLawfulEvent past step.item)
      (causes : Causes past step.item step) (so_far : Logging past) where
    abbrev new : History
    new = past ++ step ∷ []

    starts : StartsBy past step (starts_by step.answer)
    starts = whether_starts past step.item step causes

    start_is : before_start new ≡ or_else (before_start past) (here_if (starts_by step.answer) past)
    start_is = before_start-snoc past step

    -- nothing was launched
    starts_none : (b : Bool) → StartsBy past step b → launched past ≡ None → here_if b past ≡ None
    starts_none false starts_not none = refl
    starts_none true (starts_here l configuring there effect_is leads) none = absurd (let e = sym none ∙ there in cc)

    unlaunched_more : launched past ≡ None → before_start new ≡ None
    unlaunched_more none = grind (arith, common_steps, start_is, starts_none, starts) steps 200000

    none_texts : (b : Bool) → start_texts b None past ≡ []
    none_texts b = grind (arith, common_steps) steps 200000

    item_none : (item : Item) → IsTaken IsLawfulEvent past item → last_run past ≡ None → item_texts item ≡ []
    item_none item taken none = grind (arith, common_steps) steps 200000

    none_told : launched past ≡ None → log_texts (messages_of new) ≡ []
    none_told is =
        let progress = so_far.ran.so_far.progress None is in
        cc (
          logs-snoc past step,
          so_far.told None is,
          step_texts said past step.item step None is taken causes,
          none_texts (starts_by step.answer),
          item_none step.item taken progress.1,
        )

    -- what is logged where the program was just launched
    first_told : (l : Launched) → launched past ≡ None → log_texts (messages_of new) ≡ logged l new
    first_told l is =
        let progress = so_far.ran.so_far.progress None is in
        cc (
          none_told is,
          unlaunched_more is,
          runs_texts IsLawfulEvent past step taken causes so_far.counted l,
          no_runs_yet past progress.1,
        )

    module _ (l : Launched) (is : launched past ≡ Some l) where
      abbrev runs_before : List (List ℕ)
      runs_before = flat_map (run_texts l past) (all_runs past)

      abbrev first_before : List (List ℕ)
      first_before = first_texts l (before_start past)

      -- what position 0 logs
      first_more : (b : Bool) → StartsBy past step b → first_texts l
          (or_else (before_start past) (here_if b past)) ≡ first_before ++ start_texts b (Some l) past
      first_more false starts_not = grind (arith, common_steps, append-nil) steps 1500000
      first_more true (starts_here k configuring there effect_is leads) = grind (arith, common_steps) steps 1500000

      -- and the runs
      runs_more : Reports step.item → flat_map (run_texts l new) (all_runs new) ≡ runs_before ++ item_texts step.item
      runs_more (inl report) =
          let taken_report = subst (IsTaken IsLawfulEvent past) report.1 taken in
          cc (
            runs_texts IsLawfulEvent past step taken causes so_far.counted l,
            report_texts_more one joins said past
                step report.0 report.1 taken_report.0 taken_report.1 so_far.ran so_far.counted l is,
            report.1,
          )
      runs_more (inr aside) =
          cc (
            runs_texts IsLawfulEvent past step taken causes so_far.counted l,
            same_texts l past step (all_runs past)
                (aside_same past step aside.0 (all_runs past)),
            append-nil runs_before,
            aside.1,
          )

      -- where position 0 logs, no run was ordered
      apart : (b : Bool) → StartsBy past step b → runs_before
          ++ start_texts b (Some l) past ≡ start_texts b (Some l) past ++ runs_before
      apart false starts_not = append-nil runs_before
      apart true (starts_here k configuring there effect_is leads) =
          grind (arith, common_steps, flat_map, no_runs_yet, append-nil) steps 1500000

      told_on : log_texts (messages_of new) ≡ logged l new
      told_on =
          let s = start_texts (starts_by step.answer) (Some l) past in
          let i = item_texts step.item in
          logs-snoc past step
          ∙ ap (λ ts. ts ++ log_texts (messages step)) (so_far.told (Some l) is)
          ∙ ap (λ ts. (first_before ++ runs_before) ++ ts) (step_texts said past step.item step _ is taken causes)
          ∙ shuffle first_before runs_before s i (apart _ starts)
          ∙ ap (λ ts. ts ++ (runs_before ++ i)) (sym (ap (first_texts l) start_is ∙ first_more _ starts))
          ∙ ap (λ ts. first_texts l (before_start new) ++ ts) (sym (runs_more (reports_or_not step.item)))
        where
          shuffle : (f r s i : List (List ℕ)) → r ++ s ≡ s ++ r → (f ++ r) ++ (s ++ i) ≡ (f ++ s) ++ (r ++ i)
          shuffle f r s i commute =
              cc (append_assoc f r (s ++ i), append_assoc r s i, append_assoc s r i, append_assoc f s (r ++ i))

    told_more : (before : Option Launched) → launched past ≡ before → (l : Option Launched) → launched new ≡ l
        → ToldOf new l
    told_more (Some k) is (Some l) there =
        let same : k ≡ l =
        let e = sym is ∙ sym (ap (λ o. or_else o (launched past))
        (launches_once past step.item step k so_far.ran.so_far is taken causes)) ∙ sym (launched-snoc past step)
        ∙ there in cc in
        told_on l (is ∙ ap Some same)
    told_more before is l there =
        grind (arith, common_steps, none_told, first_told, launched-snoc, launches_once) steps 200000

    pub logging_more : Logging new
    logging_more =
        record {
          ran = ran_more one joins past step taken causes so_far.ran;
          counted = counted_more IsLawfulEvent past
              step taken causes so_far.counted;
          unstarted = unstarted_more IsLawfulEvent past step taken causes
              so_far.unstarted;
          unlaunched = λ none. unlaunched_more (none_left step.effect.launched _ (sym (launched-snoc
              past step) ∙ none)).1;
          told = λ l there. told_more (launched past) refl l there;
        }

  logging_kept : IsKept IsLawfulEvent Logging
  logging_kept = record {
    step = λ past item new taking taken after here.
        subst Logging (sym after.new_is)
        (logging_more past after.step (subst (IsTaken IsLawfulEvent past) (sym after.item_is) taken)
        (subst (λ i. Causes past i after.step) (sym after.item_is) after.causes) here);
  }

  logging_first : Logging []
  logging_first = grind (arith, common_steps, ran_first, counted_first) steps 1500000

  pub logs_of_positions : LogsAreOfPositions
  logs_of_positions f events past rest lawful history =
      let so_far =
      along IsLawfulEvent Logging logging_kept logging_first f events past rest (lawful_events events lawful) history
      in
      (λ l is. so_far.told (Some l) is, λ is. so_far.told None is)

  pub stops_follow_logs : StopsFollowLogs
  stops_follow_logs f events past rest lawful history front step more past_is l is before reason after split =
      let all = along IsLawfulEvent _ (each_kept IsLawfulEvent Logging logging_kept) (each_first IsLawfulEvent Logging
      logging_first) f events past rest (lawful_events events lawful) history in
      let was = all.each front step more past_is in
      all_so_far _ IsStop log_of front step before _ after tt refl (logs_after_stops front step was.taken was.causes)
      split ∙ (logging_more front step was.taken was.causes was.held).told (Some l) is
