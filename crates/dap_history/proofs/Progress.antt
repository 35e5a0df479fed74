-- The numbers reported are those that the program wrote, step by step.
use Rattle.dap_history.proofs.Common.{Accepted, Accepts, Answers, Causes, Content, Effect, Event, Fault, Fresh, HasEffect, Heading, History, InputEnd, IsLawfulReport, IsTreeOf, Item, Launch, Launched, Launches, Loaded, MemoryFailure, None, Option, PlainReport, Quit, ReadFailure, Ready, Reply, Situation, Some, Step, WrittenJoins, [], answer_mark, ap, append-nil, arith, end_of, filter_map, go, inl, inr, last_run, last_such, launched, launches, max, messages, messages_of, name_of, nothing, numbers, only_orders, or_else, output, reached, refl, report_effect, situation, step_mark, subst, sym, written, ℕ, ◌++◌, ◌∙◌, ◌∷◌, ◌≡◌, ◌≤◌}
use Rattle.std.proofs.Common.{List, Bool}
use Rattle.std.specs.Prelude.{map}
use Rattle.dap_msg.specs.declared.command.CommandName.TheVariants as name
use Rattle.dap_msg.specs.declared.command.Supported.TheVariants as supported
use Rattle.dap_history.specs.Readings.{position}
use Rattle.dap_history.proofs.Texts.{OneProgram}
use Rattle.dap_history.specs.Laws.{NumbersAreWritten}
use Rattle.dap_history.proofs.Readings.{numbers-snoc, launched-snoc, position-snoc, reached-snoc, position_reached, last_run-snoc, situation-snoc}
use Rattle.dap_history.proofs.Along.{IsTaken, IsKept, IsLawfulEvent, lawful_events, along}
use Rattle.dap_history.proofs.Early.{IsEarly, IsEarlyMark, unanswered_late, answered_late, result_late, early_reply, early_unwrap}
use Rattle.dap_history.proofs.Silent.{GoesBy, no_go, of_text, IsSilent, nothing_silent, quit_silent, all_silent}
use Rattle.dap_history.proofs.Went.{nothing_told, told_joins}
use Rattle.dap_history.proofs.Outputs.{answer_aside, no_answer, told_numbers, report_numbers, report_launches, GoesAs, no_run, as_text, report_goes}
use Rattle.std.proofs.lemmas.Grind.{common_steps}

-- what is reported before a program is launched, and after
abbrev pub ProgressOf : History → Option Launched → Type 0
ProgressOf past None =
    (numbers (messages_of past) ≡ []) × (last_run past ≡ None) × (position past ≡ 0) × (reached past ≡ 0)
ProgressOf past (Some l) =
    (numbers (messages_of past) ≡ written l.program 0 (reached past))
    × ((run : Heading) → last_run past ≡ Some run → run.text ≡ l.text)
    × ∥ IsTreeOf l.text l.program ∥₁

pub record Progress (past : History) : Type 0 where
  pub early : IsEarly (situation past) → launched past ≡ None
  pub progress : (l : Option Launched) → launched past ≡ l → ProgressOf past l

-- whether a mark is early can be decided
pub decided : (o : Option Situation) → ¬ (¬ IsEarlyMark o) → IsEarlyMark o
decided o not = grind (arith, common_steps) steps 200000

-- ---- a step that reports no number and launches nothing

pub record IsAside (past : History) (step : Step) : Type 0 where
  pub no_numbers : numbers (messages step) ≡ []
  pub no_launch : step.effect.launched ≡ None
  pub moves_nothing : end_of step.item ≡ None
  pub goes : GoesBy past (last_such go step.effect.orders)

goes_none : (past : History) (o : Option Heading) → GoesBy past o → launched past ≡ None → o ≡ None
goes_none past None no_go is = refl
goes_none past (Some run) (of_text run' l there text begins) is = absurd cc

goes_text : (past : History) (o : Option Heading) (l : Launched) → GoesBy past o → launched past ≡ Some l
    → ((run : Heading) → last_run past ≡ Some run → run.text ≡ l.text)
    → (run : Heading) → or_else o (last_run past) ≡ Some run → run.text ≡ l.text
goes_text past None l no_go is before run e = before run e
goes_text past (Some other) l (of_text run' k there text begins) is before run e =
    grind (arith, common_steps) steps 200000

reached_still : (past : History) (step : Step) → end_of step.item ≡ None → reached (past ++ step ∷ []) ≡ reached past
reached_still past step stays = grind (arith, common_steps, reached-snoc, reached) steps 200000

aside_progress : (past : History) (step : Step) → IsAside past step → (l : Option Launched) → launched past ≡ l
    → ProgressOf past l → ProgressOf (past ++ step ∷ []) l
aside_progress past step aside None is progress =
    grind (arith, common_steps, numbers-snoc, append-nil, last_run-snoc, goes_none, go, position-snoc, reached_still)
    steps 200000
aside_progress past step aside (Some l) is progress = (
  numbers-snoc past step ∙ ap (λ l. numbers (messages_of past) ++ l) aside.no_numbers
      ∙ append-nil (numbers (messages_of past)) ∙ progress.0
      ∙ ap (written l.program 0) (sym (reached_still past step aside.moves_nothing)),
  λ run e. goes_text past (last_such go step.effect.orders) l aside.goes is progress.1 run
      (sym (last_run-snoc past step) ∙ e),
  progress.2,
)

was_early : (past : History) (step : Step) → (IsEarlyMark (step_mark step) → situation past ≡ Fresh)
    → IsEarly (situation (past ++ step ∷ [])) → IsEarly (situation past)
was_early past step marks is = grind (arith, common_steps, early_unwrap, situation-snoc) steps 200000

aside_keeps : (past : History) (step : Step) → IsAside past step
    → (IsEarlyMark (step_mark step) → situation past ≡ Fresh) → Progress past → Progress (past ++ step ∷ [])
aside_keeps past step aside marks so_far =
    grind (arith, common_steps, was_early, aside_progress, launched-snoc) steps 200000

silent_aside : {starts : Bool} (past : History) (step : Step) (effect : Effect) → step.effect ≡ effect
    → end_of step.item ≡ None → IsSilent starts (situation past) past effect
    → numbers (messages step) ≡ filter_map output (map Event step.effect.events) → IsAside past step
silent_aside past step effect is stays silent progress = grind (arith, common_steps, filter_map, go) steps 200000

nothing_aside : {starts : Bool} (past : History) (item : Item) (step : Step) → step.item ≡ item → end_of item ≡ None
    → (effect : Effect) → IsSilent starts (situation past) past effect → HasEffect effect step → Progress past
    → Progress (past ++ step ∷ [])
nothing_aside past item step is stays effect silent has so_far =
    grind (arith, common_steps, aside_keeps, silent_aside, no_answer, unanswered_late) steps 200000

-- ---- a report

module _ (one : OneProgram) (joins : WrittenJoins) where
  pub report_text : (past : History) (r : PlainReport) (l : Launched) → Accepts past r → ProgressOf past (Some l)
      → r.text ≡ l.text
  report_text past r l accepts progress = cc (accepts.expected, progress.1 accepts.run accepts.run_is)

  pub report_program : (past : History) (r : PlainReport) (lawful : IsLawfulReport r) (l : Launched) → Accepts past r
      → ProgressOf past (Some l) → lawful.program ≡ l.program
  report_program past r lawful l accepts progress = grind (arith, common_steps, report_text) steps 200000

  as_run : (text : List ℕ) (finish : ℕ) (o : Option Heading) (before : Option Heading) → GoesAs text finish o
      → ((run : Heading) → before ≡ Some run → run.text ≡ text) → (run : Heading) → or_else o before ≡ Some run
      → run.text ≡ text
  as_run text finish None before no_run was run e = was run e
  as_run text finish (Some other) before (as_text run' is begins) was run e = grind (arith, common_steps) steps 200000

  report_progress : (past : History) (r : PlainReport) (step : Step) → step.item ≡ Accepted r
      → HasEffect (report_effect past r r.outcome) step → Accepts past r → IsLawfulReport r
      → (l : Option Launched) → ProgressOf past l → ProgressOf (past ++ step ∷ []) l
  report_progress past r step is has accepts lawful None progress =
      absurd (let e = sym progress.1 ∙ accepts.run_is in cc)
  report_progress past r step is has accepts lawful (Some l) progress =
      let here : reached (past ++ step ∷ []) ≡ max (reached past) r.end = cc (reached-snoc past step) in
      let text = report_text past r l accepts progress in
      let same = report_program past r lawful l accepts progress in
      let adds : numbers (messages step) ≡ told_numbers past r =
      cc (no_answer step has.answer_is, has.effect_is, report_numbers past r r.outcome (nothing_told _ r lawful.lawful))
      in
      let so_far : numbers (messages_of past) ≡ written lawful.program 0 (reached past) = cc progress.0 in
      let begun : r.start ≤ reached past = rw (ap (λ (h : Heading). h.start) accepts.expected) (position_reached past)
      in (
        cc (numbers-snoc past step, told_joins joins _ r lawful.lawful.before _ _ so_far begun _ lawful.lawful.went),
        λ
            run e. as_run l.text r.end _ _ (rw (← text) (rw has.effect_is (report_goes past r r.outcome))) progress.1
            run (sym
            (last_run-snoc past step)
            ∙ e),
        progress.2,
      )

  report_keeps : (past : History) (r : PlainReport) (step : Step) → step.item ≡ Accepted r
      → HasEffect (report_effect past r r.outcome) step → Accepts past r → IsLawfulReport r → Progress past
      → Progress (past ++ step ∷ [])
  report_keeps past r step is has accepts lawful so_far =
      grind (arith, common_steps, was_early, unanswered_late, report_progress, launched-snoc, report_launches) steps
      200000

  -- ---- a launch

  launch_aside : {starts : Bool} (past : History) (launch : Launch) (file : Option (List ℕ)) (step : Step)
      → step.item ≡ Loaded launch file → (reply : Reply) (effect : Effect) → reply.effect ≡ effect
      → IsSilent starts (situation past) past effect
      → Answers launch.seq (name.Supported supported.Launch) reply step → Progress past → Progress (past ++ step ∷ [])
  launch_aside past launch file step is reply effect same silent answers so_far =
      aside_keeps past step
      (silent_aside past step effect (answers.effect_is ∙ same) (ap end_of is) silent
      (answer_aside _ _ _ step answers.answer_is))
      (λ m. absurd (answered_late _ _ reply step answers
      (result_late (name.Supported supported.Launch) (λ x. x) reply.result) m)) so_far

  launch_keeps : (past : History) (launch : Launch) (file : Option (List ℕ)) (step : Step)
      → step.item ≡ Loaded launch file → situation past ≡ Ready
      → (reply : Reply) → Launches launch.arguments file reply
      → Answers launch.seq (name.Supported supported.Launch) reply step → Progress past
      → Progress (past ++ step ∷ [])
  launch_keeps past launch None step is ready reply launches answers so_far =
      launch_aside past launch None step is reply nothing (cc) (nothing_silent past) answers so_far
  launch_keeps past launch (Some text) step is ready reply (inl refuses) answers so_far =
      launch_aside past launch _ step is reply nothing (cc refuses.reply_is) (nothing_silent past) answers so_far
  launch_keeps past launch (Some text) step is ready reply (inr launched_) answers so_far =
      let effect : step.effect ≡ launches launch.arguments text launched_.program = answers.effect_is ∙ ap (λ (r :
      Reply). r.effect) launched_.reply_is in
      let before = so_far.progress None (so_far.early (subst IsEarly (sym ready) tt)) in
      let now : launched (past ++ step ∷ []) ≡ (launches launch.arguments text launched_.program).launched =
      launched-snoc past step ∙ ap (λ (e : Effect). or_else e.launched (launched past)) effect in
      let still : reached (past ++ step ∷ []) ≡ 0 = reached_still past step (ap end_of is) ∙ before.3 in
      let runs_ : last_run (past ++ step ∷ []) ≡ None = last_run-snoc past step ∙ ap (λ (e : Effect). or_else (last_such
      go e.orders) (last_run past)) effect ∙ before.1 in
      let quiet : numbers (messages (step)) ≡ [] = answer_aside _ _ _ step answers.answer_is ∙ ap (λ (e : Effect).
      filter_map output (map Event e.events)) effect in
      grind (arith, common_steps, early_unwrap, situation-snoc, numbers-snoc, numbers, written) steps 200000

  -- ---- each item

  pub progress_more : (past : History) (item : Item) (step : Step) → step.item ≡ item → IsTaken IsLawfulEvent past item
      → Causes past item step → Progress past → Progress (past ++ step ∷ [])
  progress_more past (Content None) step is taken causes so_far =
      nothing_aside past (Content None) step is refl nothing (nothing_silent past) causes so_far
  progress_more past (Content (Some request)) step is taken causes so_far =
      aside_keeps past step (silent_aside past step causes.0.effect causes.2.effect_is (ap end_of is) (all_silent _ past
      request.body causes.0 causes.1) (answer_aside _ _ _ step causes.2.answer_is)) (λ m. by_answer (λ early.
      answered_late _ _ causes.0 step causes.2 early m)) so_far
    where
      by_answer : ¬ (¬ IsEarlyMark (answer_mark (name_of request.body) causes.0.result)) → situation past ≡ Fresh
      by_answer not = early_reply _ past request.body causes.0 causes.1 (decided _ not)
  progress_more past (Fault k) step is taken causes so_far =
      nothing_aside past (Fault k) step is refl nothing (nothing_silent past) causes so_far
  progress_more past InputEnd step is taken causes so_far =
      nothing_aside past InputEnd step is refl (only_orders (Quit ∷ [])) (quit_silent past) causes so_far
  progress_more past ReadFailure step is taken causes so_far =
      nothing_aside past ReadFailure step is refl (only_orders (Quit ∷ [])) (quit_silent past) causes so_far
  progress_more past MemoryFailure step is taken causes so_far =
      nothing_aside past MemoryFailure step is refl nothing (nothing_silent past) causes so_far
  progress_more past item step is taken causes so_far =
      grind (arith, common_steps, launch_keeps, report_keeps) steps 200000

  pub progress_kept : IsKept IsLawfulEvent Progress
  progress_kept = grind (arith, common_steps, progress_more) steps 200000

  pub progress_first : Progress []
  progress_first = grind (arith, common_steps) steps 200000

  pub numbers_written : NumbersAreWritten
  numbers_written f events past rest lawful history =
      let so_far =
      along IsLawfulEvent Progress progress_kept progress_first f events past rest (lawful_events events lawful)
      history in
      (λ l is. (so_far.progress (Some l) is).0, λ is. (so_far.progress None is).0)
