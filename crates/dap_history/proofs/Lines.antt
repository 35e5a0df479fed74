-- Each run is under the breakpoints of the lines that were set last, and counts from where they were set.
use Rattle.dap_history.proofs.Common.{Dialect, Accepted, Accepts, AreLawful, Body, Breakpoint, Causes, Command, Configuring, Content, Effect, Event, Fault, Faulted, Fresh, Go, Heading, History, Hold, Incoming, InitializeArguments, InputEnd, IsHistoryOf, IsResolved, IsStopped, Item, Launch, Launched, Launches, Loaded, MemoryFailure, Mode, None, Ok, Option, Orders, Outgoing, PlainOrder, PlainReport, Plan, Quit, Reaction, ReadFailure, Ready, Reason, Refusal, Reply, Resolution, Rest, Running, SetBreakpointsArguments, Situation, SliceOutcome, Some, SourceBreakpoint, Step, Stopped, ThreadArguments, WrittenJoins, [], ap, effect_in, end_of, enters, from_next, go, goes_back, held_effect, if◌then◌else◌, inl, inr, is_back, is_same_path, is_some, last_run, last_such, launched, launches, line_offset, message_mark, name_of, no_plan, nothing, offset, only_orders, option_map_or, or_else, plan, put_in_at, refl, refused, reply_of, reply_with, report_effect, resumes, run_in, runs, settings, settings_by, situation, starts_by, step_mark, subst, sym, unwrap_or, waiting_pause, waiting_plan, waits_by, ℕ, ◌++◌, ◌||◌, ◌∙◌, ◌∷◌, ◌≡◌, answer_to_line, body_of}
use Rattle.std.proofs.Common.{List, Bool, true, false, Result, arith}
use Rattle.std.specs.Prelude.{map, option_map}
use Rattle.dap_msg.specs.declared.command.Command.TheVariants as command
use Rattle.dap_msg.specs.declared.command.CommandName.TheVariants as name
use Rattle.dap_msg.specs.declared.command.Supported.TheVariants as supported
use Rattle.dap_msg.specs.declared.outgoing.Outgoing.TheVariants.{Answer}
use Rattle.dap_msg.specs.declared.outgoing.Body.TheVariants as body
use Rattle.dbg_runner.specs.declared.outcome.SliceOutcome.TheVariants as slice
use Rattle.dap_history.specs.Readings.{is_held, position}
use Rattle.dap_history.specs.Reports.{put_in_by}
use Rattle.dap_history.specs.Lines.{lines_at, lines_by, lines_set, AreOfLines as AreSpelled, anew_mark, are_anew, next_counted, first_counted, HasDebuggee, PlanIsOfLines, EachRunHasItsLines, EachRunCountsFrom}
use Rattle.dap_history.proofs.Readings.{reading-snoc, last_such-snoc, situation-snoc, settings-snoc, launched-snoc, position-snoc, plan-snoc, last_run-snoc, waiting_plan-snoc}
use Rattle.dap_history.proofs.Texts.{OneProgram}
use Rattle.dap_history.proofs.Along.{IsTaken, IsKept, IsLawfulEvent, lawful_events, along}
use Rattle.dap_history.proofs.Each.{WasTaken, EachTaken, each_kept, each_first}
use Rattle.dap_history.proofs.Early.{IsEarly}
use Rattle.dap_history.proofs.Told.{mark_of_logs, stop_marks}
use Rattle.dap_history.proofs.Silent.{all_silent}
use Rattle.dap_history.proofs.Reacted.{IsCalm, Reacted, by_answering, by_setting, by_starting, by_resuming, by_ending, by_retreating, by_interrupting, by_reaction}
use Rattle.dap_history.proofs.Outputs.{outputs_mark, report_launches, outputs_unmarked}
use Rattle.dap_history.proofs.Passing.{Ran, loaded_orders}
use Rattle.dap_history.proofs.Stopping.{ran_more, ran_first}
use Rattle.dap_history.proofs.Ordering.{is_back_is}
use Rattle.dap_history.proofs.Once.{ordered_last}
use Rattle.dap_history.proofs.Asked.{no_go_in, no_go_held}
use Rattle.dap_history.proofs.LineAnswers.{offset_is, give_lines, counts_so, counted_now, counted_before}
use Rattle.std.proofs.lemmas.Grind.{common_steps}

-- ---- what is read of a history in which this program is launched

-- the breakpoints of lines, as they are resolved; there are none where no lines were set
abbrev AreOfLines : Launched → ℕ → Option (List SourceBreakpoint) → List Breakpoint → Type 0
AreOfLines l less None breakpoints = breakpoints ≡ []
AreOfLines l less (Some lines) breakpoints =
    (answers : List Resolution) × IsResolved l.program less lines answers breakpoints

-- as the laws spell it
spelled : (l : Launched) (counting : InitializeArguments) (lines : Option (List SourceBreakpoint))
    (bs : List Breakpoint) → AreOfLines l (offset counting.lines_start_at_1) lines bs → AreSpelled l counting lines bs
spelled l counting lines bs is = grind (arith, common_steps, offset_is, give_lines) steps 200000

record View : Type 0 where
  settings : InitializeArguments
  lines : Option (List SourceBreakpoint)
  now : Plan
  waits : Option (List Breakpoint)
  last : Option Heading
  here : ℕ
  anew : Bool

abbrev view_of : InitializeArguments → Option (List SourceBreakpoint) → Plan → Option (List Breakpoint) → Option Heading
    → ℕ → Bool → View
view_of asked lines now waits last here anew =
    record { settings = asked; lines = lines; now = now; waits = waits; last = last; here = here; anew = anew }

abbrev view : Launched → History → View
view l past =
    view_of (settings past) (lines_set l.path past) (plan past) (waiting_plan past) (last_run past) (position past)
    (are_anew l.path past)

-- with one more step
abbrev next : Launched → Step → View → View
next l step v =
    view_of (unwrap_or (settings_by step.item step.answer) v.settings)
    (or_else (lines_by l.path step.item step.answer) v.lines) (unwrap_or step.effect.put_in v.now)
    (unwrap_or (waits_by step) v.waits) (or_else (last_such go step.effect.orders) v.last)
    (unwrap_or (end_of step.item) v.here) (unwrap_or (anew_mark l.path step) v.anew)

lines_set-snoc : (path : List ℕ) (past : History) (step : Step)
    → lines_set path (past ++ step ∷ []) ≡ or_else (lines_by path step.item step.answer) (lines_set path past)
lines_set-snoc path past step = last_such-snoc (λ (s : Step). lines_by path s.item s.answer) past step

are_anew-snoc : (path : List ℕ) (past : History) (step : Step)
    → are_anew path (past ++ step ∷ []) ≡ unwrap_or (anew_mark path step) (are_anew path past)
are_anew-snoc path past step = reading-snoc (anew_mark path) past step false

view-snoc : (l : Launched) (past : History) (step : Step) → view l (past ++ step ∷ []) ≡ next l step (view l past)
view-snoc l past step =
    let new = past ++ step ∷ [] in
    let n = next l step (view l past) in
    cc (
      settings-snoc past step,
      lines_set-snoc l.path past step,
      plan-snoc past step,
      waiting_plan-snoc past step,
      last_run-snoc past step,
      position-snoc past step,
      are_anew-snoc l.path past step,
    )

-- ---- what holds of it

abbrev less : View → ℕ
less v = offset v.settings.lines_start_at_1

abbrev goes_back_last : Option Heading → Bool
goes_back_last last = option_map_or (λ (run : Heading). goes_back run.mode) last false

-- the plan in force is of the lines, and counts as the next run is to
abbrev Stands : Launched → View → Type 0
Stands l v =
    AreOfLines l (less v) v.lines v.now.breakpoints × (v.now.counted_from ≡ next_counted
    (v.anew || goes_back_last v.last) v.last v.here)

-- while a run goes on, what waits is of the lines, if anything does
abbrev Planned : Launched → Situation → View → Type 0
Planned l Configuring v = AreOfLines l (less v) v.lines v.now.breakpoints × (v.now.counted_from ≡ 0) × (v.last ≡ None)
Planned l Running v =
    AreOfLines l (less v) v.lines (unwrap_or v.waits v.now.breakpoints) × (run : Heading) × (v.last ≡ Some run)
    × (v.now.counted_from ≡ run.counted_from) × (is_some v.waits ≡ v.anew)
Planned l Stopped v = Stands l v
Planned l Faulted v = Stands l v
Planned l _ v = Unit {0}

abbrev After : Launched → Situation → Step → View → Type 0
After l s step v = Planned l (unwrap_or (step_mark step) s) (next l step v)

abbrev pub step_of : Item → Option Outgoing → Effect → Step
step_of item answer effect = record { item = item; answer = answer; effect = effect }

abbrev pub launching : Launch → Option (List ℕ) → Reply → Step
launching launch file reply =
    step_of (Loaded launch file) (Some (Answer launch.seq (name.Supported supported.Launch) reply.result)) reply.effect

abbrev pub answering : ℕ → Command → Result Body Refusal → Effect → Step
answering seq asked result effect =
    step_of (Content (Some (record { seq = seq; body = asked }))) (Some (Answer seq (name_of asked) result)) effect

pub same_step : (step : Step) (item : Item) (answer : Option Outgoing) (effect : Effect) → step.item ≡ item
    → step.answer ≡ answer → step.effect ≡ effect → step ≡ step_of item answer effect
same_step step item answer effect a b c = grind (arith, common_steps) steps 200000

-- ---- replies

-- the commands that ask for a run, but that which starts the program
abbrev IsGoing : Command → Type 0
IsGoing (command.Resume k asked) = Unit {0}
IsGoing (command.Retreat k asked) = Unit {0}
IsGoing _ = ⊥

module _ (l : Launched) (v : View) where
  stands_there : (s : Situation) → IsStopped s → Planned l s v → Stands l v
  stands_there s stands here = grind (arith, common_steps) steps 200000

  -- a run is ordered where the program stands
  goes_planned : (seq : ℕ) (asked : Command) → IsGoing asked → (b : Body) (s : Situation) (run : Heading)
      → run.counted_from ≡ v.now.counted_from → Stands l v → After l s
      (answering seq asked (Ok b) (only_orders (Go run ∷ []))) v
  goes_planned seq asked going b s run counted here = grind (arith, common_steps) steps 200000

  other_lines : (s : Situation) (bs : List SourceBreakpoint) (same : Bool) → same ≡ false → Planned l s v
      → Planned l s (view_of v.settings (or_else (if same then Some bs else None) v.lines) v.now v.waits v.last v.here
      (unwrap_or (option_map (λ (lines : List SourceBreakpoint). true) (if same then Some bs else None)) v.anew))
  other_lines s bs same is here = grind (arith, common_steps) steps 200000

  -- a command that has no effect
  calm_planned : (past : History) (seq : ℕ) (s : Situation) (asked : Command) (b : Body) → launched past ≡ Some l
      → IsCalm past s asked b → Planned l s v → After l s (answering seq asked (Ok b) nothing) v
  calm_planned past seq s asked b there calm here = grind (arith, common_steps, other_lines) steps 200000

  -- a pause, which may hold the run
  pause_planned : (seq n : ℕ) (a : ThreadArguments) (t : Bool) → Planned l Running v
      → After l Running (answering seq (command.Pause a) (Ok body.None) (only_orders (if t then [] else Hold n ∷ []))) v
  pause_planned seq n a t here = grind (arith, common_steps) steps 200000

  -- lines that are set
  module _ (seq : ℕ) (a : SetBreakpointsArguments) (same : is_same_path a.path l.path ≡ true) (b : Body)
      (bs : List Breakpoint)
      (are : AreOfLines l (less v) (Some a.breakpoints) bs) where
    abbrev lines_then : Bool → Option (List SourceBreakpoint)
    lines_then t = if t then Some a.breakpoints else None

    abbrev anew_then : Bool → Bool
    anew_then t = unwrap_or (option_map (λ (lines : List SourceBreakpoint). true) (lines_then t)) v.anew

    -- they wait
    abbrev wait_then : Bool → View
    wait_then t = view_of v.settings (or_else (lines_then t) v.lines) v.now (Some bs) v.last v.here (anew_then t)

    waits_planned : Planned l Running v → Planned l Running (wait_then (is_same_path a.path l.path))
    waits_planned here = subst (λ t. Planned l Running (wait_then t)) (sym same) (are, here.1, here.2, here.3, refl)

    sets_running : (n : ℕ) (t : Bool) → Planned l Running v → After l Running
        (answering seq (command.SetBreakpoints a) (Ok b)
        (record nothing { waits = Some bs; orders = if t then [] else Hold n ∷ [] })) v
    sets_running n t here = grind (arith, common_steps, waits_planned) steps 200000

    sets_planned : (past : History) (s : Situation) → position past ≡ v.here → Planned l s v
        → After l s (answering seq (command.SetBreakpoints a) (Ok b) (effect_in s past bs)) v
    sets_planned past s stands here = grind (arith, common_steps, sets_running, runs) steps 200000

  -- the program is started
  begins_planned : (past : History) (seq : ℕ) (l' : Launched) (why : Option Reason) → plan past ≡ v.now
      → Planned l Configuring v → After l Configuring
      (answering seq command.ConfigurationDone (Ok body.None) (enters past l' why)) v
  begins_planned past seq l' why plan_is here =
      grind (arith, common_steps, enters, mark_of_logs, stop_marks) steps 200000

-- what holds where the program l is launched, after a reply
module _ (past : History) (l : Launched) (there : launched past ≡ Some l) (seq : ℕ) where
  abbrev Replied : Situation → Command → Reply → Type 0
  Replied s asked reply = After l s (answering seq asked reply.result reply.effect) (view l past)

  -- the program that is launched is this one
  same_program : (k : Launched) → launched past ≡ Some k → k ≡ l
  same_program k is = let e = sym is ∙ there in cc

  reaction_planned : {s : Situation} {asked : Command} {reaction : Reaction} → Reacted past s asked reaction
      → s ≡ situation past → Planned l s (view l past) → Replied s asked (reply_of past reaction)
  reaction_planned (by_answering s asked b calm) is here = calm_planned l _ past seq s asked b there calm here
  reaction_planned (by_setting s a k found bs there' path_is resolved) is here =
      let one = same_program k there' in
      subst (λ t. After l t (answering seq (command.SetBreakpoints a)
      (Ok (body.Breakpoints (map (answer_to_line k.program (line_offset past)) found)))
      (effect_in (situation past) past bs)) (view l past)) (sym is)
      (sets_planned l (view l past) seq a
      (ap (λ (k : Launched). is_same_path a.path k.path) (sym one) ∙ path_is)
      (body.Breakpoints (map (answer_to_line k.program (line_offset past)) found)) bs
      (found, subst (λ (k : Launched). IsResolved k.program (line_offset past) a.breakpoints found bs) one resolved)
      past (situation past) refl (subst (λ t. Planned l t (view l past)) is here))
  reaction_planned (by_starting k there') is here = begins_planned l _ past seq k _ refl here
  reaction_planned (by_resuming kind a k there') is here =
      goes_planned l (view l past) seq (command.Resume kind a) tt (body_of kind) Stopped _ refl here
  reaction_planned (by_ending kind a) is here = tt
  reaction_planned (by_retreating s kind a k stands there') is here =
      goes_planned l (view l past) seq (command.Retreat kind a) tt body.None s _ refl
      (stands_there l (view l past) s stands here)
  reaction_planned (by_interrupting a) is here = pause_planned l _ seq (runs past) a (is_held past || is_back past) here
  reaction_planned _ is here = here

-- ---- reports

-- what a report puts in is what waits, if anything does
lines_put : (back : Bool) (n : ℕ) (waits : Option (List Breakpoint)) (now : Plan)
    → (unwrap_or (if back then Some (from_next n (unwrap_or waits now.breakpoints)) else put_in_at n waits)
    now).breakpoints ≡ unwrap_or waits now.breakpoints
lines_put back n waits now = grind (arith, common_steps) steps 200000

counted_put : (back : Bool) (n : ℕ) (waits : Option (List Breakpoint)) (now : Plan) (run : Heading)
    → now.counted_from ≡ run.counted_from
    → (unwrap_or (if back then Some (from_next n (unwrap_or waits now.breakpoints)) else put_in_at n waits)
    now).counted_from ≡ next_counted (is_some waits || back) (Some run) n
counted_put back n waits now run is = grind (arith, common_steps) steps 200000

module _ (past : History) (r : PlainReport) (accepts : Accepts past r) (l : Launched)
    (here : Planned l Running (view l past)) where
  abbrev plan_put : Plan
  plan_put = unwrap_or (put_in_by past r) (plan past)

  are_put : AreOfLines l (line_offset past) (lines_set l.path past) plan_put.breakpoints
  are_put = rw (lines_put (goes_back r.mode) r.end (waiting_plan past) (plan past)) here.0

  put_counts : plan_put.counted_from ≡ next_counted (are_anew l.path past || is_back past) (last_run past) r.end
  put_counts = grind (arith, common_steps, counted_put, is_some, is_back_is) steps 200000

  abbrev Reported : SliceOutcome → Effect → Type 0
  Reported e effect = After l Running (step_of (Accepted r) None effect) (view l past)

  -- where the events lead
  by_mark : (e : SliceOutcome) (effect : Effect) (m : Option Situation) → effect.orders ≡ []
      → last_such message_mark (map Event effect.events) ≡ m
      → Planned l (unwrap_or m Running) (next l (step_of (Accepted r) None effect) (view l past)) → Reported e effect
  by_mark e effect m none is planned = grind (arith, common_steps) steps 200000

  held_planned : (pauses : Bool) → Reported slice.Held (held_effect past r pauses)
  held_planned true = by_mark slice.Held (held_effect past r true) _ refl (outputs_mark past r _) (are_put, put_counts)
  held_planned false = (are_put, _, refl, refl, refl)

  report_planned : (e : SliceOutcome) → Reported e (report_effect past r e)
  report_planned slice.More = grind (arith, common_steps, by_mark, outputs_unmarked) steps 200000
  report_planned (slice.Due why) =
      grind (arith, common_steps, by_mark, outputs_mark, stop_marks, are_put, put_counts) steps 200000
  report_planned slice.Held = held_planned (waiting_pause past)
  report_planned slice.Done = grind (arith, common_steps, by_mark, outputs_mark) steps 200000
  report_planned (slice.Fault fault) =
      grind (arith, common_steps, by_mark, outputs_mark, are_put, put_counts) steps 200000
  report_planned slice.NoMemory = here

-- ---- before a launch

-- no lines are set, and no plan is in force
record Unset (past : History) : Type 0 where
  lines : (path : List ℕ) → lines_set path past ≡ None
  plan_is : plan past ≡ no_plan

-- the step sets none, and puts none in
record SetsNone (step : Step) : Type 0 where
  lines : (path : List ℕ) → lines_by path step.item step.answer ≡ None
  put_in : step.effect.put_in ≡ None

unset_more : (past : History) (step : Step) → SetsNone step → Unset past → Unset (past ++ step ∷ [])
unset_more past step none here = grind (arith, common_steps, lines_set-snoc, plan-snoc) steps 200000

module _ (past : History) (none : launched past ≡ None) where
  not_launched : (l : Launched) → ¬ (launched past ≡ Some l)
  not_launched l there = let e = sym none ∙ there in absurd cc

  calm_none : (path : List ℕ) (s : Situation) (asked : Command) (b : Body) → IsCalm past s asked b
      → lines_at path asked ≡ None
  calm_none path s asked b calm = grind (arith, common_steps, not_launched) steps 200000

  reaction_none : (seq : ℕ) {s : Situation} {asked : Command} {reaction : Reaction} → Reacted past s asked reaction
      → SetsNone (answering seq asked (reply_of past reaction).result (reply_of past reaction).effect)
  reaction_none seq (by_answering s asked b calm) =
      record { lines = λ path. calm_none path s asked b calm; put_in = refl }
  reaction_none seq (by_setting s a l found bs there path_is resolved) = absurd (not_launched l there)
  reaction_none seq (by_starting l there) = absurd (not_launched l there)
  reaction_none seq (by_resuming kind a l there) = absurd (not_launched l there)
  reaction_none seq (by_retreating s kind a l stands there) = absurd (not_launched l there)
  reaction_none seq _ = record { lines = λ path. refl; put_in = refl }

-- ---- along a history

module _ (one : OneProgram) (joins : WrittenJoins) where
  record Kept (past : History) : Type 0 where
    ran : Ran one joins past
    unset : launched past ≡ None → Unset past
    planned : (l : Launched) → launched past ≡ Some l → Planned l (situation past) (view l past)

  -- both, with one more step
  abbrev Both : History → Type 0
  Both past =
      (launched past ≡ None → Unset past) × ((l : Launched) → launched past ≡ Some l
      → Planned l (situation past) (view l past))

  -- a step that launches nothing
  still : (past : History) (step : Step) → step.effect.launched ≡ None → (launched past ≡ None → SetsNone step)
      → ((l : Launched) → launched past ≡ Some l → After l (situation past) step (view l past)) → Kept past
      → Both (past ++ step ∷ [])
  still past step launches none planned here = (
    λ is. let before = sym same ∙ is in unset_more past step (none before) (here.unset before),
    λ l is. subst (λ s. Planned l s (view l (past ++ step ∷ []))) (sym (situation-snoc past step))
        (subst (Planned l (unwrap_or (step_mark step) (situation past))) (sym (view-snoc l past step))
        (planned l (sym same ∙ is))),
  )
    where
      same : launched (past ++ step ∷ []) ≡ launched past
      same = launched-snoc past step ∙ ap (λ o. or_else o (launched past)) launches

  -- a step that has no effect, and answers nothing
  aside : (past : History) (item : Item) (orders : List PlainOrder) → ((path : List ℕ) → lines_by path item None ≡ None)
      → (effect : Effect) → effect ≡ only_orders orders
      → ((l : Launched) → Planned l (situation past) (view l past)
      → After l (situation past) (step_of item None (only_orders orders)) (view l past)) → Kept past
      → Both (past ++ step_of item None effect ∷ [])
  aside past item orders lines effect is after here =
      rw is (still past (step_of item None (only_orders orders)) refl (λ none. record { lines = lines; put_in = refl })
      (λ l there. after l (here.planned l there)) here)

  launch_both : (past : History) (launch : Launch) (file : Option (List ℕ)) (reply : Reply) → situation past ≡ Ready
      → Launches launch.arguments file reply → Kept past
      → Both (past ++ launching launch file reply ∷ [])
  launch_both past launch file reply ready is here = by_file file is
    where
      not_yet : launched past ≡ None
      not_yet = here.ran.so_far.early (subst IsEarly (sym ready) tt)

      refused_so : (file : Option (List ℕ)) (why : Refusal) → reply ≡ refused why
          → Both (past ++ launching launch file reply ∷ [])
      refused_so file why is = grind (arith, common_steps, still, refused, not_launched) steps 200000

      by_file : (file : Option (List ℕ)) → Launches launch.arguments file reply
          → Both (past ++ launching launch file reply ∷ [])
      by_file None is = refused_so None _ is
      by_file (Some text) (inl is) = refused_so (Some text) _ is.reply_is
      by_file (Some text) (inr is) =
          subst (λ r. Both (past ++ launching launch (Some text) r ∷ [])) (sym is.reply_is)
          (λ none. absurd (let e = sym (launched-snoc past new) ∙ none in cc), at_launch)
        where
          new : Step
          new = launching launch (Some text) (reply_with body.None (launches launch.arguments text is.program))

          at_launch : (l : Launched) → launched (past ++ new ∷ []) ≡ Some l
              → Planned l (situation (past ++ new ∷ [])) (view l (past ++ new ∷ []))
          at_launch l there =
              let unset = here.unset not_yet in
              let none : Planned l Configuring (next l new (view l past)) = (
                subst (λ o. AreOfLines l (line_offset past) o (plan past).breakpoints) (sym (unset.lines l.path))
                    (ap (λ (p : Plan). p.breakpoints) unset.plan_is),
                ap (λ (p : Plan). p.counted_from) unset.plan_is,
                (here.ran.so_far.progress None not_yet).1,
              ) in
              subst (λ s. Planned l s (view l (past ++ new ∷ []))) (sym (situation-snoc past new))
              (subst (Planned l Configuring) (sym (view-snoc l past new)) none)

  both_more : (past : History) (item : Item) (step : Step) → step.item ≡ item → IsTaken IsLawfulEvent past item
      → Causes past item step → Kept past → Both (past ++ step ∷ [])
  both_more past (Content None) step item_is taken is here =
      rw (same_step step (Content None) None step.effect item_is is.answer_is refl) (aside past (Content None) [] (λ
      path. refl) step.effect is.effect_is (λ l planned. planned) here)
  both_more past (Content (Some request)) step item_is taken is here =
      rw (same_step step (Content (Some request)) (Some (Answer request.seq (name_of request.body) is.0.result))
      is.0.effect item_is is.2.answer_is is.2.effect_is) (still past (answering request.seq request.body is.0.result
      is.0.effect) (all_silent (situation past) past request.body is.0 is.1).no_launch (λ none. by_reaction (λ (r :
      Reply). SetsNone (answering request.seq request.body r.result r.effect)) (λ reaction. reaction_none past none
      request.seq) is.1) (λ l there. by_reaction (Replied past l there request.seq (situation past) request.body) (λ
      reaction reacted. reaction_planned past l there request.seq reacted refl (here.planned l there)) is.1) here)
  both_more past (Loaded launch file) step item_is taken is here =
      rw (same_step step _ _ _ item_is is.2.answer_is is.2.effect_is) (launch_both past launch file _ taken is.1 here)
  both_more past (Accepted r) step item_is taken is here =
      rw (same_step step (Accepted r) None (report_effect past r r.outcome) item_is is.answer_is is.effect_is) (still
      past (step_of (Accepted r) None (report_effect past r r.outcome)) (report_launches past r r.outcome) (λ none.
      absurd (let e = sym (here.ran.so_far.progress None none).1 ∙ taken.0.run_is in
      cc)) (λ l there. subst (λ s. After l s (step_of (Accepted r) None (report_effect past r r.outcome)) (view l past))
      (sym taken.0.running) (report_planned past r taken.0 l (subst (λ s. Planned l s (view l past)) taken.0.running
      (here.planned l there)) r.outcome)) here)
  both_more past (Fault k) step item_is taken is here =
      subst (λ s. Both (past ++ s ∷ [])) (sym (same_step step (Fault k) None step.effect item_is is.answer_is refl))
      (aside past (Fault k) [] (λ path. refl) step.effect is.effect_is (λ l planned. planned) here)
  both_more past InputEnd step item_is taken is here =
      subst (λ s. Both (past ++ s ∷ [])) (sym (same_step step InputEnd None step.effect item_is is.answer_is refl))
      (aside past InputEnd (Quit ∷ []) (λ path. refl) step.effect is.effect_is (λ l planned. planned) here)
  both_more past ReadFailure step item_is taken is here =
      subst (λ s. Both (past ++ s ∷ [])) (sym (same_step step ReadFailure None step.effect item_is is.answer_is refl))
      (aside past ReadFailure (Quit ∷ []) (λ path. refl) step.effect is.effect_is (λ l planned. planned) here)
  both_more past MemoryFailure step item_is taken is here =
      subst (λ s. Both (past ++ s ∷ [])) (sym (same_step step MemoryFailure None step.effect item_is is.answer_is refl))
      (aside past MemoryFailure [] (λ path. refl) step.effect is.effect_is (λ l planned. planned) here)

  kept_more : (past : History) (step : Step) → IsTaken IsLawfulEvent past step.item → Causes past step.item step
      → Kept past → Kept (past ++ step ∷ [])
  kept_more past step taken causes here =
      let both = both_more past step.item step refl taken causes here in
      record { ran = ran_more one joins past step taken causes here.ran; unset = both.0; planned = both.1 }

  kept_kept : IsKept IsLawfulEvent Kept
  kept_kept = record {
    step = λ past item new taking taken after here.
        subst Kept (sym after.new_is)
        (kept_more past after.step (subst (IsTaken IsLawfulEvent past) (sym after.item_is) taken)
        (subst (λ i. Causes past i after.step) (sym after.item_is) after.causes) here);
  }

  kept_first : Kept []
  kept_first =
      record {
        ran = ran_first one joins;
        unset = λ is. record { lines = λ path. refl; plan_is = refl };
        planned = λ l
            is. absurd cc;
      }

  -- ---- the run that a step orders

  -- it is under the breakpoints of the lines set last, and counts as it is to
  abbrev RunsSo : History → Option Outgoing → Heading → Type 0
  RunsSo past answer run =
      (l : Launched) × (launched past ≡ Some l) × AreOfLines l (line_offset past) (lines_set l.path past) run.plan
      × (run.counted_from ≡ first_counted past l answer run.start)

  not_a_start : (seq : ℕ) (asked : Command) (b : Body) → IsGoing asked
      → starts_by (Some (Answer seq (name_of asked) (Ok b))) ≡ false
  not_a_start seq asked b going = grind (arith, common_steps) steps 200000

  -- a run from where the program stands
  from_there : (past : History) (l : Launched) (seq : ℕ) (asked : Command) (b : Body) (m : Mode)
      → launched past ≡ Some l → IsGoing asked → Stands l (view l past) → (run : Heading)
      → last_such go (resumes past l m) ≡ Some run → RunsSo past (Some (Answer seq (name_of asked) (Ok b))) run
  from_there past l seq asked b m there going stands run goes = grind (arith, common_steps, not_a_start) steps 200000

  begins_so : (past : History) (l : Launched) (seq : ℕ) (why : Option Reason) → launched past ≡ Some l
      → Planned l Configuring (view l past) → (run : Heading) → last_such go (enters past l why).orders ≡ Some run
      → RunsSo past (Some (Answer seq (name_of command.ConfigurationDone) (Ok body.None))) run
  begins_so past l seq None there planned run goes =
      let same = ap (λ o. unwrap_or o run) goes in
      (l, there, rw (← (ap (λ (h : Heading). h.plan) same)) planned.0, cc planned.1)
  begins_so past l seq (Some r) there planned run goes = absurd cc

  -- a reply that orders no run
  none_so : (past : History) (answer : Option Outgoing) (run : Heading) (orders os : List PlainOrder) → orders ≡ os
      → last_such go os ≡ None → last_such go orders ≡ Some run → RunsSo past answer run
  none_so past answer run orders os is none some = let e = sym some ∙ ap (last_such go) is ∙ none in absurd cc

  reaction_so : (past : History) → Kept past → (seq : ℕ) {s : Situation} {asked : Command} {reaction : Reaction}
      → Reacted past s asked reaction → s ≡ situation past → (run : Heading)
      → last_such go (reply_of past reaction).effect.orders ≡ Some run
      → RunsSo past (Some (Answer seq (name_of asked) (reply_of past reaction).result)) run
  reaction_so past here seq (by_starting l there) is run goes =
      begins_so past l seq _ there (subst (λ s. Planned l s (view l past)) (sym is) (here.planned l there)) run goes
  reaction_so past here seq (by_resuming kind a l there) is run goes =
      from_there past l seq (command.Resume kind a) (body_of kind) _ there tt
      (subst (λ s. Planned l s (view l past)) (sym is) (here.planned l there)) run goes
  reaction_so past here seq (by_retreating s kind a l stands there) is run goes =
      from_there past l seq (command.Retreat kind a) body.None _ there tt (stands_there l (view l past) s stands (rw is
      (here.planned l there))) run goes
  reaction_so past here seq it is run goes = grind (arith, common_steps, none_so, no_go_in, no_go_held) steps 200000

  -- a run that follows one that was held
  held_so : (past : History) (r : PlainReport) → Accepts past r → (l : Launched) → launched past ≡ Some l
      → Planned l Running (view l past) → (e : SliceOutcome) (run : Heading)
      → last_such go (report_effect past r e).orders ≡ Some run → RunsSo past None run
  held_so past r accepts l there planned e run goes = grind (arith, common_steps, go, are_put, put_counts) steps 200000

  report_so : (past : History) (r : PlainReport) → Accepts past r → Kept past → (o : Option Launched)
      → launched past ≡ o → (run : Heading) → last_such go (report_effect past r r.outcome).orders ≡ Some run
      → RunsSo past None run
  report_so past r accepts here None none run goes =
      absurd (let e = sym (here.ran.so_far.progress None none).1 ∙ accepts.run_is in cc)
  report_so past r accepts here (Some l) there run goes =
      held_so past r accepts l there (subst (λ s. Planned l s (view l past)) accepts.running (here.planned l there))
      r.outcome run goes

  item_so : (past : History) (item : Item) (step : Step) → IsTaken IsLawfulEvent past item → Causes past item step
      → Kept past → (run : Heading) → run_in step ≡ Some run → RunsSo past step.answer run
  item_so past (Content (Some request)) step taken is here run goes =
      rw is.2.answer_is (by_reaction (λ (r : Reply). last_such go r.effect.orders ≡ Some run → RunsSo past (Some (Answer
      request.seq (name_of request.body) r.result)) run) (λ reaction reacted goes. reaction_so past here request.seq
      reacted refl run goes) is.1 (cc is.2.effect_is))
  item_so past (Accepted r) step taken is here run goes =
      rw is.answer_is (report_so past r taken.0 here (launched past) refl run (cc is.effect_is))
  item_so past item step taken is here run goes = grind (arith, common_steps, none_so, loaded_orders) steps 200000

  module _ (f : Dialect) (events : List Incoming) (past : History) (rest : Rest) (lawful : AreLawful events)
      (history : IsHistoryOf f events past rest) (before : History) (step : Step) (after : History) (run : Heading)
      (past_is : past ≡ before ++ step ∷ after) (orders : Orders step run) where
    each : EachTaken IsLawfulEvent Kept past
    each = along IsLawfulEvent (EachTaken IsLawfulEvent Kept) (each_kept IsLawfulEvent Kept kept_kept)
        (each_first IsLawfulEvent Kept kept_first) f events past rest (lawful_events events lawful) history

    was : WasTaken IsLawfulEvent Kept before step
    was = each.each before step after past_is

    so : RunsSo before step.answer run
    so = item_so before step.item step was.taken was.causes was.held run
        (ordered_last before step run was.causes orders)

  -- nothing is launched in Fresh
  not_fresh : (past : History) → Kept past → (l : Launched) → launched past ≡ Some l → ¬ (situation past ≡ Fresh)
  not_fresh past here l there fresh = grind (arith, common_steps) steps 200000

  pub has_its_lines : EachRunHasItsLines
  has_its_lines f events past rest lawful history before step after past_is run orders =
      let there = so f events past rest lawful history before step after run past_is orders in (
        there.0,
        settings before,
        there.1,
        counts_so before (not_fresh before here there.0 there.1)
            (counted_before f events past rest history before step after past_is),
        spelled there.0 (settings before) (lines_set there.0.path before) run.plan there.2,
      )
    where
      here : Kept before
      here = (was f events past rest lawful history before step after run past_is orders).held

  pub counts_as_set : EachRunCountsFrom
  counts_as_set f events past rest lawful history before step after past_is run orders =
      let there = so f events past rest lawful history before step after run past_is orders in
      (there.0, there.1, there.3)

  -- ---- the plan in force

  in_force : (l : Launched) (v : View) (s : Situation) → HasDebuggee s → Planned l s v
      → AreOfLines l (less v) v.lines v.now.breakpoints × (s ≡ Configuring → v.now.counted_from ≡ 0)
  in_force l v s has planned = grind (arith, common_steps) steps 200000

  pub plan_of_lines : PlanIsOfLines
  plan_of_lines f events past rest lawful history has l there = (
    settings past,
    counts_so past (not_fresh past here l there) (counted_now f events past rest history),
    spelled l (settings past) (lines_set l.path past) (plan past).breakpoints force.0,
    force.1,
  )
    where
      here : Kept past
      here = along IsLawfulEvent Kept kept_kept kept_first f events past rest (lawful_events events lawful) history

      force : AreOfLines l (line_offset past) (lines_set l.path past) (plan past).breakpoints
          × (situation past ≡ Configuring → (plan past).counted_from ≡ 0)
      force = in_force l (view l past) (situation past) has (here.planned l there)

  -- before the program is started the plan in force counts from position 0
  pub first_counts : (f : Dialect) (events : List Incoming) (past : History) (rest : Rest) → AreLawful events
      → IsHistoryOf f events past rest → (before : History) (step : Step) (after : History)
      → past ≡ before ++ step ∷ after → (l : Launched) → launched before ≡ Some l → situation before ≡ Configuring
      → (plan before).counted_from ≡ 0
  first_counts f events past rest lawful history before step after past_is l there configuring =
      (in_force l (view l before) (situation before) (rw configuring tt) (kept_before.planned l there)).1 configuring
    where
      kept_before : Kept before
      kept_before =
          ((along IsLawfulEvent _ (each_kept IsLawfulEvent Kept kept_kept) (each_first IsLawfulEvent Kept kept_first) f
          events past rest (lawful_events events lawful) history).each before step after past_is).held
