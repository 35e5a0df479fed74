-- Each line of a granted `setBreakpoints` is answered from the program, in the client's own counting.
use Rattle.dap_history.proofs.Common.{Dialect, At, Block, Body, Breakpoint, BreakpointAnswer, Causes, Command, Content, Fresh, GiveBreakpoints, History, Incoming, InitializeArguments, IsHistoryOf, IsResolved, IsResolvedTo, Item, Launched, None, Ok, Option, Reaction, RepliesIn, Reply, Resolution, Rest, SetBreakpointsArguments, Situation, Some, SourceBreakpoint, Step, StepAt, [], answer_to_line, ap, arith, asked_as, get_or, inl, inr, item_leads, launched, length, less_by, line_offset, offset, option_map_or, refl, reply_of, settings, settings_by, situation, slice_get, step_from, steps, stop_in, subst, sym, unwrap_or, ℕ, ◌++◌, ◌<◌, ◌∙◌, ◌∷◌, ◌≡◌, ◌≤◌, ◌⊎◌}
use Rattle.std.proofs.Common.{List, map, Bool}
use Rattle.std.specs.List.{position, position_or_len}
use Rattle.std.proofs.lemmas.Grind.{common_steps}
use Rattle.std.proofs.lemmas.Option.{slice_get_cases}
use Rattle.dap_msg.specs.declared.command.Command.TheVariants as command
use Rattle.dap_msg.specs.declared.outgoing.Body.TheVariants as body
use Rattle.dap_msg.specs.declared.outgoing.BreakpointAnswer.TheVariants as answer
use Rattle.dap_msg.specs.declared.outgoing.BreakpointRefusal.TheVariants as why
use Rattle.dap_history.specs.Breakpoints.{step_line}
use Rattle.dap_history.specs.LineAnswers.{AnswersLine, AnswersLines, GivesBreakpoint, LinesAreAnswered}
use Rattle.dap_history.specs.Initialized.{IsInitializedBy}
use Rattle.dap_history.proofs.Readings.{settings-snoc}
use Rattle.dap_history.proofs.Along.{IsTaken, IsKept, any_events, along}
use Rattle.dap_history.proofs.Each.{WasTaken, EachTaken, each_kept, each_first}
use Rattle.dap_history.proofs.Transitions.{step_leads}
use Rattle.dap_history.proofs.Holding.{result_of}
use Rattle.dap_history.proofs.Paths.{at_path, at_path_so}
use Rattle.dap_history.proofs.Since.{longer}
use Rattle.dap_history.proofs.Reacted.{Reacted, by_setting, by_answering, replied, by_reaction}

abbrev pub Any : Incoming → Type 0
Any e = Unit {0}

-- ---- how the client counts

-- the client hasn't initialized the session, or counts as it said then
abbrev pub IsCounted : History → Type 0
IsCounted past = (situation past ≡ Fresh) ⊎ IsInitializedBy past (settings past)

pub offset_is : (b : Bool) → offset b ≡ less_by b
offset_is _ = refl

module _ (past : History) (step : Step) (taken : IsTaken Any past step.item) (causes : Causes past step.item step) where
  settings_after : (o : Option InitializeArguments) → settings_by step.item step.answer ≡ o
      → settings (past ++ step ∷ []) ≡ unwrap_or o (settings past)
  settings_after o is = settings-snoc past step ∙ ap (λ x. unwrap_or x (settings past)) is

  counts_on : IsInitializedBy past (settings past) → IsInitializedBy (past ++ step ∷ []) (settings past)
  counts_on was = grind (arith, common_steps, longer) steps 1500000

  -- a granted `initialize` says how
  begins_to_count : (item : Item) → step.item ≡ item → Causes past item step → (a : InitializeArguments)
      → settings_by item step.answer ≡ Some a
      → IsInitializedBy (past ++ step ∷ []) a
  begins_to_count (Content (Some request)) item_is is a says = grind (arith, common_steps) steps 1500000
  begins_to_count _ item_is is a says = absurd cc

  -- nothing else leads on from Fresh
  stays_fresh : (item : Item) → step.item ≡ item → IsTaken Any past item → Causes past item step
      → settings_by item step.answer ≡ None → situation past ≡ Fresh
      → item_leads item step.answer (stop_in step) Fresh ≡ Fresh
  stays_fresh item item_is taken_ is none fresh = grind (arith, common_steps, item_leads, steps) steps 200000

  counted_more : IsCounted past → IsCounted (past ++ step ∷ [])
  counted_more here = by_says (settings_by step.item step.answer) refl here
    where
      by_says : (o : Option InitializeArguments) → settings_by step.item step.answer ≡ o → IsCounted past
          → IsCounted (past ++ step ∷ [])
      by_says (Some a) says here = inr (rw (settings_after _ says) (begins_to_count step.item refl causes a says))
      by_says None none (inr was) = inr (rw (settings_after None none) (counts_on was))
      by_says None none (inl fresh) =
          inl (cc (step_leads past step taken causes, stays_fresh step.item refl taken causes none fresh))

pub counted_kept : IsKept Any IsCounted
counted_kept = grind (arith, common_steps, counted_more) steps 1500000

-- ---- the answers

inside : {X : Type 0} (p : X → Bool) (xs : List X) (i : ℕ) → position p xs ≡ Some i → i < length xs
inside p xs i e = let at : position_or_len p xs ≡ i = grind (arith, common_steps) in grind (arith, common_steps)

module _ (main : Block) (less : ℕ) where
  -- the step that a line gets is there
  step_there : (line i : ℕ) → step_from main line ≡ Some i → (s : StepAt) × (slice_get (steps main) i ≡ Some s)
  step_there line i is = by_cases (slice_get_cases (steps main) i).1
    where
      by_cases : ((x : StepAt) × (i < length (steps main)) × (slice_get (steps main) i ≡ Some x)
          × (get_or (steps main) i x ≡ x))
          ⊎ ((length (steps main) ≤ i) × (slice_get (steps main) i ≡ None))
          → (s : StepAt) × (slice_get (steps main) i ≡ Some s)
      by_cases (inl there) = (there.0, there.2)
      by_cases (inr past_) = grind (arith, common_steps, inside, steps) steps 200000

  line_at : (i : ℕ) (s : StepAt) → slice_get (steps main) i ≡ Some s → step_line main i ≡ s.place.line
  line_at i s is = ap (λ o. option_map_or (λ (x : StepAt). x.place.line) o 0) is

  module _ (b : SourceBreakpoint) where
    answers_line : (r : Resolution) (mine : List Breakpoint) → IsResolvedTo main (asked_as less b) r mine
        → AnswersLine main less b (answer_to_line main less r)
    answers_line (At n) mine is = grind (arith, common_steps, step_there, line_at) steps 1500000
    answers_line r mine is = grind (arith, common_steps) steps 200000

    gives_line : (r : Resolution) (mine : List Breakpoint) → IsResolvedTo main (asked_as less b) r mine
        → GivesBreakpoint main less b (answer_to_line main less r) mine
    gives_line r mine is = grind (arith, common_steps, steps) steps 200000

  -- the breakpoints of lines
  pub give_lines : (lines : List SourceBreakpoint) (answers : List Resolution) (bs : List Breakpoint)
      → IsResolved main less lines answers bs
      → GiveBreakpoints main less lines (map (answer_to_line main less) answers) bs
  give_lines (b ∷ lines) (r ∷ answers) bs are = (
    are.0,
    are.1,
    are.2,
    answers_line b r are.0 are.3,
    gives_line b r are.0 are.3,
    give_lines lines answers are.1 are.4,
  )
  give_lines lines answers bs are = grind (arith, common_steps) steps 200000

  answers_lines : (lines : List SourceBreakpoint) (answers : List Resolution) (bs : List Breakpoint)
      → IsResolved main less lines answers bs
      → AnswersLines main less lines (map (answer_to_line main less) answers)
  answers_lines (b ∷ lines) (r ∷ answers) bs are =
      (answers_line b r are.0 are.3, answers_lines lines answers are.1 are.4)
  answers_lines lines answers bs are = grind (arith, common_steps) steps 200000

-- what a granted `setBreakpoints` is answered with
record AnswersSet (past : History) (asked : SetBreakpointsArguments) (reply : Reply) : Type 0 where
  l : Launched
  answers : List BreakpointAnswer
  there : launched past ≡ Some l
  result_is : reply.result ≡ Ok (body.Breakpoints answers)
  ours : asked.path ≡ Some l.path → AnswersLines l.program (line_offset past) asked.breakpoints answers
  others : (¬ (asked.path ≡ Some l.path)) → answers ≡ map (λ b. answer.Unverified why.OtherSource) asked.breakpoints

reaction_answers : (past : History) {s : Situation} {asked : Command} {reaction : Reaction}
    → Reacted past s asked reaction
    → (a : SetBreakpointsArguments) (b : Body) → asked ≡ command.SetBreakpoints a
    → (reply_of past reaction).result ≡ Ok b → AnswersSet past a (reply_of past reaction)
reaction_answers past (by_setting s c l found bs there path_is resolved) a b asks granted =
    grind (arith, common_steps, map, answers_lines, at_path) steps 1500000
reaction_answers past (by_answering s asked body calm) a b asks granted =
    grind (arith, common_steps, at_path_so) steps 1500000
reaction_answers past _ a b asks granted = absurd cc

-- lines are set after `initialize`
not_fresh : (s : Situation) (past : History) (a : SetBreakpointsArguments) (reply : Reply) (b : Body)
    → RepliesIn s past (command.SetBreakpoints a) reply → reply.result ≡ Ok b → ¬ (s ≡ Fresh)
not_fresh s past a reply b is granted fresh = grind (arith, common_steps, replied, steps) steps 200000

-- ---- the law

module _ (f : Dialect) (events : List Incoming) (past : History) (rest : Rest)
    (history : IsHistoryOf f events past rest) where
  each_counted : EachTaken Any IsCounted past
  each_counted =
      along Any (EachTaken Any IsCounted) (each_kept Any IsCounted counted_kept) (each_first Any IsCounted (inl refl))
      f events past rest (any_events events) history

  pub counted_now : IsCounted past
  counted_now = each_counted.now

  pub counted_before : (before : History) (step : Step) (after : History) → past ≡ before ++ step ∷ after
      → IsCounted before
  counted_before before step after past_is = (each_counted.each before step after past_is).held

pub counts_so : (past : History) → ¬ (situation past ≡ Fresh) → IsCounted past → IsInitializedBy past (settings past)
counts_so past not is = grind (arith, common_steps) steps 200000

pub lines_answered : LinesAreAnswered
lines_answered f events past rest history before step after request asked past_is granted asked_is = (
  there.l,
  settings before,
  there.answers,
  there.there,
  counts_so before (not_fresh (situation before) before asked
      is.0 granted.body (rw (← asked_is) is.1) result_is) was.held,
  (let e = sym result_is ∙ there.result_is in
      cc),
  λ path_is. rw (← (offset_is (settings before).lines_start_at_1)) (there.ours path_is),
  there.others,
)
  where
    was : WasTaken Any IsCounted before step
    was = (along Any (EachTaken Any IsCounted) (each_kept Any IsCounted counted_kept)
        (each_first Any IsCounted (inl refl)) f events past rest (any_events events) history).each before step after
        past_is

    is : Causes before (Content (Some request)) step
    is = subst (λ i. Causes before i step) granted.item_is was.causes

    result_is : is.0.result ≡ Ok granted.body
    result_is = ap (λ a. unwrap_or (result_of a) (Ok granted.body)) (sym is.2.answer_is ∙ granted.answer_is)

    there : AnswersSet before asked is.0
    there =
        by_reaction (λ (r : Reply). r.result ≡ Ok granted.body → AnswersSet before asked r)
        (λ reaction reacted result_is. reaction_answers before reacted asked granted.body asked_is result_is) is.1
        result_is
