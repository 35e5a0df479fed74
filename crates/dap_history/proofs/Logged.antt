-- The logs reported are those of the positions considered.
use Rattle.dap_history.proofs.Common.{Accepted, Accepts, Block, Breakpoint, Causes, EndsBy, Heading, History, Incoming, IsLawfulReport, Launched, LogsAreSaid, None, PlainReport, SliceOutcome, Some, Step, Went, WentOn, WrittenJoins, [], all_runs, ap, append-nil, arith, at, cases_lt, end_in, faults, filter_map, flat_map, flat_map-append, go, if◌then◌else◌, is_due, lacks_memory, launched, logs_told, range_with_len, refl, run_end, run_texts, runs, subst, sym, takes_all, text_of_log, ℕ, ◌++◌, ◌+◌, ◌-◌, ◌<◌, ◌∙◌, ◌∷◌, ◌≡◌, back_if}
use Rattle.std.proofs.Common.{List, Bool, false, append_assoc}
use Rattle.std.specs.Prelude.{map, ◌&&◌}
use Rattle.std.specs.List.{enumerate_from}
use Rattle.dbg_plan.specs.Due.{is_hit, arrives_in, accepts, arrivals}
use Rattle.dbg_plan.specs.Logs.{log_at}
use Rattle.dbg_runner.specs.declared.outcome.SliceOutcome.TheVariants as slice
use Rattle.dbg_runner.specs.Lawful.{is_over, is_held, logs_in}
use Rattle.dap_history.specs.Considered.{texts_at}
use Rattle.dap_history.proofs.Along.{IsTaken}
use Rattle.dap_history.proofs.Silent.{NextRuns, no_runs, next_run}
use Rattle.dap_history.proofs.Outputs.{told_texts}
use Rattle.dap_history.proofs.Texts.{OneProgram}
use Rattle.dap_history.proofs.Progress.{report_program}
use Rattle.dap_history.proofs.Passing.{Ran, starts_here, begun_there}
use Rattle.dap_history.proofs.Runs.{AreNumbered, AreBelow, before_last, ranges_join, none_between}
use Rattle.dap_history.proofs.Counted.{all_runs-snoc, run_end-snoc, next_runs, Counted, last_of_all, accepted_number, if_other, if_same, new_run_end}
use Rattle.std.proofs.lemmas.Grind.{common_steps}

-- ---- a program that is over logs nothing

over_unhit : (main : Block) (t m : ℕ) (b : Breakpoint) → at main m ≡ Some [] → is_hit main t m b ≡ false
over_unhit main t m b over = ap (λ c. arrives_in main b c && accepts b.rule (arrivals main b t (m + 1))) over

over_unlogged : (main : Block) (bs : List Breakpoint) (t m k : ℕ) → at main m ≡ Some []
    → filter_map (log_at main t m) (enumerate_from k bs) ≡ []
over_unlogged main [] t m k over = refl
over_unlogged main (b ∷ bs) t m k over = cc (over_unhit main t m b over, over_unlogged main bs t m (k + 1) over)

-- ---- what positions log that a report goes over

module _ (main : Block) (r : PlainReport) where
  abbrev texts_in_run : ℕ → List (List ℕ)
  texts_in_run m = map (text_of_log r.plan) (logs_in main r m)

  abbrev after_start : List (List ℕ)
  after_start = flat_map texts_in_run (range_with_len (r.start + 1) (r.end - r.start))

  -- where it took a step, what it passed logs nothing
  last_alone : WentOn main r → r.start < r.end → after_start ≡ texts_in_run r.end
  last_alone went moved =
      let n : ℕ = r.end - r.start - 1 in
      let count : r.end - r.start ≡ n + 1 = omega (arith, moved) in
      let last : r.start + 1 + n ≡ r.end = omega (arith, moved) in
      ap (λ k. flat_map texts_in_run (range_with_len (r.start + 1) k)) count ∙ ap (flat_map texts_in_run) (ranges_join
      (r.start + 1) n 1) ∙ flat_map-append texts_in_run (range_with_len (r.start + 1) n) (range_with_len (r.start + 1 +
      n) 1) ∙ ap (λ l. l ++ flat_map texts_in_run (range_with_len (r.start + 1 + n) 1)) (none_between texts_in_run
      (r.start + 1) n (λ m above below. ap (map (text_of_log r.plan)) (went.passed m (omega (arith, above))
      (omega (arith, below, last))).silent)) ∙ append-nil _ ∙ ap texts_in_run last

  nothing_after : r.end ≡ r.start → after_start ≡ []
  nothing_after stays = grind (arith, common_steps, flat_map, range_with_len) steps 200000

  by_outcome : WentOn main r → (e : SliceOutcome) → EndsBy main r e
      → after_start ≡ map (text_of_log r.plan) (logs_told main r e)
  by_outcome went slice.More (takes_all spent undue runs) = grind (arith, common_steps, last_alone) steps 200000
  by_outcome went (slice.Due reason) (is_due moved due runs) = last_alone went moved
  by_outcome went slice.Held (is_held stays runs) = nothing_after stays
  by_outcome went slice.Done (is_over moved over) = cc (last_alone went moved, over_unlogged main _ _ _ 0 over)
  by_outcome went (slice.Fault fault) (faults early passed fails runs) =
      grind (arith, common_steps, cases_lt, nothing_after, last_alone, map) steps 200000
  by_outcome went slice.NoMemory (lacks_memory stays runs) = nothing_after stays

  -- The positions that a report goes over log what it tells.
  pub logs_between : WentOn main r → after_start ≡ told_texts r
  logs_between went = by_outcome went r.outcome went.outcome ∙ ap (map (text_of_log r.plan)) (sym went.logs)

-- ---- what the runs log, with one more step

-- the runs that were ordered before a step log the same after one that reports of none of them
abbrev pub SameEnds : History → Step → List Heading → Type 0
SameEnds past step [] = Unit {0}
SameEnds past step (run ∷ rs) = (run_end (past ++ step ∷ []) run ≡ run_end past run) × SameEnds past step rs

pub same_texts : (l : Launched) (past : History) (step : Step) (rs : List Heading) → SameEnds past step rs
    → flat_map (run_texts l (past ++ step ∷ [])) rs ≡ flat_map (run_texts l past) rs
same_texts l past step [] same = refl
same_texts l past step (run ∷ rs) same = cc (same.0, same_texts l past step rs same.1)

-- a step that reports of no run
pub aside_same : (past : History) (step : Step) → ((n : ℕ) → end_in n step.item ≡ None) → (rs : List Heading)
    → SameEnds past step rs
aside_same past step none [] = tt
aside_same past step none (run ∷ rs) = (cc (run_end-snoc past step run, none run.run), aside_same past step none rs)

-- a report of a later run
later_same : (past : History) (step : Step) (r : PlainReport) → step.item ≡ Accepted r → (rs : List Heading)
    → AreBelow r.run rs → SameEnds past step rs
later_same past step r is [] below = tt
later_same past step r is (run ∷ rs) below =
    grind (arith, common_steps, run_end-snoc, if_other, later_same past step r is rs below.1) steps 200000

-- a run that begins has logged nothing
none_yet : (l : Launched) (past : History) (run : Heading) → run_end past run ≡ run.start → run_texts l past run ≡ []
none_yet l past run begins = grind (arith, common_steps, flat_map, range_with_len) steps 200000

module _ (Q : Incoming → Type 0) (past : History) (step : Step) (taken : IsTaken Q past step.item)
    (causes : Causes past step.item step) (counted : Counted past) (l : Launched) where
  abbrev new : History
  new = past ++ step ∷ []

  next_texts : (next : List Heading) → NextRuns past next → flat_map (run_texts l new) next ≡ []
  next_texts [] no_runs = refl
  next_texts (run ∷ (other ∷ rest)) next = elim next [ ]
  next_texts (run ∷ []) (next_run run' number) =
      ap (λ ts. ts ++ []) (none_yet l new run (new_run_end Q past step taken causes counted run number))

  -- what the runs log then is what those before the step do
  pub runs_texts : flat_map (run_texts l new) (all_runs new) ≡ flat_map (run_texts l new) (all_runs past)
  runs_texts =
      let next = filter_map go step.effect.orders in
      ap (flat_map (run_texts l new)) (all_runs-snoc past step)
      ∙ flat_map-append (run_texts l new) (all_runs past) next
      ∙ ap (λ ts. flat_map (run_texts l new) (all_runs past) ++ ts)
      (next_texts next (next_runs past step.item step causes))
      ∙ append-nil (flat_map (run_texts l new) (all_runs past))

-- ---- a report

module _ (one : OneProgram) (joins : WrittenJoins) (said : LogsAreSaid) where
  module _ (past : History) (step : Step) (r : PlainReport) (item_is : step.item ≡ Accepted r)
      (accepts : Accepts past r) (lawful : IsLawfulReport r) (ran : Ran one joins past) (counted : Counted past)
      (l : Launched) (is : launched past ≡ Some l) where
    abbrev run : Heading
    run = accepts.run

    abbrev texts : ℕ → List (List ℕ)
    texts = texts_at l run.plan run.counted_from

    same_program : lawful.program ≡ l.program
    same_program = report_program one joins past r lawful l accepts (ran.so_far.progress (Some l) is)

    -- what positions log in the run is what they log for the report
    run_is : texts ≡ texts_in_run lawful.program r
    run_is = grind (arith, common_steps, same_program) steps 200000

    stood : run_end past run ≡ r.start
    stood = counted.stands run accepts.run_is ∙ sym (starts_here one joins past r accepts lawful ran l is)

    comes : run_end (past ++ step ∷ []) run ≡ r.end
    comes = cc (run_end-snoc past step run, if_same r.run run.run _ (ap (λ (h : Heading). h.run) accepts.expected))

    abbrev up_to : ℕ → List (List ℕ)
    up_to n = flat_map texts (range_with_len (run.start + 1) (n - run.start))

    going_on_adds_texts : WentOn lawful.program r → up_to r.end ≡ up_to r.start ++ told_texts r
    going_on_adds_texts went =
        let begun = begun_there one joins past r accepts lawful ran l is in
        let more = went.begun in
        let count : r.end - run.start ≡ (r.start - run.start) + (r.end - r.start) = omega (arith, begun, more) in
        let next : run.start + 1 + (r.start - run.start) ≡ r.start + 1 = omega (arith, begun) in
        ap (λ n. flat_map texts (range_with_len (run.start + 1) n)) count
        ∙ ap (flat_map texts) (ranges_join (run.start + 1) (r.start - run.start) (r.end - r.start))
        ∙ flat_map-append texts (range_with_len (run.start + 1) (r.start - run.start))
        (range_with_len (run.start + 1 + (r.start - run.start)) (r.end - r.start))
        ∙ ap (λ a. up_to r.start ++ flat_map texts (range_with_len a (r.end - r.start))) next
        ∙ ap (λ f. up_to r.start ++ flat_map f (range_with_len (r.start + 1) (r.end - r.start))) run_is
        ∙ ap (λ ts. up_to r.start ++ ts) (logs_between lawful.program r went)

    abbrev texts_by : Bool → ℕ → List (List ℕ)
    texts_by b n = flat_map texts (if b then [] else range_with_len (run.start + 1) (n - run.start))

    by_went : (b : Bool) → Went lawful.program r (back_if b) → texts_by b r.end ≡ texts_by b r.start ++ told_texts r
    by_went b went = grind (arith, common_steps, going_on_adds_texts) steps 200000

    -- the run has logged what the report tells
    run_more : run_texts l (past ++ step ∷ []) run ≡ run_texts l past run ++ told_texts r
    run_more = grind (arith, common_steps, comes, by_went, stood) steps 200000

    pub report_texts_more : flat_map (run_texts l (past ++ step ∷ [])) (all_runs past) ≡ flat_map (run_texts l past)
        (all_runs past) ++ told_texts r
    report_texts_more =
        let last = last_of_all past run counted accepts.run_is in
        let number = accepted_number past r counted accepts in
        let below = before_last 1 last.front run (subst (AreNumbered 1) last.runs_are counted.numbered) in
        let same_number : run.run ≡ r.run = last.number_is ∙ sym number in
        let before = same_texts l past step last.front (later_same past step r item_is last.front (subst (λ n. AreBelow
        n last.front) same_number below)) in
        grind (arith, common_steps, flat_map, flat_map-append, run_more, append-nil, append_assoc) steps 200000
