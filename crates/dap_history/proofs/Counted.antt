-- Runs are numbered in order, and the last one has come to where the program stands.
use Rattle.dap_history.proofs.Common.{Accepted, Accepts, Causes, Content, Effect, Heading, History, Incoming, Item, None, Option, PlainOrder, PlainReport, Some, Step, [], all_runs, ap, append-nil, arith, end_in, end_of, filter_map, filter_map-append, go, if◌then◌else◌, last_run, last_such, length-append, orders_of, refl, run_end, runs, situation, subst, sym, unwrap_or, ℕ, ◌++◌, ◌+◌, ◌<◌, ◌∙◌, ◌∷◌, ◌≡◌, ◌≢◌, or_else}
use Rattle.std.proofs.Common.{nat_eq, List}
use Rattle.std.proofs.lemmas.Bool.{ne_eqb}
use Rattle.std.proofs.lemmas.Bool.Decides.{eqb_tells}
use Rattle.dap_history.specs.Readings.{position}
use Rattle.dap_history.proofs.Readings.{reading-snoc, orders_of-snoc, last_such-snoc, last_run-snoc, position-snoc}
use Rattle.dap_history.proofs.Along.{IsTaken}
use Rattle.dap_history.proofs.Silent.{NextRuns, no_runs, next_run, all_silent}
use Rattle.dap_history.proofs.Outputs.{report_runs}
use Rattle.dap_history.proofs.Passing.{BeginsAt, begins_at, item_begins, loaded_orders}
use Rattle.dap_history.proofs.Runs.{none_such, last_front, AreNumbered, numbered-snoc, last_number}
use Rattle.std.proofs.lemmas.Grind.{common_steps}

-- ---- with one more step

pub all_runs-snoc : (past : History) (step : Step) → all_runs (past ++ step ∷ []) ≡ all_runs past
    ++ filter_map go step.effect.orders
all_runs-snoc past step = cc (orders_of-snoc past step, filter_map-append go (orders_of past) step.effect.orders)

pub run_end-snoc : (past : History) (step : Step) (run : Heading)
    → run_end (past ++ step ∷ []) run ≡ unwrap_or (end_in run.run step.item) (run_end past run)
run_end-snoc past step run = reading-snoc (λ (s : Step). end_in run.run s.item) past step run.start

abbrev NextRunsOf : History → Effect → Type 0
NextRunsOf past effect = NextRuns past (filter_map go effect.orders)

pub next_runs : (past : History) (item : Item) (step : Step) → Causes past item step
    → NextRuns past (filter_map go step.effect.orders)
next_runs past (Content (Some request)) step is =
    subst (NextRunsOf past) (sym is.2.effect_is) (all_silent (situation past) past request.body is.0 is.1).runs_are
next_runs past item step is =
    grind (arith, common_steps, no_runs, none_such, go, loaded_orders, report_runs) steps 200000

-- ---- what is kept

pub record Counted (past : History) : Type 0 where
  pub numbered : AreNumbered 1 (all_runs past)
  -- no report of a later run was accepted
  pub unreported : (n : ℕ) → runs past < n → last_such (λ (s : Step). end_in n s.item) past ≡ None
  pub stands : (run : Heading) → last_run past ≡ Some run → run_end past run ≡ position past

-- the last run, after all others
pub record IsLastRun (past : History) (run : Heading) : Type 0 where
  pub front : List Heading
  pub runs_are : all_runs past ≡ front ++ run ∷ []
  pub number_is : run.run ≡ runs past

pub last_of_all : (past : History) (run : Heading) → Counted past → last_run past ≡ Some run → IsLastRun past run
last_of_all past run counted is = grind (arith, common_steps, last_front, go, last_number, length-append) steps 200000

pub accepted_number : (past : History) (r : PlainReport) → Counted past → Accepts past r → r.run ≡ runs past
accepted_number past r counted accepts = cc (accepts.expected, (last_of_all past _ counted accepts.run_is).number_is)

pub if_other : (a b : ℕ) (o : Option ℕ) → a ≢ b → (if nat_eq a b then o else None) ≡ None
if_other a b o other = ap (λ t. if t then o else None) (ne_eqb a b other)

pub if_same : (a b : ℕ) (o : Option ℕ) → a ≡ b → (if nat_eq a b then o else None) ≡ o
if_same a b o same = grind (arith, common_steps, eqb_tells) steps 200000

-- an item reports of no later run
other_run : (Q : Incoming → Type 0) (past : History) (item : Item) (n : ℕ) → Counted past → IsTaken Q past item
    → runs past < n → end_in n item ≡ None
other_run Q past (Accepted r) n counted taken later =
    if_other r.run n (Some r.end) (λ same. let number = accepted_number past r counted taken.0 in omega
    (arith, same, number, later))
other_run Q past _ n counted taken later = refl

-- of the last run an item reports where the program stands then
own_run : (Q : Incoming → Type 0) (past : History) (item : Item) (run : Heading) → IsTaken Q past item
    → last_run past ≡ Some run → (here : ℕ) → here ≡ position past
    → unwrap_or (end_in run.run item) here ≡ unwrap_or (end_of item) (position past)
own_run it past item run taken is here there = grind (arith, common_steps, if_same) steps 200000

-- ---- a run that a step orders is the next one

only_one : (past : History) (rs : List Heading) (front : List Heading) (run : Heading) → NextRuns past rs → rs ≡ front
    ++ run ∷ [] → run.run ≡ runs past + 1
only_one past [] [] run no_runs is = absurd cc
only_one past [] (x ∷ front) run no_runs is = absurd cc
only_one past (r ∷ (s ∷ rest)) front run next is = elim next [ ]
only_one past (r ∷ []) [] run (next_run r' number) is = grind (arith, common_steps) steps 200000
only_one past (r ∷ []) (x ∷ front) run (next_run r' number) is = grind (arith, common_steps) steps 200000

ordered_number : (past : History) (step : Step) (run : Heading) → Causes past step.item step
    → last_such go step.effect.orders ≡ Some run → run.run ≡ runs past + 1
ordered_number past step run causes is =
    let ends = last_front PlainOrder Heading go step.effect.orders run is in
    only_one past (filter_map go step.effect.orders) ends.0 run (next_runs past step.item step causes) ends.1

module _ (Q : Incoming → Type 0) (past : History) (step : Step) (taken : IsTaken Q past step.item)
    (causes : Causes past step.item step) (counted : Counted past) where
  -- a run that begins stands where it began
  pub new_run_end : (run : Heading) → run.run ≡ runs past + 1 → run_end (past ++ step ∷ []) run ≡ run.start
  new_run_end run number =
      run_end-snoc past step run
      ∙ ap (λ o. unwrap_or o (run_end past run))
      (other_run Q past step.item run.run counted taken (omega (arith, number)))
      ∙ ap (λ o. unwrap_or o run.start) (counted.unreported run.run (omega (arith, number)))

  numbered_more : (next : List Heading) → NextRuns past next → AreNumbered 1 (all_runs past ++ next)
  numbered_more [] no_runs = subst (AreNumbered 1) (sym (append-nil (all_runs past))) counted.numbered
  numbered_more (run ∷ (other ∷ rest)) next = elim next [ ]
  numbered_more (run ∷ []) (next_run run' number) = numbered-snoc 1 _ run counted.numbered (omega (arith, number))

  unreported_more : (n : ℕ) → runs (past ++ step ∷ []) < n → last_such (λ (s : Step). end_in n s.item)
      (past ++ step ∷ []) ≡ None
  unreported_more n later =
      grind (arith, common_steps, all_runs-snoc, length-append, filter_map, go, runs, last_such-snoc, other_run) steps
      200000

  starts_there : (run : Heading) → last_such go step.effect.orders ≡ Some run → run.start ≡ position (past ++ step ∷ [])
  starts_there run is =
      by_begin (subst (BeginsAt (unwrap_or (end_of step.item) (position past))) is
      (item_begins past step.item step causes)) ∙ sym (position-snoc past step)
    where
      by_begin : BeginsAt (unwrap_or (end_of step.item) (position past)) (Some run)
          → run.start ≡ unwrap_or (end_of step.item) (position past)
      by_begin (begins_at run' is) = is

  stands_more : (run : Heading) → last_run (past ++ step ∷ []) ≡ Some run
      → run_end (past ++ step ∷ []) run ≡ position (past ++ step ∷ [])
  stands_more run is = by_order (last_such go step.effect.orders) refl
    where
      by_order : (o : Option Heading) → last_such go step.effect.orders ≡ o
          → run_end (past ++ step ∷ []) run ≡ position (past ++ step ∷ [])
      by_order (Some other) there =
          let same : other ≡ run =
          let e = sym (ap (λ o. or_else o (last_run past)) there) ∙ sym (last_run-snoc past step) ∙ is in cc in
          let ordered = there ∙ ap Some same in
          new_run_end run (ordered_number past step run causes ordered) ∙ starts_there run ordered
      by_order None none = grind (arith, common_steps, last_run-snoc, run_end-snoc, own_run, position-snoc) steps 200000

  pub counted_more : Counted (past ++ step ∷ [])
  counted_more =
      record {
        numbered = rw (all_runs-snoc past step) (numbered_more _ (next_runs past step.item step causes));
        unreported = unreported_more;
        stands = stands_more;
      }

pub counted_first : Counted []
counted_first = record { numbered = tt; unreported = λ n later. refl; stands = λ run is. absurd cc }
