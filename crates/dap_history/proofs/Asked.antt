-- Each run has the next number, and is in the mode that was asked for.
use Rattle.dap_history.proofs.Common.{Accepted, Accepts, Breakpoint, Causes, Command, Content, Heading, History, Incoming, Item, Launched, None, Option, PlainOrder, PlainReport, Reaction, Reason, Reply, ResumeKind, RetreatKind, Situation, SliceOutcome, Some, Step, ThreadArguments, WrittenJoins, [], all_runs, ap, append-nil, arith, depth_at, effect_in, enters, filter_map, filter_map-append, go, held_mode, hold_once, last_run, last_such, launched, length, mode_asked, mode_by, mode_of, reply_of, report_effect, retreat_mode, run_in, runs, subst, sym, ℕ, ◌++◌, ◌+◌, ◌∙◌, ◌∷◌, ◌≡◌}
use Rattle.std.proofs.Common.{List, true, false}
use Rattle.dap_msg.specs.declared.command.Command.TheVariants as command
use Rattle.dbg_plan.specs.declared.mode.Mode.TheVariants as mode
use Rattle.dbg_runner.specs.declared.outcome.SliceOutcome.TheVariants as slice
use Rattle.dap_history.specs.Readings.{is_held, position}
use Rattle.dap_history.specs.Runs.{RunsCountFromOne, EachRunIsAsAsked}
use Rattle.dap_history.proofs.Texts.{OneProgram}
use Rattle.dap_history.proofs.Along.{IsTaken, IsKept, IsLawfulEvent, any_events, lawful_events, along}
use Rattle.dap_history.proofs.Each.{WasTaken, EachTaken, each_kept, each_first}
use Rattle.dap_history.proofs.Silent.{NextRuns, no_runs, next_run}
use Rattle.dap_history.proofs.Reacted.{Reacted, by_setting, by_starting, by_resuming, by_retreating, by_interrupting, by_reaction}
use Rattle.dap_history.proofs.Passing.{Ran, loaded_orders}
use Rattle.dap_history.proofs.Runs.{AreNumbered, numbered-snoc}
use Rattle.dap_history.proofs.Counted.{all_runs-snoc, next_runs}
use Rattle.dap_history.proofs.Stopping.{ran_kept, ran_first}
use Rattle.dap_history.proofs.Starts.{of_launched}
use Rattle.dap_history.proofs.Once.{ordered_last}
use Rattle.std.proofs.lemmas.Grind.{common_steps}

-- ---- numbers

abbrev AreInOrder : History → Type 0
AreInOrder past = AreNumbered 1 (all_runs past)

numbered_more : (past : History) (more : List Heading) → AreInOrder past → NextRuns past more
    → AreNumbered 1 (all_runs past ++ more)
numbered_more past [] here no_runs = subst (AreNumbered 1) (sym (append-nil (all_runs past))) here
numbered_more past (run ∷ rest) here (next_run run' is) = numbered-snoc 1 (all_runs past) run here (omega (arith, is))

in_order_kept : (Q : Incoming → Type 0) → IsKept Q AreInOrder
in_order_kept Q = grind (arith, common_steps, all_runs-snoc, numbered_more, filter_map, go, next_runs) steps 1500000

number_at : (n : ℕ) (front : List Heading) (run : Heading) (back : List Heading) → AreNumbered n (front ++ run ∷ back)
    → run.run ≡ n + length front
number_at n [] run back are = omega (arith, are.0)
number_at n (r ∷ front) run back are = let h = number_at (n + 1) front run back are.1 in omega (arith, h)

pub runs_count : RunsCountFromOne
runs_count f events past rest history front back run orders_are =
    let parts : all_runs past ≡ filter_map go front ++ run ∷ filter_map go back = ap (filter_map go) orders_are ∙
    filter_map-append go front _ in
    let here = along (λ e. Unit {0}) AreInOrder (in_order_kept (λ e. Unit {0})) tt f events past rest (any_events
    events) history in
    let number = number_at 1 (filter_map go front) run (filter_map go back) (subst (AreNumbered 1) parts here) in
    omega (arith, number)

-- ---- modes

resume_kind_mode : (depth : ℕ) (kind : ResumeKind) (a : ThreadArguments)
    → mode_by depth (command.Resume kind a) ≡ Some (mode_of kind depth)
resume_kind_mode depth kind a = grind (arith, common_steps) steps 200000

back_mode : (depth : ℕ) (kind : RetreatKind) (a : ThreadArguments)
    → mode_by depth (command.Retreat kind a) ≡ Some (retreat_mode kind)
back_mode depth kind a = grind (arith, common_steps) steps 200000

-- the run is of the launched program, in the mode that the command asks for
abbrev pub AsAsked : History → Command → Heading → Type 0
AsAsked past asked run =
    (l : Launched) × (launched past ≡ Some l) × (mode_by (depth_at l.program (position past)) asked ≡ Some run.mode)

pub no_go_held : (past : History) → last_such go (hold_once past) ≡ None
no_go_held past = grind (arith, common_steps, is_held, go, runs, true, false) steps 1500000

pub no_go_in : (s : Situation) (past : History) (bs : List Breakpoint)
    → last_such go (effect_in s past bs).orders ≡ None
no_go_in s past bs = grind (arith, common_steps, no_go_held) steps 200000

no_go_by : (past : History) (asked : Command) (run : Heading) (orders : List PlainOrder)
    → last_such go orders ≡ None → last_such go orders ≡ Some run → AsAsked past asked run
no_go_by past asked run orders none some = let e = sym some ∙ none in absurd cc

begun_mode : (past : History) (l : Launched) (why : Option Reason) (run : Heading)
    → last_such go (enters past l why).orders ≡ Some run → run.mode ≡ mode.Continue
begun_mode past l why run is = grind (arith, common_steps) steps 200000

pub reaction_mode : (past : History) {s : Situation} {asked : Command} {reaction : Reaction}
    → Reacted past s asked reaction → (run : Heading)
    → last_such go (reply_of past reaction).effect.orders ≡ Some run → AsAsked past asked run
reaction_mode past (by_setting s a l found bs there path_is resolved) run goes =
    grind (arith, common_steps, no_go_by, no_go_in) steps 1500000
reaction_mode past (by_starting l there) run goes = grind (arith, common_steps, begun_mode) steps 1500000
reaction_mode past (by_resuming kind a l there) run goes =
    grind (arith, common_steps, position, resume_kind_mode) steps 1500000
reaction_mode past (by_retreating s kind a l stands there) run goes =
    grind (arith, common_steps, back_mode, position) steps 1500000
reaction_mode past (by_interrupting a) run goes = grind (arith, common_steps, no_go_by, no_go_held) steps 1500000
reaction_mode past _ run goes = absurd cc

-- a run that a report orders is in the mode of the run that was held
report_mode : (past : History) (r : PlainReport) (e : SliceOutcome) → Accepts past r → (run : Heading)
    → last_such go (report_effect past r e).orders ≡ Some run → held_mode e (last_run past) ≡ Some run.mode
report_mode past r slice.Held accepts run goes = grind (arith, common_steps, go, true, false) steps 1500000
report_mode past r _ accepts run goes = absurd cc

module _ (one : OneProgram) (joins : WrittenJoins) where
  -- the run is of the launched program, in the mode that the item asks for
  abbrev pub ModeIs : History → Item → Heading → Type 0
  ModeIs past item run = (l : Launched) × (launched past ≡ Some l) × (mode_asked past l.program item ≡ Some run.mode)

  pub item_mode : (past : History) (item : Item) (step : Step) → IsTaken IsLawfulEvent past item → Causes past item step
      → Ran one joins past → (run : Heading) → run_in step ≡ Some run → ModeIs past item run
  item_mode past (Content (Some request)) step taken is ran run goes =
      by_reaction (λ (r : Reply). last_such go r.effect.orders ≡ Some run → AsAsked past request.body run) (λ reaction
      reacted goes. reaction_mode past reacted run goes) is.1 (cc is.2.effect_is)
  item_mode past (Accepted r) step taken is ran run goes =
      let there = of_launched one joins past (Accepted r) step taken is ran run goes in
      (there.0, there.1, report_mode past r r.outcome taken.0 run (cc is.effect_is))
  item_mode past item step taken is ran run goes = grind (arith, common_steps, go, loaded_orders) steps 200000

  pub each_as_asked : EachRunIsAsAsked
  each_as_asked f events past rest lawful history before step after past_is run orders =
      item_mode before step.item step was.taken was.causes was.held run (ordered_last before step run was.causes orders)
    where
      each : EachTaken IsLawfulEvent (Ran one joins) past
      each =
          along IsLawfulEvent _ (each_kept IsLawfulEvent _ (ran_kept one joins)) (each_first IsLawfulEvent _ (ran_first
          one joins)) f events past rest (lawful_events events lawful) history

      was : WasTaken IsLawfulEvent (Ran one joins) before step
      was = each.each before step after past_is
