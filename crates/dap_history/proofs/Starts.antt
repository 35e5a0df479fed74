-- Each run is of the launched text, and starts where the program stands.
use Rattle.dap_history.proofs.Common.{Accepted, Accepts, Causes, Content, Effect, Heading, History, Item, Launched, None, Option, PlainReport, Some, Step, WrittenJoins, ap, end_of, go, last_such, launched, plan, refl, report_effect, run_in, situation, sym, unwrap_or, ℕ, ◌∙◌, ◌≡◌}
use Rattle.std.proofs.Common.{List}
use Rattle.dap_history.specs.Readings.{position}
use Rattle.dap_history.specs.Stops.{EachRunStartsThere}
use Rattle.dap_history.proofs.Readings.{position-snoc, plan-snoc}
use Rattle.dap_history.proofs.Along.{IsTaken, IsLawfulEvent, lawful_events, along}
use Rattle.dap_history.proofs.Each.{WasTaken, EachTaken, each_kept, each_first}
use Rattle.dap_history.proofs.Silent.{GoesBy, no_go, of_text, all_silent}
use Rattle.dap_history.proofs.Outputs.{GoesAs, no_run, as_text, report_goes}
use Rattle.dap_history.proofs.Progress.{report_text}
use Rattle.dap_history.proofs.Passing.{BeginsAt, none_begins, begins_at, item_begins, loaded_orders, Ran}
use Rattle.dap_history.proofs.Stopping.{ran_kept, ran_first}
use Rattle.dap_history.proofs.Texts.{OneProgram}
use Rattle.dap_history.proofs.Once.{ordered_last}
use Rattle.dap_history.proofs.Ordering.{item_ordered, ordered_under}
use Rattle.std.proofs.Common.{arith}
use Rattle.std.proofs.lemmas.Grind.{common_steps}

-- the run is of the launched text
abbrev pub OfLaunched : History → Heading → Type 0
OfLaunched past run = (l : Launched) × (launched past ≡ Some l) × (run.text ≡ l.text)

by_reply : (past : History) (o : Option Heading) → GoesBy past o → (run : Heading) → o ≡ Some run → OfLaunched past run
by_reply past None no_go run is = absurd cc
by_reply past (Some other) (of_text run' l launch text begins) run is = grind (arith, common_steps) steps 1500000

as_report : (text : List ℕ) (end : ℕ) (o : Option Heading) → GoesAs text end o → (run : Heading) → o ≡ Some run
    → run.text ≡ text
as_report text end None no_run run is = absurd cc
as_report text end (Some other) (as_text run' is_text begins) run is = grind (arith, common_steps) steps 1500000

starts_at : (here : ℕ) (o : Option Heading) → BeginsAt here o → (run : Heading) → o ≡ Some run → run.start ≡ here
starts_at here None none_begins run is = absurd cc
starts_at here (Some other) (begins_at run' begins) run is = grind (arith, common_steps) steps 1500000

run_of_effect : (step : Step) (effect : Effect) → step.effect ≡ effect → run_in step ≡ last_such go effect.orders
run_of_effect step effect is = ap (λ (e : Effect). last_such go e.orders) is

module _ (one : OneProgram) (joins : WrittenJoins) where
  of_report : (past : History) (r : PlainReport) → Accepts past r → Ran one joins past → (run : Heading)
      → run.text ≡ r.text → (l : Option Launched) → launched past ≡ l → OfLaunched past run
  of_report past r accepts ran run text None is =
      absurd (let e = sym (ran.so_far.progress None is).1 ∙ accepts.run_is in cc)
  of_report past r accepts ran run text (Some l) is =
      (l, is, text ∙ report_text one joins past r l accepts (ran.so_far.progress (Some l) is))

  pub of_launched : (past : History) (item : Item) (step : Step) → IsTaken IsLawfulEvent past item
      → Causes past item step → Ran one joins past → (run : Heading) → run_in step ≡ Some run → OfLaunched past run
  of_launched past (Content (Some request)) step taken is ran run run_is =
      by_reply past (last_such go is.0.effect.orders) (all_silent (situation past) past request.body is.0 is.1).goes run
      (sym (run_of_effect step _ is.2.effect_is) ∙ run_is)
  of_launched past (Accepted r) step taken is ran run run_is =
      of_report past r taken.0 ran run (as_report r.text r.end (last_such go (report_effect past r r.outcome).orders)
      (report_goes past r r.outcome) run (sym (run_of_effect step _ is.effect_is) ∙ run_is)) _ refl
  of_launched past item step taken is ran run run_is =
      grind (arith, common_steps, loaded_orders, run_of_effect) steps 200000

  pub each_run_starts : EachRunStartsThere
  each_run_starts f events past rest lawful history before step after past_is run orders =
      let there = of_launched before step.item step was.taken was.causes was.held run run_is in (
        there.0,
        there.1,
        there.2,
        cc (
          starts_at (unwrap_or (end_of step.item) (position before)) (run_in step)
              (item_begins before step.item step was.causes) run run_is,
          position-snoc before step,
        ),
        cc (under.0, plan-snoc before step),
        cc (under.1, plan-snoc before step),
      )
    where
      each : EachTaken IsLawfulEvent (Ran one joins) past
      each =
          along IsLawfulEvent _ (each_kept IsLawfulEvent _ (ran_kept one joins)) (each_first IsLawfulEvent _ (ran_first
          one joins)) f events past rest (lawful_events events lawful) history

      was : WasTaken IsLawfulEvent (Ran one joins) before step
      was = each.each before step after past_is

      run_is : run_in step ≡ Some run
      run_is = ordered_last before step run was.causes orders

      under : (run.plan ≡ (unwrap_or step.effect.put_in (plan before)).breakpoints)
          × (run.counted_from ≡ (unwrap_or step.effect.put_in (plan before)).counted_from)
      under = ordered_under before _ _ _ (item_ordered before _ step was.taken was.causes) run run_is
