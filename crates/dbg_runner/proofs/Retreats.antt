-- The reports of a run that goes back.
use Rattle.dbg_runner.proofs.Common.{[], ap, arith, Carries, counts_from, Debugged, goal_of, GoesBackBy, has_come, has_no_memory, is_spent, IsAt, IsKept, IsOn, IsReport, IsRetreat, None, Option, plain_report, debugged_program, Reason, refl, Reported, reported_with, retreating_of, Returns, Searches, slice_limit, SliceOutcome, Some, stopped, subst, summary_back, sym, ℕ, ◌*◌, ◌+◌, ◌∙◌, ◌≡◌, ◌≤◌, back_if, direction}
use Rattle.dbg_runner.specs.declared.outcome.SliceOutcome.TheVariants as out
use Rattle.dbg_runner.specs.declared.report.Summary.{Summary}
use Rattle.dbg_runner.specs.declared.report.Subject.{Subject}
use Rattle.dbg_runner.specs.declared.report.Subject.TheVariants.{Carried}
use Rattle.dbg_runner.specs.ReportFields.{unit_in, plan_in, debuggee_in}
use Rattle.dbg_runner.specs.declared.retreat.Way.{Way}
use Rattle.dbg_runner.specs.declared.retreat.Retreat.TheInside.{Inside}
use Rattle.std.proofs.lemmas.Grind.{common_steps}

few_by : (n : ℕ) (d : Debugged) (again : ℕ) (w : Way) → IsOn n d again w → again ≤ 2 * n
few_by n d again (Searches found) on = let before = on.1 in omega (arith, on.2)
few_by n d again (Returns to why) on = let before = on.0 in omega (arith, on.2)

before_by : (n : ℕ) (d : Debugged) (again : ℕ) (w : Way) → IsOn n d again w → d.position ≤ n
before_by n d again (Searches found) on = omega (arith, on.1)
before_by n d again (Returns to why) on = let within = on.1 in omega (arith, on.0)

module _ (r : Inside) (inv : IsRetreat r) where
  few_in : (w : Option Way) → IsAt r.mode r.start r.debuggee.value r.steps_rerun w → r.steps_rerun ≤ 2 * r.start
  few_in None at = omega (arith, at.1)
  few_in (Some w) at = few_by r.start r.debuggee.value r.steps_rerun w at.0

  -- no more steps are run again than that
  pub few : r.steps_rerun ≤ 2 * r.start
  few = few_in r.way inv.at

  before_in : (w : Option Way) → IsAt r.mode r.start r.debuggee.value r.steps_rerun w
      → r.debuggee.value.position ≤ r.start
  before_in None at = omega (arith, at.0)
  before_in (Some w) at = before_by r.start r.debuggee.value r.steps_rerun w at.0

  pub stands_before : r.debuggee.value.position ≤ r.start
  stands_before = before_in r.way inv.at

  module _ (run end : ℕ) where
    abbrev of : SliceOutcome → Summary
    of outcome = summary_back run (retreating_of r) end outcome

    abbrev report_with : SliceOutcome → Option Debugged → Reported
    report_with outcome d = record (reported_with (of outcome) [] [] (Carried r.debuggee)) { debuggee = d }

    kept : (outcome : SliceOutcome) (d : Option Debugged) → GoesBackBy (debugged_program r.debuggee.value)
        (plain_report (report_with outcome d)) outcome → IsKept (report_with outcome d)
    kept outcome d by = grind (arith, common_steps, few)

    -- there was no memory for a slice
    pub gives_up : end ≡ r.start → IsReport (reported_with (of out.NoMemory) [] [] (Carried r.debuggee))
    gives_up stays = record {
      lawful = kept out.NoMemory (Some r.debuggee.value) (has_no_memory stays);
      carries =
          subst (λ b. Carries (back_if b) (report_with out.NoMemory (Some r.debuggee.value)) out.NoMemory)
          (sym inv.goes_back) (
            r.debuggee.value,
            refl,
            record {
              unit = refl;
              breakpoints = refl;
              before = stands_before;
              considered = inv.considered;
            },
          );
    }

    -- it goes on
    pub goes_on : (shared : Subject) → unit_in shared ≡ r.debuggee.value.unit
        → plan_in shared ≡ r.debuggee.value.breakpoints → debuggee_in shared ≡ None → end ≡ r.start
        → slice_limit ≤ r.steps_rerun → IsReport (reported_with (of out.More) [] [] shared)
    goes_on shared unit plan none stays all =
        subst IsReport
        (λ i. record (report_with out.More None) { unit = sym unit i; plan = sym plan i; debuggee = sym none i })
        (record {
          lawful = kept out.More None (is_spent stays all);
          carries = subst (λ b. Carries (back_if b) (report_with out.More None) out.More) (sym inv.goes_back) refl;
        })

    -- it has come to where it stops
    module _ (why : Reason) (d : Debugged)
        (d_is : d ≡ record r.debuggee.value { counted_from = r.debuggee.value.next })
        (there : end ≡ r.debuggee.value.position)
        (come : goal_of (debugged_program r.debuggee.value) r.debuggee.value.breakpoints r.mode r.start ≡ Some
        (record { position = r.debuggee.value.position; reason = why })) where
      here : goal_of (debugged_program r.debuggee.value) r.debuggee.value.breakpoints r.mode r.start ≡ Some
          (record { position = end; reason = why })
      here = come ∙ ap (λ n. Some (record { position = n; reason = why })) (sym there)

      next_is : r.debuggee.value.next ≡ end + 1
      next_is = inv.considered.behind ∙ ap (λ n. n + 1) (sym there)

      abbrev report : Reported
      report = report_with (out.Due why) (Some d)

      -- its plan counts from the next position
      counts : r.debuggee.value.next ≡ counts_from (direction r.mode) report
      counts = next_is ∙ ap (λ b. counts_from (back_if b) report) (sym inv.goes_back)

      stands : d ≡ stopped report d.trail
      stands =
          d_is
          ∙ (λ i. record {
            unit = r.debuggee.value.unit;
            position = sym there i;
            breakpoints = r.debuggee.value.breakpoints;
            counted_from = counts i;
            next = next_is i;
            trail = ap (λ (d : Debugged). d.trail) (sym d_is) i;
          })

      pub arrives : IsReport (record report { unit = d.unit; plan = d.breakpoints })
      arrives =
          subst IsReport (λ i. record report { unit = (sym d_is i).unit; plan = (sym d_is i).breakpoints }) (record {
            lawful = kept (out.Due why) (Some d) (has_come here);
            carries = grind (arith, common_steps, stands);
          })
