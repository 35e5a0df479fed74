use Rattle.std.proofs.Common.{◌≡◌, ◌+◌, ◌++◌, ◌∷◌, [], subst, sym, ap, ◌∙◌, arith}
use Rattle.dbg_runner.specs.Plain.{Go}
use Rattle.dbg_runner.specs.Reported.{plain_report, heading}
use Rattle.dap_history.specs.Reports.{continued_effect}
use Rattle.dap_replies.specs.declared.phase.Phase.TheVariants as phase
use Rattle.dap_replies.specs.declared.phase.Target.{Target}
use Rattle.dap_replies.specs.Phases.{IsPhase}
use Rattle.dap_replies.specs.Runs.{begun_run}
use Rattle.dap_replies.specs.Replied.{report_step}
use Rattle.dap_replies.specs.Reporting.{with_told}
use Rattle.dap_replies.proofs.Begun.{with_next_run}
use Rattle.dap_replies.proofs.ReportSteps.{back, outputs_as, report_begins_again, back_heading}
use Rattle.dap_replies.proofs.reporting.begin_again.Goals as goal

pub returns : goal.returns
returns c = λ past is.
    let t = c.args.target in
    let r = plain_report c.args.report in
    let debuggee = back c.args.run c.args.report in
    let number : c.in_ok-number.number ≡ t.runs + 1 =
    grind (arith, c.in_ok-number.ensures.ok_part, c.checked_add.ensures) in
    let ordered : heading c.in_ok-number.number c.take_back-debuggee.result c.mode-mode.result
    ≡ heading (t.runs + 1) debuggee c.args.run.mode =
    rw (number, c.take_back-debuggee.ensures, c.mode-mode.ensures) in
    let begins : c.in_ok-run.run' ≡ begun_run debuggee c.args.run.mode =
    rw (c.in_ok-run.ensures.run, c.take_back-debuggee.ensures, c.mode-mode.ensures) in
    record {
      does = record {
        events_are =
            c.new.ensures ∙ c.in_ok-events.ensures.are ∙ outputs_as t c.args.run.unit c.args.report past is.keeps.0;
        orders_are =
            ap (λ o. o ∷ []) (c.in_ok-run.ensures.order ∙ ap Go
            (ordered ∙ back_heading t c.args.run c.args.report past c.requires.goes_on is));
      };
      phase_is =
          subst (λ p. IsPhase p (past ++ report_step r (continued_effect past r) ∷ []))
          (sym (ap (λ (u : Target). phase.Running (record u { runs = c.in_ok-number.number }) c.in_ok-run.run')
          c.tell-target.ensures
          ∙ ap (λ n. phase.Running (record t { runs = n; told = (with_told t c.args.report).told }) c.in_ok-run.run')
          number
          ∙ ap (phase.Running (with_next_run t (with_told t c.args.report).told)) begins))
          (report_begins_again c.reading_laws.ensures t c.args.run c.args.report past c.requires.goes_on is);
    }
