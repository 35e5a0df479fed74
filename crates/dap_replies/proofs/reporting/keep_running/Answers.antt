use Rattle.std.proofs.Common.{◌++◌, ◌∷◌, [], subst, sym, refl, ap, ◌∙◌}
use Rattle.dbg_runner.specs.Reported.{plain_report}
use Rattle.dap_history.specs.Replies.{only_events}
use Rattle.dap_history.specs.Reports.{outputs}
use Rattle.dap_replies.specs.declared.phase.Phase.TheVariants as phase
use Rattle.dap_replies.specs.Phases.{IsPhase}
use Rattle.dap_replies.specs.Replied.{report_step}
use Rattle.dap_replies.specs.Reporting.{with_told}
use Rattle.dap_replies.proofs.Fresh.{quiet_outputs}
use Rattle.dap_replies.proofs.ReportSteps.{outputs_as, report_goes_on}
use Rattle.dap_replies.proofs.reporting.keep_running.Goals as goal

pub returns-clause-follows : goal.returns-clause-follows
returns-clause-follows c = λ past is.
    let r = plain_report c.args.report.now in record {
      does = record {
        events_are =
            c.new.ensures ∙ c.in_ok-events.ensures.are ∙ outputs_as c.args.target c.args.run.unit c.args.report.now past
            is.keeps.0;
        orders_are = refl;
      };
      phase_is =
          subst (λ p. IsPhase p (past ++ report_step r (only_events (outputs past r)) ∷ []))
          (sym (ap (λ t. phase.Running t c.go_on_from.new.self) c.tell-target.ensures
          ∙ ap (phase.Running (with_told c.args.target c.args.report.now))
          (c.go_on_from.ensures ∙ ap (λ n. record c.args.run { position = n })
          (ap (λ s. s.end) c.summary.ensures.is))))
          (report_goes_on c.reading_laws.ensures c.args.target c.args.run c.args.report.now past is);
    }

pub returns-clause-enough : goal.returns-clause-enough
returns-clause-enough c = λ quiet.
    c.new.ensures ∙ c.in_ok-events.ensures.are ∙ quiet_outputs c.args.target.told c.args.report.now quiet
