use Rattle.std.proofs.Common.{◌++◌, ◌∷◌, [], subst, sym, refl, ap, ◌∙◌}
use Rattle.dbg_runner.specs.Reported.{plain_report}
use Rattle.dap_history.specs.Replies.{stopped_events}
use Rattle.dap_history.specs.Reports.{stopped_effect}
use Rattle.dap_replies.specs.Phases.{IsPhase}
use Rattle.dap_replies.specs.Replied.{report_step}
use Rattle.dap_replies.specs.Reporting.{with_told, standing}
use Rattle.dap_replies.proofs.ReportSteps.{outputs_as, report_stands}
use Rattle.dap_replies.proofs.reporting.stand.Goals as goal

pub returns : goal.returns
returns c = λ past is.
    let r = plain_report c.args.report in
    record {
      does = record {
        events_are =
            c.new.ensures
            ∙ c.in_ok-push.ensures.items
            ∙ ap (λ es. es ++ stopped_events c.args.reason)
            (c.in_ok-events.ensures.are ∙ outputs_as c.args.target c.args.run.unit c.args.report past is.keeps.0);
        orders_are = refl;
      };
      phase_is =
          subst (λ p. IsPhase p (past ++ report_step r (stopped_effect past r (stopped_events c.args.reason)) ∷ []))
          (sym (c.standing.ensures
          ∙ ap (λ t. standing t c.take_back-debuggee.result c.args.reason) c.tell-target.ensures
          ∙ ap (λ d. standing (with_told c.args.target c.args.report) d c.args.reason) c.take_back-debuggee.ensures))
          (report_stands c.reading_laws.ensures c.args.target c.args.run c.args.report c.args.reason past
          c.requires.goes_on is);
    }
