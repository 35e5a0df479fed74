use Rattle.std.proofs.Common.{◌++◌, ◌∷◌, [], subst, sym, refl, ap, ◌∙◌}
use Rattle.std.proofs.lemmas.List.{append_assoc}
use Rattle.dap_msg.specs.declared.outgoing.EventBody.TheVariants as event
use Rattle.dbg_runner.specs.Reported.{plain_report}
use Rattle.dap_history.specs.Replies.{exited_events, only_events}
use Rattle.dap_history.specs.Reports.{outputs}
use Rattle.dap_replies.specs.declared.phase.Phase.TheVariants as phase
use Rattle.dap_replies.specs.Phases.{IsTarget, IsPhase}
use Rattle.dap_replies.specs.Replied.{report_step}
use Rattle.dap_replies.proofs.ReportSteps.{outputs_as, report_ends}
use Rattle.dap_replies.proofs.reporting.end.Goals as goal

pub returns : goal.returns
returns c = λ past is.
    let r = plain_report c.args.report.now in
    let over = report_ends c.reading_laws.ensures c.args.target c.into_unit.result.value c.args.report.now past
    (subst (λ u. IsTarget c.args.target u past) (sym c.into_unit.ensures) is.keeps.0) in
    record {
      does = record {
        events_are =
            c.new.ensures
            ∙ c.in_ok-push-2.ensures.items
            ∙ ap (λ es. es ++ event.Terminated ∷ []) c.in_ok-push.ensures.items
            ∙ append_assoc c.in_ok-events.events.items (event.Exited 0 ∷ []) (event.Terminated ∷ [])
            ∙ ap (λ es. es ++ exited_events 0) (c.in_ok-events.ensures.are
            ∙ outputs_as c.args.target c.args.run.unit c.args.report.now past is.keeps.0);
        orders_are = refl;
      };
      phase_is =
          subst (λ p. IsPhase p (past ++ report_step r (only_events (outputs past r ++ exited_events 0)) ∷ []))
          (sym (ap (λ t. phase.Ended t c.into_unit.result) c.tell-target.ensures))
          (record { situation_is = over.0; keeps = over.1 });
    }
