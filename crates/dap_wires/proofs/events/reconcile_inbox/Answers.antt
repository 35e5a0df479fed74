use Rattle.dap_wires.specs.Ends.{sender_log, receive_log}
use Rattle.dap_wires.proofs.Sending.{client_begins, reports_begin}
use Rattle.dap_wires.proofs.events.reconcile_inbox.Goals as goal

pub returns-clause-client : goal.returns-clause-client
returns-clause-client g c =
    client_begins (receive_log c.args.log.log).taken c.reconcile.ensures.0 c.args.log.given.entries
    c.args.log.rest.items c.args.log.in_order
    (sender_log c.args.client.end).put_first c.reconcile.ensures.1

pub returns-clause-reports : goal.returns-clause-reports
returns-clause-reports g c =
    reports_begin (receive_log c.args.log.log).taken c.reconcile.ensures.0 c.args.log.given.entries
    c.args.log.rest.items c.args.log.in_order
    (sender_log c.args.reports.end).put_second c.args.reports.kept.items c.reconcile.ensures.2
