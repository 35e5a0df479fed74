use Rattle.std.proofs.Common.{◌≡◌}
use Rattle.dap_wires.specs.Inbox.{sent_reports, report_queue}
use Rattle.dap_wires.proofs.event_ends.ReportSender.put_each.Given as goal

abbrev pub invariant-loop : goal.invariant-loop
invariant-loop g l =
    (sent_reports l.self ≡ sent_reports l.initial.self) × (l.self.handed_back ≡ l.initial.self.handed_back)
    × (report_queue l.self ≡ report_queue l.initial.self)
