use Rattle.std.proofs.Common.{rules, ap}
use Rattle.dap_wires.proofs.Sending.{kept_put}
use Rattle.dap_wires.proofs.event_ends.ReportSender.put_kept.Goals as goal

pub returns-in-Ok-send-clause-sent : goal.returns-in-Ok-send-clause-sent
returns-in-Ok-send-clause-sent g c =
    kept_put _ _ _ _ _ (ap (λ v. v.put_second) c.in-Ok-send.ensures.sent) (search rules) (search rules)
