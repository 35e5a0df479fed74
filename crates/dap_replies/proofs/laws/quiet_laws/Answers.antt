use Rattle.dap_replies.proofs.laws.quiet_laws.Goals as goal

pub returns : goal.returns
returns c = λ r goes_on no_numbers no_logs.
    record { goes_on = goes_on; no_numbers = no_numbers; no_logs = no_logs }
