use Rattle.dap_session.proofs.Owing.{sent_is_known}
use Rattle.dap_session.proofs.laws.serving_laws.Goals as goal

pub returns : goal.returns
returns c = record { sent = sent_is_known c.history_laws.ensures.one }
