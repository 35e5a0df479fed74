use Rattle.std.proofs.Common.{refl}
use Rattle.dap_debug.proofs.Further.{on_ok}
use Rattle.dap_debug.proofs.session.SessionWorker.work.Goals as goal

pub returns-clause-worked : goal.returns-clause-worked
returns-clause-worked g c = on_ok _ _ c.run_on.result c.run_on.ensures (λ events is. (is, refl))
