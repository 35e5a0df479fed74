use Rattle.std.proofs.Common.{arith}
use Rattle.dap_server.proofs.Adding.{events_from-length}
use Rattle.dap_server.proofs.working.tell.Goals as goal
use Rattle.std.proofs.lemmas.Grind.{common_steps}

pub returns-in-Ok-clause-ok : goal.returns-in-Ok-clause-ok
returns-in-Ok-clause-ok g c = grind (arith, common_steps, events_from-length)
