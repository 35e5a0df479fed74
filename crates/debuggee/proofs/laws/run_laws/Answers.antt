use Rattle.debuggee.proofs.Going.{runs_join}
use Rattle.debuggee.proofs.laws.run_laws.Goals as goal

pub returns : goal.returns
returns g c = record { join = runs_join g.D.Debuggee.takes g.D.Debuggee.sees }
