use Rattle.dbg_runner.proofs.Common.{arith}
use Rattle.pl0_machine.proofs.Alive.{runs_before}
use Rattle.dbg_runner.proofs.hops.go_on.Goals as goal
use Rattle.std.proofs.lemmas.Grind.{common_steps}

pub search-requires-clause-runs : goal.search-requires-clause-runs
search-requires-clause-runs c = grind (arith, common_steps, runs_before)
