use Rattle.std.proofs.Common.{arith}
use Rattle.dap_inspection.proofs.AliveFrames.{none_alive}
use Rattle.dap_inspection.proofs.alive.frame_with_id.Goals as goal
use Rattle.dap_inspection.proofs.alive.frame_with_id.Goals.{then-id-eq0-via-then-id-eq0, then-id-eq0-via-else-id-eq0+then-id-depth}
use Rattle.std.proofs.lemmas.Grind.{common_steps}

pub returns-then-id-eq0 : goal.returns-then-id-eq0
returns-then-id-eq0 c = grind (arith, common_steps, none_alive)
