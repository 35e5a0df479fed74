use Rattle.std.proofs.Common.{arith}
use Rattle.dbg_plan.proofs.UnitBlocks.{unit_nestings}
use Rattle.dap_inspection.proofs.UnitTables.{some_within}
use Rattle.dap_inspection.proofs.frame_name.frame_name.Goals as goal
use Rattle.std.proofs.lemmas.Grind.{common_steps}

pub frame_name-name-requires-clause-table : goal.frame_name-name-requires-clause-table
frame_name-name-requires-clause-table c = grind (arith, common_steps, unit_nestings)

pub frame_name-name-requires-clause-within : goal.frame_name-name-requires-clause-within
frame_name-name-requires-clause-within c = grind (arith, common_steps, some_within) steps 200000
