use Rattle.std.proofs.Common.{◌≡◌, map, arith}
use Rattle.pl0_tree.specs.Plain.{plain_name}
use Rattle.pl0_machine.specs.Machine.{program, frame_of}
use Rattle.dap_inspection.specs.Variables.{names_in}
use Rattle.dbg_plan.proofs.UnitBlocks.{unit_nestings}
use Rattle.dap_inspection.proofs.UnitTables.{shown_block_within}
use Rattle.dap_inspection.proofs.FrameVariables.{names_are, count_is}
use Rattle.dap_inspection.proofs.variables.declared_names.Goals as goal
use Rattle.dap_inspection.proofs.variables.declared_names.Goals.{After-deref-2}
use Rattle.std.proofs.lemmas.Grind.{common_steps}

pub block-declaring-requires-clause-table : goal.block-declaring-requires-clause-table
block-declaring-requires-clause-table c = grind (arith, common_steps, unit_nestings)

pub block-declaring-requires-clause-within : goal.block-declaring-requires-clause-within
block-declaring-requires-clause-within c = grind (arith, common_steps, shown_block_within)

names_there : (c : After-deref-2) → map plain_name c.deref-2.result.now ≡ names_in (program c.args.machine.now)
    (frame_of c.args.machine.now c.args.frame)
names_there c = grind (arith, common_steps, names_are)

pub returns-clause-names : goal.returns-clause-names
returns-clause-names c = names_there c

pub returns-clause-count : goal.returns-clause-count
returns-clause-count c = count_is _ _ c.args.frame c.deref-2.result.now c.depth-depth.ensures.linked (names_there c)
