use Rattle.pl0_tool.proofs.Common.{AreNestings, blocks, program_of, subst, sym}
use Rattle.pl0_tool.proofs.TracedFrames.{unit_nestings}
use Rattle.pl0_tool.proofs.table.put_frame.Goals as goal

pub block-declaring-requires-clause-table : goal.block-declaring-requires-clause-table
block-declaring-requires-clause-table c =
    let u = c.args.unit.now in
    subst (λ t. AreNestings (program_of u) t (blocks (program_of u))) (sym c.deref.ensures.value) (unit_nestings u)
