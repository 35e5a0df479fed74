use Rattle.pl0_tool.proofs.Common.{AreNestings, blocks, length, program_of, subst, sym, ◌<◌}
use Rattle.pl0_tool.proofs.TracedFrames.{unit_nestings}
use Rattle.pl0_tool.proofs.blocks.frame_name.Goals as goal

pub frame_name-requires-clause-table : goal.frame_name-requires-clause-table
frame_name-requires-clause-table c =
    let u = c.args.unit.now in
    subst (λ t. AreNestings (program_of u) t (blocks (program_of u))) (sym c.deref.ensures.value) (unit_nestings u)

pub frame_name-requires-clause-within : goal.frame_name-requires-clause-within
frame_name-requires-clause-within c = subst (λ t. c.args.number < length t) (sym c.deref.ensures.value) c.requires
