use Rattle.std.proofs.Common.{sym, subst}
use Rattle.pl0_tree.specs.Blocks.{AreNestings}
use Rattle.pl0_tree.specs.Steps.{blocks}
use Rattle.pl0_machine.specs.Machine.{program_of}
use Rattle.dbg_plan.proofs.UnitBlocks.{unit_nestings}
use Rattle.dbg_plan.proofs.resolving.names_for.Goals as goal

pub with_tables-requires-clause-nestings : goal.with_tables-requires-clause-nestings
with_tables-requires-clause-nestings c =
    let main = program_of c.args.unit.now in
    subst (λ l. AreNestings main l (blocks main)) (sym c.deref.ensures.value) (unit_nestings c.args.unit.now)

pub new-requires : goal.new-requires
new-requires c =
    let main = program_of c.args.unit.now in
    subst (λ l. AreNestings main l (blocks main)) (sym c.deref-else-any.ensures.value) (unit_nestings c.args.unit.now)
