use Rattle.pl0_names.proofs.Common.{arith, length, reverse, ◌+◌}
use Rattle.pl0_names.proofs.Logs.{nested_more, blocks_length, opened}
use Rattle.pl0_names.proofs.Tables.{opened_indexed}
use Rattle.pl0_names.proofs.open_blocks.OpenBlocks.enter.Goals as goal
use Rattle.std.proofs.lemmas.Grind.{common_steps}

pub invariant_of-self : goal.invariant_of-self
invariant_of-self g c =
    let n = c.self.inside.depth in
    let es = reverse c.self.inside.log.items in
    record {
      indexed = opened_indexed n c.self.inside.index es c.self.invariant.nested c.self.invariant.indexed;
      nested = nested_more n (n + 1) es (omega arith) c.self.invariant.nested;
    }

pub returns-clause-ok : goal.returns-clause-ok
returns-clause-ok g c = rw (opened c.self.inside.depth _ c.self.invariant.nested, c.self.view_is)

pub returns-then-self-clause-room : goal.returns-then-self-clause-room
returns-then-self-clause-room g c = grind (arith, common_steps, length, blocks_length)
