use Rattle.pl0_names.proofs.Common.{[], ap, arith, blocks, length, length-append, plain_block, same_Some, ◌∷◌}
use Rattle.pl0_names.proofs.Declared.{one_table_more}
use Rattle.pl0_names.proofs.Lookup.{nestings_lengths}
use Rattle.pl0_names.proofs.names.Names.with_tables.Goals as goal

pub overflow_cast-number : goal.overflow_cast-number
overflow_cast-number c =
    let few = c.requires.few in
    let all =
    nestings_lengths (plain_block c.args.main.now) c.args.nestings.now (blocks (plain_block c.args.main.now))
    c.requires.nestings in
    omega (arith, few, all, c.loop-number-test.true)

pub loop-number-preserved : goal.loop-number-preserved
loop-number-preserved c =
    let main = plain_block c.args.main.now in
    let count = c.loop-number.invariant.1 in
    let grown = c.in_ok-push.ensures.items in
    let more = one_table_more main (plain_block c.block-declaring.result.now) c.loop-number.tables.items
    c.in_ok-table.table c.loop-number.number c.loop-number.invariant.0 count c.in_ok-table.ensures
    c.block-declaring.ensures in (
      rw grown more,
      omega (
        arith,
        ap length grown,
        length-append c.loop-number.tables.items (c.in_ok-table.table ∷ []),
        count,
      ),
    )

pub invariant_of-result : goal.invariant_of-result
invariant_of-result c =
    let count = c.loop-number.invariant.1 in
    let all = nestings_lengths (plain_block c.args.main.now) c.args.nestings.now (blocks (plain_block c.args.main.now))
    c.requires.nestings in
    record {
      nested = c.requires.nestings;
      counted = λ ts is. omega (
        arith,
        ap length (same_Some
            c.loop-number.tables.items ts is),
        count,
        all,
        c.loop-number-test.false,
      );
      tabled = λ ts n table q b is. rw (←
          (same_Some c.loop-number.tables.items ts is)) (c.loop-number.invariant.0 n table q b);
    }
