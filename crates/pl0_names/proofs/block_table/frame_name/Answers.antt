use Rattle.pl0_names.proofs.Common.{ap, arith, option_map_or, out-Block, plain_block, plain_procedure, refl, slice_get_read, sym, ◌∙◌}
use Rattle.std.specs.Prelude.{codes}
use Rattle.pl0_names.proofs.Lookup.{read_at, outer_within, index_within, main_found, nested_found, procedure_in, procedures_length}
use Rattle.pl0_tree.specs.Blocks.{frame_name}
use Rattle.pl0_names.proofs.block_table.frame_name.Goals as goal

pub block-outer-requires-clause-within : goal.block-outer-requires-clause-within
block-outer-requires-clause-within c =
    let at = read_at (plain_block c.args.main.now) c.args.table.now c.args.number _ c.requires.table c.requires.within
    c.in-Some.is in
    outer_within (plain_block c.args.main.now) c.args.table.now c.args.number c.in-Some.nesting c.requires.table at

pub index-requires : goal.index-requires
index-requires c =
    let main = plain_block c.args.main.now in
    let at = read_at main c.args.table.now c.args.number _ c.requires.table c.requires.within c.in-Some.is in
    let inside = index_within main _ c.args.number c.in-Some.nesting at c.block-outer.ensures in
    omega (
      arith,
      inside,
      procedures_length c.block-outer.result.now,
      (out-Block
          c.block-outer.result.now).procedures.ok.0,
    )

pub returns-in-None : goal.returns-in-None
returns-in-None c = λ q here.
    let main = plain_block c.args.main.now in
    sym (ap (frame_name main) (main_found main c.args.number q
    (read_at main c.args.table.now c.args.number _ c.requires.table c.requires.within c.in-None.is) here))

pub returns-in-Some : goal.returns-in-Some
returns-in-Some c = λ q here.
    let main = plain_block c.args.main.now in
    let outer = c.block-outer.result.now in
    let at = read_at main c.args.table.now c.args.number _ c.requires.table c.requires.within c.in-Some.is in
    let inside = index_within main (plain_block outer) c.args.number c.in-Some.nesting at c.block-outer.ensures in
    let found = (nested_found main (plain_block outer) c.args.number c.in-Some.nesting
    (plain_procedure c.index.result.now) q at c.block-outer.ensures
    (procedure_in outer c.in-Some.nesting.index c.index.result.now
    (slice_get_read (out-Block outer).procedures.items _ c.in-Some.nesting.index c.index.result.now refl
    (omega (arith, inside, procedures_length outer)) c.index.ensures)) here).1 in
    c.as_str.ensures.value ∙ sym (ap (λ o. option_map_or (λ name. name.word) o (codes "main")) found)
