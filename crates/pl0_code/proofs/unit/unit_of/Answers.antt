use Rattle.pl0_code.proofs.Common.{plain_block, tokens_of, ∥∥₁_map}
use Rattle.pl0_code.proofs.UnitLemmas.{unit_of, small_unit}
use Rattle.pl0_code.proofs.unit.unit_of.Goals as goal

pub invariant_of-result-clause-compiled : goal.invariant_of-result-clause-compiled
invariant_of-result-clause-compiled c = ∥∥₁_map c.args.tree.lawful (λ read.
    let main = plain_block c.args.tree.program in
    let tokens = tokens_of c.args.tree.text.items in
    unit_of main read.lawful (c.home_laws.ensures _ tokens main read.reads
    (c.token_laws.ensures.in_order c.args.tree.text.items) read.lawful) c.into_parts-code.result.0.items
    c.into_parts-code.result.1.items c.args.emitter.steps.items c.args.emitter.listing
    c.into_parts-code.ensures.code c.into_parts-code.ensures.begun_steps c.requires.listing c.requires.table)

pub invariant_of-result-clause-small : goal.invariant_of-result-clause-small
invariant_of-result-clause-small c =
    let tree = c.args.tree in
    let main = plain_block tree.program in
    ∥∥₁_map tree.lawful (λ read. small_unit main (tokens_of tree.text.items) read.reads tree.short
    c.into_parts-code.result.0.items c.args.emitter.listing c.into_parts-code.ensures.code c.requires.listing)
