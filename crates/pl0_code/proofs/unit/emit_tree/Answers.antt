use Rattle.pl0_code.proofs.Common.{[], arith, plain_block, tokens_of, ∥∥₁_map}
use Rattle.pl0_names.proofs.Agreement.{paths_length}
use Rattle.pl0_code.proofs.unit.emit_tree.Goals as goal

pub emit_program-requires-clause-lawful : goal.emit_program-requires-clause-lawful
emit_program-requires-clause-lawful c = ∥∥₁_map c.args.tree.now.lawful (λ read.
    let text = c.args.tree.now.text.items in (
      read.lawful,
      c.home_laws.ensures _ (tokens_of text) (plain_block c.args.tree.now.program) read.reads
          (c.token_laws.ensures.in_order text) read.lawful,
    ))

pub emit_program-requires-clause-few : goal.emit_program-requires-clause-few
emit_program-requires-clause-few c =
    omega (arith, paths_length (plain_block c.args.tree.now.program) [], c.args.tree.now.few)
