use Rattle.pl0_code.proofs.Common.{[], ap, length, plain_block, refl, sym, ∥∥₁_map}
use Rattle.pl0_code.proofs.unit.emit_program.Goals as goal

pub block-requires-clause-placed : goal.block-requires-clause-placed
block-requires-clause-placed c = ∥∥₁_map c.requires.lawful (λ lawful.
    record {
      main = plain_block c.args.main.now;
      path = [];
      lawful = lawful.0;
      early = lawful.1;
      at = refl;
      begins = sym
          (ap length c.new.ensures);
      among = sym c.new-open_blocks.ensures;
    })
