use Rattle.pl0_names.proofs.Common.{length, plain_block, ◌≡◌}
use Rattle.pl0_names.proofs.Declared.{AreTables}
use Rattle.pl0_names.proofs.names.Names.with_tables.Given as goal

abbrev pub invariant-loop-number : goal.invariant-loop-number
invariant-loop-number l = AreTables (plain_block l.main) l.tables.items × (length l.tables.items ≡ l.number)
