-- The program of a text, or its first mistake.
use Rattle.std.specs.Prelude.{◌≡◌, List, ℕ}
use Rattle.pl0_tree.specs.Plain.{plain_block}
use Rattle.pl0_tree.specs.Faults.{IsTreeOf}
use Rattle.pl0_unit.specs.declared.unit.Unit.{Unit as Compiled}

-- a compiled program is that of a text
abbrev pub IsProgramOf : List ℕ → Compiled → Type 0
IsProgramOf text unit = (unit.tree.text.items ≡ text) × IsTreeOf text (plain_block unit.tree.program)
