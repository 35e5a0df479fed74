use Rattle.std.proofs.Common.{rules, ◌≡◌}
use Rattle.pl0_tree.specs.Plain.{plain_block}
use Rattle.pl0_unit.proofs.Texts.{same_program}
use Rattle.pl0_unit.proofs.unit.Unit.has_same_text.Goals as goal

pub returns-clause-program : goal.returns-clause-program
returns-clause-program c = λ is.
    let a = c.args.self.now.tree in
    let b = c.args.other.now.tree in
    let same : a.text.items ≡ b.text.items = search rules in
    same_program a.text.items b.text.items (plain_block a.program) (plain_block b.program) same a.lawful b.lawful
