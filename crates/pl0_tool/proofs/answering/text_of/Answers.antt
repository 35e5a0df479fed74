use Rattle.std.proofs.Common.{◌≢◌, codes, inl, inr, refl, rules}
use Rattle.pl0_tool.proofs.answering.text_of.Goals as goal

pub returns-then-eq : goal.returns-then-eq
returns-then-eq g c = inl (search rules, c.read_text.ensures.read, refl)

pub returns : goal.returns
returns g c =
    let differs : c.args.name.now ≢ codes "-" = search rules in
    inr (differs, c.read_file.ensures.read, refl)
