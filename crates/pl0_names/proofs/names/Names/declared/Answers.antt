use Rattle.pl0_names.proofs.Common.{ap, arith, blocks, length, meaning_of, option_map, plain_block, slice_get, slice_get-get_or, Some, sym, ◌<◌, ◌∙◌, ◌≡◌}
use Rattle.pl0_names.proofs.Declared.{AreTables, table_means}
use Rattle.pl0_names.proofs.Lookup.{nestings_lengths}
use Rattle.pl0_names.proofs.names.Names.declared.Goals as goal
use Rattle.pl0_names.proofs.names.Names.declared.Goals.{After-index}
use Rattle.std.proofs.lemmas.Grind.{common_steps}

pub block-requires-clause-within : goal.block-requires-clause-within
block-requires-clause-within c = grind (arith, common_steps, nestings_lengths)

pub index-requires : goal.index-requires
index-requires c =
    let count = c.self.invariant.counted c.in-Some.tables.items (ap (option_map (λ ts. ts.items)) c.in-Some.is) in
    omega (arith, count, ap (λ b. length (blocks (plain_block b))) c.self.view_is, c.requires, c.in-Some.tables.ok)

is_some : (c : After-index) → option_map (λ ts. ts.items) c.self.inside.tables ≡ Some c.in-Some.tables.items
is_some c = ap (option_map (λ ts. ts.items)) c.in-Some.is

tabled : (c : After-index) → AreTables (plain_block c.args.self.now) c.in-Some.tables.items
tabled c = grind (arith, common_steps, is_some)

here : (c : After-index) → slice_get c.in-Some.tables.items c.args.number ≡ Some c.index.result.now
here c =
    let count = c.self.invariant.counted c.in-Some.tables.items (is_some c) in
    let within : c.args.number < length c.in-Some.tables.items =
    omega (arith, count, ap (λ b. length (blocks (plain_block b))) c.self.view_is, c.requires) in
    slice_get-get_or c.in-Some.tables.items c.args.number c.index.result.now within ∙ ap Some (sym c.index.ensures)

pub returns-in_err-find-in-Some : goal.returns-in_err-find-in-Some
returns-in_err-find-in-Some c =
    λ q at. rw (c.from_residual.ensures ∙ ap (option_map (λ d. d.meaning)) (sym c.in_err-find-in-Some.was)) (table_means
    (plain_block c.args.self.now) c.in-Some.tables.items (tabled (goal.at.returns-in_err-find-in-Some c).After-index)
    c.args.number c.index.result.now (here (goal.at.returns-in_err-find-in-Some c).After-index) c.args.word.now
    c.find.result c.find.ensures q at)

pub returns-in_ok-find-in-Some : goal.returns-in_ok-find-in-Some
returns-in_ok-find-in-Some c = λ q at.
    ap (λ o. option_map meaning_of (option_map (λ d. d.meaning) o)) (sym c.in_ok-find-in-Some.was)
    ∙ table_means (plain_block c.args.self.now) c.in-Some.tables.items
    (tabled (goal.at.returns-in_ok-find-in-Some c).After-index) c.args.number c.index.result.now
    (here (goal.at.returns-in_ok-find-in-Some c).After-index) c.args.word.now c.find.result c.find.ensures q at
