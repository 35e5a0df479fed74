use Rattle.std.proofs.Common.{rules, FitsSigned, w64, sym, ◌∙◌}
use Rattle.std.proofs.lemmas.Int.{to_z-of_z}
use Rattle.pl0_machine.specs.LocatedValues.{numbers_there}
use Rattle.pl0_machine.proofs.LocatedValues.{compared}
use Rattle.pl0_machine.proofs.located.truth_of.Goals as goal

pub returns-in_ok-y-in-Compare : goal.returns-in_ok-y-in-Compare
returns-in_ok-y-in-Compare c =
    let x = c.in_ok-x-in-Compare.x in
    let y = c.in_ok-y-in-Compare.y in
    let fits_x : FitsSigned w64 c.in_ok-x-in-Compare.x = search rules in
    let fits_y : FitsSigned w64 c.in_ok-y-in-Compare.y = search rules in
    compared (numbers_there c.args.cells.now c.args.base c.args.top) c.args.condition.now c.in-Compare.relation
    c.in-Compare.left c.in-Compare.right x y c.compare.result c.in-Compare.is (sym c.side_of-in-Compare.ensures ∙
    c.in_ok-x-in-Compare.was) (sym c.reach.ensures ∙ c.in_ok-y-in-Compare.was)
    (cc (c.compare.ensures, to_z-of_z w64 x fits_x, to_z-of_z w64 y fits_y))
