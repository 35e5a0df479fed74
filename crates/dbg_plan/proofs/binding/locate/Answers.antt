use Rattle.std.proofs.Common.{◌≡◌, ◌∙◌, ◌<◌, [], length, get_or, Some, FitsSigned, w64, slice_get, rules, arith, ap, sym, subst}
use Rattle.std.proofs.lemmas.Int.{to_z-of_z}
use Rattle.std.proofs.lemmas.Option.{slice_get-get_or}
use Rattle.pl0_tree.specs.declared.tree.Block.{out-Block}
use Rattle.pl0_tree.specs.Plain.{plain_block}
use Rattle.pl0_tree.specs.Scope.{Path, home}
use Rattle.pl0_tree.specs.Steps.{blocks}
use Rattle.pl0_names.specs.Homes.{IsHomeAnswer, meaning_of}
use Rattle.pl0_machine.specs.declared.located.LocatedExpression.TheVariants as bound
use Rattle.dbg_plan.specs.Bound.{IsNameBound}
use Rattle.dbg_plan.proofs.BoundHomes.{constant_within, constant_bound}
use Rattle.dbg_plan.proofs.binding.locate.Goals as goal
use Rattle.dbg_plan.proofs.binding.locate.Goals.{In-Constant}

answered : (c : In-Constant) → (q : Path) → slice_get (blocks (plain_block c.args.names.now)) c.args.number ≡ Some q
    → IsHomeAnswer (plain_block c.args.names.now) q (home (plain_block c.args.names.now) q c.args.text.now)
    (Some c.in-Some.home)
answered c q at =
    subst (λ o. IsHomeAnswer (plain_block c.args.names.now) q (home (plain_block c.args.names.now) q c.args.text.now) o)
    c.in-Some.is (c.find.ensures q at)

there : (c : In-Constant) → c.in-Constant.index < length (out-Block c.in-Some.home.block.now).constants.items
there c =
    let main = plain_block c.args.names.now in
    let q = get_or (blocks main) c.args.number [] in
    constant_within main q c.args.text.now c.in-Some.home
    (answered c q (slice_get-get_or (blocks main) c.args.number [] c.requires)) c.in-Constant.index
    (ap meaning_of c.in-Constant.is)

pub index-requires : goal.index-requires
index-requires c = omega (arith, there c, (out-Block c.in-Some.home.block.now).constants.ok)

pub returns-in-Constant : goal.returns-in-Constant
returns-in-Constant c = λ q at.
    let main = plain_block c.args.names.now in
    let constants = (out-Block c.in-Some.home.block.now).constants.items in
    let read = (goal.at.returns-in-Constant c).In-Constant in
    let fits : FitsSigned w64 c.index.result.now.value = search rules in
    subst (λ z. IsNameBound main q (home main q c.args.text.now) (bound.Number z))
    (sym (to_z-of_z w64 c.index.result.now.value fits))
    (constant_bound main q c.args.text.now c.in-Some.home (answered read q at) c.in-Constant.index c.index.result.now
    (ap meaning_of c.in-Constant.is)
    (slice_get-get_or constants c.in-Constant.index c.index.result.now (there read) ∙ ap Some (sym c.index.ensures)))
