use Rattle.std.proofs.Common.{rules, ◌≡◌, ◌∙◌, ◌<◌, length, ap, Some, FitsSigned, w64, slice_get, sym, subst}
use Rattle.std.proofs.lemmas.Int.{to_z-of_z}
use Rattle.pl0_tree.specs.Scope.{Path, home}
use Rattle.pl0_tree.specs.Plain.{plain_block}
use Rattle.pl0_tree.specs.Steps.{blocks}
use Rattle.pl0_tree.specs.Blocks.{AreNestings}
use Rattle.pl0_meaning.specs.Values.{name_number, or_zero}
use Rattle.pl0_machine.specs.Machine.{program_of, program, frames, frame_of}
use Rattle.dbg_plan.specs.Bound.{IsNameBound}
use Rattle.dbg_plan.specs.Reads.{bound_of}
use Rattle.dbg_plan.proofs.ValuesBound.{Reads}
use Rattle.dbg_plan.proofs.UnitBlocks.{unit_nestings}
use Rattle.dbg_plan.proofs.ValuesNamed.{block_within, located_reads, number_is, variable_up, variable_is}
use Rattle.dbg_plan.proofs.evaluation.name_value.Goals as goal
use Rattle.dbg_plan.proofs.evaluation.name_value.Goals.{After-deref, After-names-1, After-locate}

table_is : (c : After-deref) → AreNestings (program_of c.deref-unit.result.now) c.deref.result.now
    (blocks (program_of c.deref-unit.result.now))
table_is c =
    let u = c.deref-unit.result.now in
    subst (λ t. AreNestings (program_of u) t (blocks (program_of u))) (sym c.deref.ensures.value) (unit_nestings u)

pub new-names-requires : goal.new-names-requires
new-names-requires c = table_is c

names_are : (c : After-names-1) → c.new-names.result ≡ c.args.machine.now.unit.tree.program
names_are c = c.new-names.ensures ∙ ap (λ u. u.tree.program) (c.deref-unit.ensures ∙ c.unit.ensures)

pub locate-requires : goal.locate-requires
locate-requires c =
    let m = c.args.machine.now in
    subst (λ b. c.frame-view.result.block < length (blocks (plain_block b))) (sym (names_are c))
    (block_within (program m) (frame_of m c.args.frame) c.frame-view.result c.frame-view.ensures)

-- what was looked up is the name's number
reads : (c : After-locate) → Reads (frames c.args.machine.now) c.args.frame (bound_of c.locate.result)
    (or_zero (name_number (program c.args.machine.now) (frames c.args.machine.now) c.args.frame c.args.text.now))
reads c =
    let m = c.args.machine.now in
    let bound =
    subst (λ b. (q : Path) → slice_get (blocks (plain_block b)) c.frame-view.result.block ≡ Some q
    → IsNameBound (plain_block b) q (home (plain_block b) q c.args.text.now) (bound_of c.locate.result))
    (c.new-names.ensures ∙ ap (λ u. u.tree.program) (c.deref-unit.ensures ∙ c.unit.ensures)) c.locate.ensures in
    located_reads (program m) (frames m) c.args.frame c.frame-view.result c.args.text.now c.locate.result
    c.depth-depth.ensures.linked c.frame-view.ensures bound

pub value_up-requires : goal.value_up-requires
value_up-requires c =
    variable_up (frames c.args.machine.now) c.args.frame c.locate.result c.in-Variable.level c.in-Variable.index _
    c.in-Variable.is (reads (goal.at.value_up-requires c).After-locate)

pub returns : goal.returns
returns c =
    let fits : FitsSigned w64 c.value_up.result = search rules in
    to_z-of_z w64 c.value_up.result fits
    ∙ variable_is (frames c.args.machine.now) c.args.frame c.locate.result c.in-Variable.level c.in-Variable.index
    c.value_up.result _ c.in-Variable.is (reads (goal.at.returns c).After-locate) c.value_up.ensures

pub returns-in-Number : goal.returns-in-Number
returns-in-Number c =
    let fits : FitsSigned w64 c.in-Number.number = search rules in
    to_z-of_z w64 c.in-Number.number fits
    ∙ number_is (frames c.args.machine.now) c.args.frame c.locate.result c.in-Number.number _ c.in-Number.is
    (reads (goal.at.returns-in-Number c).After-locate)
