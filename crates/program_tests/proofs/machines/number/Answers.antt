use Rattle.std.proofs.Common.{◌≡◌, ◌<◌, length, slice_get, Some, sym, ◌∙◌, subst, arith}
use Rattle.pl0_tree.specs.declared.tree.Block.{out-Block}
use Rattle.pl0_tree.specs.Plain.{plain_block}
use Rattle.pl0_tree.specs.Scope.{Path, block_at}
use Rattle.pl0_tree.specs.Steps.{blocks}
use Rattle.pl0_tree.specs.Blocks.{AreNestings}
use Rattle.pl0_machine.specs.Machine.{program_of, program, frames, frame_of}
use Rattle.program_tests.proofs.Fitting.{unit_nestings, known_block, has_variable}
use Rattle.program_tests.proofs.machines.number.Goals as goal
use Rattle.program_tests.proofs.machines.number.Goals.{After-deref}

unit_is : (c : After-deref) → c.deref-unit.result.now ≡ c.args.machine.now.unit
unit_is c = c.deref-unit.ensures ∙ c.unit.ensures

table_is : (c : After-deref) → AreNestings (program_of c.deref-unit.result.now) c.deref.result.now
    (blocks (program_of c.deref-unit.result.now))
table_is c =
    let u = c.deref-unit.result.now in
    subst (λ t. AreNestings (program_of u) t (blocks (program_of u))) (sym c.deref.ensures.value) (unit_nestings u)

pub block-block-requires-clause-table : goal.block-block-requires-clause-table
block-block-requires-clause-table c = table_is c

pub block-block-requires-clause-within : goal.block-block-requires-clause-within
block-block-requires-clause-within c =
    let m = c.args.machine.now in
    let table : AreNestings (program m) c.deref.result.now (blocks (program m)) =
    subst (λ u. AreNestings (program_of u) c.deref.result.now (blocks (program_of u))) (unit_is c) (table_is c) in
    known_block (program m) c.deref.result.now (frame_of m c.args.frame) c.frame-view.result table c.frame-view.ensures

pub value-requires : goal.value-requires
value-requires c =
    let m = c.args.machine.now in
    let same : c.deref-unit.result.now ≡ m.unit = c.deref-unit.ensures ∙ c.unit.ensures in
    let is = subst (λ u. (q : Path) → slice_get (blocks (program_of u)) c.frame-view.result.block ≡ Some q
    → block_at (program_of u) q ≡ Some (plain_block c.block-block.result.now)) same c.block-block.ensures in
    let ok = (out-Block c.block-block.result.now).variables.ok in
    let n = c.len.ensures in
    let lt : c.args.variable < length (out-Block c.block-block.result.now).variables.items = omega (arith, ok.0, n) in
    has_variable (program m) c.block-block.result.now (frames m) c.args.frame c.frame-view.result c.args.variable
    c.depth-depth.ensures.linked c.frame-view.ensures is lt
