use Rattle.pl0_tool.proofs.Common.{AreNestings, arith, block_at, blocks, frame_of, frames, Path, program, program_of, Shows, slice_get, Some, subst, sym, ◌∙◌, ◌≡◌}
use Rattle.pl0_tree.specs.Plain.{plain_block}
use Rattle.pl0_tree.specs.declared.tree.Block.{out-Block}
use Rattle.pl0_tool.proofs.TracedFrames.{unit_nestings, block_within, count_is}
use Rattle.pl0_tool.proofs.tracing.variable_count.Goals as goal

pub block-declaring-requires-clause-table : goal.block-declaring-requires-clause-table
block-declaring-requires-clause-table c =
    let u = c.deref-unit.result.now in
    subst (λ t. AreNestings (program_of u) t (blocks (program_of u))) (sym c.deref.ensures.value) (unit_nestings u)

pub block-declaring-requires-clause-within : goal.block-declaring-requires-clause-within
block-declaring-requires-clause-within c =
    let same : c.deref-unit.result.now ≡ c.args.machine.now.unit = c.deref-unit.ensures ∙ c.unit.ensures in
    rw c.deref.ensures.value (block_within c.deref-unit.result.now (frame_of c.args.machine.now c.args.frame)
    c.frame-number.result
    (subst (λ u. Shows (program_of u) (frame_of c.args.machine.now c.args.frame) c.frame-number.result) (sym same)
    c.frame-number.ensures))

pub returns : goal.returns
returns c =
    let m = c.args.machine.now in
    let same : c.deref-unit.result.now ≡ m.unit = c.deref-unit.ensures ∙ c.unit.ensures in
    let is = subst (λ u. (q : Path) → slice_get (blocks (program_of u)) c.frame-number.result.block ≡ Some q
    → block_at (program_of u) q ≡ Some (plain_block c.block-declaring.result.now)) same c.block-declaring.ensures in
    let b = c.block-declaring.result.now in
    let count = count_is (program m) (frames m) c.args.frame c.frame-number.result b c.depth-depth.ensures.linked
    c.frame-number.ensures is in
    let ok = (out-Block b).variables.ok.0 in
    omega (arith, c.len.ensures, count, ok)
