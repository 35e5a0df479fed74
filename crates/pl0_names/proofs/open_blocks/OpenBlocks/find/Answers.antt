use Rattle.pl0_names.proofs.Common.{arith, None, sym, ◌∙◌}
use Rattle.pl0_names.proofs.Tables.{found_read, read_level}
use Rattle.pl0_names.proofs.open_blocks.OpenBlocks.find.Goals as goal

pub returns-in_err-placed : goal.returns-in_err-placed
returns-in_err-placed g c =
    c.from_residual.ensures ∙ sym (found_read c.self.inside.depth c.self.inside.index _ c.args.self.now c.args.word.now
    None c.self.invariant c.self.view_is c.in_err-placed.ensures.value)

pub overflow_add-level : goal.overflow_add-level
overflow_add-level g c =
    let below = read_level _ _ _ _ _ c.self.invariant (sym c.in_ok-placed.ensures.value) in
    omega (arith, below)

pub overflow_sub-level : goal.overflow_sub-level
overflow_sub-level g c =
    let below = read_level _ _ _ _ _ c.self.invariant (sym c.in_ok-placed.ensures.value) in
    omega (arith, below)

pub returns : goal.returns
returns g c = sym (found_read _ _ _ _ _ _ c.self.invariant c.self.view_is c.in_ok-placed.ensures.value)
