use Rattle.std.proofs.Common.{◌≡◌, false, true, sym, ◌∙◌, arith}
use Rattle.dbg_plan.proofs.Sameness.{same_there}
use Rattle.dbg_plan.proofs.same.same_breakpoints.Goals as goal

pub returns-then-not-same_breakpoint : goal.returns-then-not-same_breakpoint
returns-then-not-same_breakpoint c = (
  λ never. let e : false ≡ true =
      never in cc,
  λ all. sym c.if-not-same_breakpoint.true
      ∙ c.same_breakpoint.ensures.1 (same_there c.args.left.now c.args.right.now c.loop-index.index _ _
      c.loop-index-test.true (let lt = c.loop-index-test.true in omega (arith, lt, c.if-left-right.false))
      c.index-left-index.is c.index-right-index.is all),
)
