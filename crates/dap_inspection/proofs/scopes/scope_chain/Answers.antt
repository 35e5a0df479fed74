use Rattle.std.proofs.Common.{arith, ap}
use Rattle.pl0_machine.specs.Machine.{program, frames}
use Rattle.dap_inspection.proofs.ScopeChain.{LinksTo, leads, walked, left_of}
use Rattle.dap_inspection.proofs.scopes.scope_chain.Goals as goal
use Rattle.dap_inspection.proofs.scopes.scope_chain.Goals.{After-static_parent-next}

one_link : (c : After-static_parent-next) →
    LinksTo (program c.args.machine.now) (frames c.args.machine.now) c.in-Some.frame c.in_ok-scope.field-0
    c.static_parent-next.result
one_link c =
    let m = c.args.machine.now in
    leads _ _ _ _ _ c.depth-depth.ensures.linked c.in_ok-scope.ensures c.static_parent-next.ensures

pub loop-next-smaller : goal.loop-next-smaller
loop-next-smaller c = let fewer = (one_link c).fewer in omega (arith, fewer, ap left_of c.in-Some.is)

pub loop-next-preserved : goal.loop-next-preserved
loop-next-preserved c =
    let one = one_link c in
    let fewer = one.fewer in
    let before = c.loop-next.invariant in
    let m = c.args.machine.now in (
      rw c.in_ok-push.ensures.items (walked _ _ _ _ _ _ _ _ one c.in-Some.is before.0),
      omega (arith, fewer, before.1, ap left_of c.in-Some.is),
    )
