use Rattle.std.proofs.Common.{refl}
use Rattle.dbg_plan.proofs.Fresh.{begun}
use Rattle.dbg_plan.proofs.debuggee.Debuggee.new.Goals as goal

pub invariant_of-result : goal.invariant_of-result
invariant_of-result c =
    begun _ refl refl c.position-position.ensures.position refl c.new.ensures.none
