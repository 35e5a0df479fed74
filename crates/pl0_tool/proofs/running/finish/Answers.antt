use Rattle.pl0_tool.proofs.Common.{inr, refl}
use Rattle.pl0_tool.proofs.PendingBytes.{holds_failed_last}
use Rattle.pl0_tool.proofs.running.finish.Goals as goal

pub returns-in-Err-clause-written : goal.returns-in-Err-clause-written
returns-in-Err-clause-written g c before text held =
    inr (refl, holds_failed_last before _ _ _ text held c.in-Err.ensures.flushed)
