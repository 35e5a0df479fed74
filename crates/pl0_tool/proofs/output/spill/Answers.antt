use Rattle.pl0_tool.proofs.PendingBytes.{flushed_or_failed}
use Rattle.pl0_tool.proofs.output.spill.Goals as goal

pub returns-clause-held : goal.returns-clause-held
returns-clause-held g c before text held =
    flushed_or_failed c.flush.result before _ _ _ _ text held c.flush.ensures.flushed c.flush.ensures.empty
