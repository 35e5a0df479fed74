use Rattle.std.proofs.Common.{◌∙◌, arith}
use Rattle.byte_streams.proofs.Transferring.{partly_goes_on}
use Rattle.byte_streams.proofs.writing.write_all.Goals as goal

pub loop-preserved-in-Ok : goal.loop-preserved-in-Ok
loop-preserved-in-Ok g c = (
  partly_goes_on _ _ _ _ _ _ c.in-Ok.count c.loop.invariant.0 c.in-Ok.ensures.bytes c.split_at.ensures.back,
  let t = c.in-Ok.count-test in c.in-Ok.ensures.kept (omega (arith, t)) ∙ c.loop.invariant.1,
)
