use Rattle.byte_streams.proofs.Beginnings.{reads_none}
use Rattle.byte_streams.proofs.whole.read_all.Goals as goal

pub returns-in-Ok-eq0-clause-bytes : goal.returns-in-Ok-eq0-clause-bytes
returns-in-Ok-eq0-clause-bytes g c =
    reads_none _ (g.S.Source.supply c.args.source.now) (g.S.Source.supply c.loop.source)
    (g.S.Source.supply c.read.new.self) _ c.read.new.room c.loop.invariant.0 c.in-Ok-eq0.ensures.bytes.0
    c.in-Ok-eq0.field-0-test (g.met.S.Source.of_whole c.read.new.self)
