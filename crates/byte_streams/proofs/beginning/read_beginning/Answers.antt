use Rattle.std.proofs.Common.{◌<◌, ◌≤◌, length, arith}
use Rattle.byte_streams.proofs.Beginnings.{begins_whole}
use Rattle.byte_streams.proofs.beginning.read_beginning.Goals as goal

pub returns-in-Ok-eq0-clause-bytes : goal.returns-in-Ok-eq0-clause-bytes
returns-in-Ok-eq0-clause-bytes g c =
    let size = c.loop.invariant.2 in
    let kept = c.read.auto.room in
    let room : 0 < length c.read.new.room = omega (arith, size, kept) in
    let count = c.len.ensures in
    let few = c.if-len-limit.false in
    let short : length c.loop.bytes.items ≤ c.args.limit = omega (arith, count, few) in
    begins_whole c.args.limit _ (g.S.Source.supply c.args.source.now) (g.S.Source.supply c.loop.source)
    (g.S.Source.supply c.read.new.self) _ c.read.new.room c.loop.invariant.0 c.in-Ok-eq0.ensures.bytes
    c.in-Ok-eq0.field-0-test room
    short (g.met.S.Source.of_whole c.read.new.self)
