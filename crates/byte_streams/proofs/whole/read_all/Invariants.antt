use Rattle.std.proofs.Common.{◌≡◌, length}
use Rattle.byte_streams.specs.Streams.{Appends}
use Rattle.byte_streams.proofs.whole.read_all.Given as goal

abbrev pub invariant-loop : goal.invariant-loop
invariant-loop g l =
    Appends (g.S.Source.supply l.initial.source).read (g.S.Source.supply l.source).read l.bytes.items
    × ((g.S.Source.supply l.source).failures ≡ (g.S.Source.supply l.initial.source).failures)
    × (length l.room ≡ 4096)
