use Rattle.std.proofs.Common.{◌≡◌, ◌++◌, take, arith}
use Rattle.std.proofs.KnownBytes.{Appends-trans}
use Rattle.std.proofs.Math.Logic.{∥∥₁_map}
use Rattle.byte_streams.proofs.streams.WritingSink.write.Goals as goal
use Rattle.std.proofs.lemmas.Grind.{common_steps}

pub invariant_of-self-in-Ok : goal.invariant_of-self-in-Ok
invariant_of-self-in-Ok g c =
    let sink = c.args.self.now in
    let front = take c.in-Ok.count c.args.bytes.now in
    let grew : c.note.new.self.bytes ≡ sink.taken.bytes ++ front =
    cc (c.note.ensures.1, c.split_at.ensures.front, c.in-Ok.count-is) in
    record {
      takes = rw grew (rw c.note.ensures.0 (∥∥₁_map sink.takes (λ h. Appends-trans (g.O.Write.contents
          sink.taken.first) (g.O.Write.contents sink.inner) (g.O.Write.contents c.write.new.self) sink.taken.bytes
          front h
          c.in-Ok.ensures.bytes)));
    }

pub invariant_of-self-in-Err : goal.invariant_of-self-in-Err
invariant_of-self-in-Err g c =
    let sink = c.args.self.now in
    record { takes = ∥∥₁_map sink.takes (λ h. grind (arith, common_steps)) }
