use Rattle.std.proofs.Common.{◌≡◌, ◌++◌, take, inl, rules, ◌<◌, length}
use Rattle.std.proofs.Math.Logic.{∥∥₁_map}
use Rattle.byte_streams.proofs.Noting.{given_more, given_same, given_end}
use Rattle.byte_streams.proofs.streams.ReadingSource.read.Goals as goal

pub invariant_of-self-in-Ok : goal.invariant_of-self-in-Ok
invariant_of-self-in-Ok g c =
    let source = c.args.self.now in
    let front = take c.in-Ok.count c.read.new.buf in
    let grew : c.note.new.self.bytes ≡ source.given.bytes ++ front =
    cc (c.note.ensures.1, c.split_at.ensures.front, c.in-Ok.count-is) in
    record {
      gives = rw grew (rw c.note.ensures.0 (∥∥₁_map source.gives (λ h. given_more _ _ _ source.given.bytes front
          source.ended source.ended h c.in-Ok.ensures.bytes.0 (λ e. inl e))));
    }

pub invariant_of-self-in-Err : goal.invariant_of-self-in-Err
invariant_of-self-in-Err g c =
    let source = c.args.self.now in
    record { gives = ∥∥₁_map source.gives (λ h. given_same _ _ _ _ _ h c.in-Err.ensures.bytes) }

pub invariant_of-self : goal.invariant_of-self
invariant_of-self g c =
    let source = c.args.self.now in
    let room : 0 < length c.read.new.buf = search rules in
    record {
      gives = ∥∥₁_map source.gives (λ h. given_end _ _ _ source.given.bytes c.in-Ok-eq0.field-0 c.read.new.buf
          source.ended h c.in-Ok-eq0.ensures.bytes c.in-Ok-eq0.field-0-test room);
    }
