use Rattle.std.proofs.Common.{◌≡◌, ◌<◌, length, vec_len, vec_capacity, Err, ◌∙◌, ap, refl, arith}
use Rattle.byte_streams.specs.Streams.{Supply}
use Rattle.byte_streams.proofs.Appending.{keeps_appends}
use Rattle.dap_wires.proofs.FromSource.{supply_same, read_nothing, read_gives, read_alone, piece_short, piece_some}
use Rattle.dap_wires.proofs.transfer.read_event.Goals as goal

pub loop-init : goal.loop-init
loop-init g c = (refl, c.told-room, refl)

pub returns-in-Ok-eq0-clause-read : goal.returns-in-Ok-eq0-clause-read
returns-in-Ok-eq0-clause-read g c =
    let size = c.loop.invariant.1 in
    let kept = c.read.auto.room in
    let room : 0 < length c.read.new.room = omega (arith, size, kept) in
    let e = read_nothing (g.I.GuardedSource.supply c.args.input.now) (g.I.GuardedSource.supply c.loop.input)
    (g.I.GuardedSource.supply c.read.new.self) _ _ (ap (λ (s : Supply). s.read) c.loop.invariant.0)
    c.in-Ok-eq0.ensures.bytes c.in-Ok-eq0.field-0-test room
    in
    (e.0, e.1, c.in-Ok-eq0.ensures.kept ∙ ap (λ (s : Supply). s.failures) c.loop.invariant.0)

pub unwrap-requires : goal.unwrap-requires
unwrap-requires g c =
    let len : vec_len c.loop.piece ≡ 0 = ap vec_len c.loop.invariant.2 ∙ c.in-Ok.ensures.len in
    let capacity : vec_capacity c.loop.piece ≡ 4096 = ap vec_capacity c.loop.invariant.2 ∙ c.in-Ok.ensures.exact in
    let short = piece_short c.in-Ok-read.count _ c.read.new.room _ refl (c.read.auto.room ∙ c.loop.invariant.1) in
    c.extend_from_slice.ensures.succeeds (omega (arith, len, capacity, short))

pub returns-in-Ok-read-clause-read : goal.returns-in-Ok-read-clause-read
returns-in-Ok-read-clause-read g c =
    let n = c.in-Ok-read.count in
    let appended = rw c.unwrap.ensures at c.extend_from_slice.ensures.items in
    let empty = ap (λ p. p.items) c.loop.invariant.2 ∙ c.in-Ok.ensures.items in
    let piece = read_alone n c.read.new.room _ _ appended empty in (
      read_gives (g.I.GuardedSource.supply c.args.input.now) (g.I.GuardedSource.supply c.loop.input)
          (g.I.GuardedSource.supply c.read.new.self) n c.read.new.room _
          (ap (λ (s : Supply). s.read) c.loop.invariant.0) c.in-Ok-read.ensures.bytes piece,
      piece_short n _ c.read.new.room _ piece (c.read.auto.room ∙ c.loop.invariant.1),
      c.in-Ok-read.ensures.kept ∙ ap (λ (s : Supply). s.failures) c.loop.invariant.0,
      piece_some n c.read.new.room _ piece c.in-Ok-read.count-test.1
          (omega (arith, c.in-Ok-read.ensures.within, c.read.auto.room)),
    )

pub returns-in-Err-Failed-clause-read : goal.returns-in-Err-Failed-clause-read
returns-in-Err-Failed-clause-read g c =
    let grew = c.in-Err-Failed.ensures.failed (ap Err c.in-Err-Failed.field-0-is) in
    let before = ap (λ (s : Supply). s.failures) c.loop.invariant.0 in (
      keeps_appends _ _ (c.in-Err-Failed.ensures.bytes ∙ ap (λ (s : Supply). s.read) c.loop.invariant.0),
      omega
          (arith, grew, before),
    )

pub loop-preserved : goal.loop-preserved
loop-preserved g c = (
  supply_same (g.I.GuardedSource.supply c.read.new.self) (g.I.GuardedSource.supply c.loop.input)
      c.in-Err-Interrupted.ensures.bytes c.in-Err-Interrupted.ensures.stays
      (c.in-Err-Interrupted.ensures.interrupted (ap Err c.in-Err-Interrupted.field-0-is)) ∙ c.loop.invariant.0,
  c.read.auto.room ∙ c.loop.invariant.1,
  c.loop.invariant.2,
)

pub read-requires : goal.read-requires
read-requires g c = c.requires c.loop.input c.loop.invariant.0
