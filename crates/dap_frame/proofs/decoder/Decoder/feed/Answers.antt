use Rattle.dap_frame.proofs.Common.{ap, arith, drop, drop-append-le, Frames, refl, subst, sym, vec_len, ◌++◌, ◌∙◌, ◌≡◌}
use Rattle.dap_frame.proofs.Feeding.{frames_longer}
use Rattle.dap_frame.proofs.Keeping.{kept_within}
use Rattle.dap_frame.proofs.decoder.Decoder.feed.Goals as goal

pub returns-clause-stream : goal.returns-clause-stream
returns-clause-stream c = λ stream contents before.
    let kept = c.compact-self-inside.ensures in
    let piece = c.args.piece.now in
    let passed = c.compact-self-inside.result in
    let bytes = c.compact-self-inside.new.bytes.items in
    let taken : c.extend_from_slice.new.self.items ≡ bytes ++ piece =
    c.in_ok-extend_from_slice.ensures.items ∙ ap (λ b. b ++ piece) c.reserve.ensures.items in
    let rest : c.args.self.now.rest ++ piece ≡ drop passed c.extend_from_slice.new.self.items =
    ap (λ r. r ++ piece) (sym (ap (λ s. s.rest) c.self.view_is) ∙ sym kept.rest)
    ∙ sym (drop-append-le passed bytes piece kept.there) ∙ ap (drop passed) (sym taken) in
    subst (Frames (stream ++ piece) contents) rest (frames_longer stream c.args.self.now.rest piece contents before)

pub returns-clause-room : goal.returns-clause-room
returns-clause-room c =
    let before = ap (λ s. s.room) c.self.view_is in
    let compact = c.compact-self-inside.ensures in
    let capacity = compact.capacity in
    let kept = compact.kept in
    let all = compact.removed refl in
    let reserved = c.reserve.ensures.capacity in
    let extended = c.extend_from_slice.ensures.capacity in
    let len = c.reserve.ensures.len in
    let longer = c.in_ok-extend_from_slice.ensures.len in
    let within = kept_within c.compact-self-inside.result (vec_len c.extend_from_slice.new.self) in
    omega (arith, before, capacity, kept, all, reserved, extended, len, longer, within)
