use Rattle.dap_frame.proofs.Common.{ap, arith, vec_len}
use Rattle.dap_frame.proofs.Keeping.{kept_passed}
use Rattle.dap_frame.proofs.decoder.Decoder.pass.Goals as goal

pub returns-clause-room : goal.returns-clause-room
returns-clause-room c =
    let before = ap (λ s. s.room) c.self.view_is in
    let capacity = c.compact-self-inside.ensures.capacity in
    let kept = c.compact-self-inside.ensures.kept in
    let less = kept_passed c.self.inside.passed c.args.front.end (vec_len c.self.inside.bytes) in
    omega (arith, before, capacity, kept, less)
