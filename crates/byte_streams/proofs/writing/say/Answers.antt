use Rattle.std.proofs.Common.{◌∙◌, inr, arith}
use Rattle.std.proofs.lemmas.List.{get_or_default}
use Rattle.byte_streams.proofs.Transferring.{frames_go_on, frames_stop}
use Rattle.byte_streams.proofs.writing.say.Goals as goal

pub returns-in-Err : goal.returns-in-Err
returns-in-Err g c =
    let texts = c.args.texts.now in
    let i = c.loop-text.text-index in
    let same = c.loop-text.invariant.1 in
    let grew = c.in-Err.ensures.count in
    inr (
      frames_stop (λ text. text.now) texts i _ _ _ _ c.loop-text-test.true
          (get_or_default texts i _ _ c.loop-text-test.true) c.loop-text.invariant.0
          (rw c.as_bytes.ensures.value at c.in-Err.ensures.written),
      omega (arith, same, grew),
    )

pub loop-text-preserved : goal.loop-text-preserved
loop-text-preserved g c =
    let texts = c.args.texts.now in
    let i = c.loop-text.text-index in (
      frames_go_on (λ text. text.now) texts i _ _ _ _ c.loop-text-test.true
          (get_or_default texts i _ _ c.loop-text-test.true) c.loop-text.invariant.0
          (rw c.as_bytes.ensures.value at c.in-Ok.ensures.written),
      c.in-Ok.ensures.count ∙ c.loop-text.invariant.1,
    )
