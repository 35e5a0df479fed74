use Rattle.std.proofs.lemmas.Result.{IfOk-weaker}
use Rattle.pl0_mistakes.specs.Found.{token_at, token_before}
use Rattle.pl0_mistakes.specs.Sentences.{IsMistakeSentence}
use Rattle.pl0_mistakes.specs.Written.{bytes_of}
use Rattle.pl0_mistakes.proofs.Told.{at_place}
use Rattle.pl0_mistakes.proofs.lines.mistake_line.Goals as goal

pub returns : goal.returns
returns c =
    let place = c.args.place in
    let text = c.args.text.now in
    let sentence = bytes_of c.sentence_for-sentence.result in
    let tells : IsMistakeSentence (token_at place text) (token_before place text) c.args.kind sentence =
    at_place _ _ _ _ sentence c.args.kind c.token_at.ensures c.scene_at.ensures c.sentence_for-sentence.ensures in
    IfOk-weaker c.error_line.result _ _ (λ line is. (sentence, tells, is)) c.error_line.ensures
