use Rattle.pl0_tree.specs.declared.fault.FaultKind.TheVariants.{NotAscii, BadCharacter, Twice, Unknown, TooEarly}
use Rattle.pl0_mistakes.specs.Written.{hinted}
use Rattle.pl0_mistakes.proofs.Told.{told, of_kind}
use Rattle.pl0_mistakes.proofs.sentences.sentence_for.Goals as goal

pub returns-in-NotAscii : goal.returns-in-NotAscii
returns-in-NotAscii c =
    let hint = c.hint_for.result in
    of_kind c.args.token.now c.args.scene.past.last.bytes.now _ _
    NotAscii c.in-NotAscii.is (hinted hint, told hint, c.plain-in-NotAscii.ensures)

pub returns-in-BadCharacter : goal.returns-in-BadCharacter
returns-in-BadCharacter c =
    let hint = c.hint_for-in-BadCharacter.result in
    of_kind c.args.token.now c.args.scene.past.last.bytes.now _ _
    BadCharacter c.in-BadCharacter.is (hinted hint, told hint, c.plain-in-BadCharacter.ensures)

pub returns-in-Twice : goal.returns-in-Twice
returns-in-Twice c = of_kind c.args.token.now c.args.scene.past.last.bytes.now _ _
    Twice c.in-Twice.is c.quoted.ensures

pub returns-in-Unknown : goal.returns-in-Unknown
returns-in-Unknown c =
    let hint = c.hint_for-in-Unknown.result in
    of_kind c.args.token.now c.args.scene.past.last.bytes.now _ _
    Unknown c.in-Unknown.is (hinted hint, told hint, c.quoted-in-Unknown.ensures)

pub returns-in-TooEarly : goal.returns-in-TooEarly
returns-in-TooEarly c = of_kind c.args.token.now c.args.scene.past.last.bytes.now _ _
    TooEarly c.in-TooEarly.is c.quoted-in-TooEarly.ensures
