use Rattle.std.proofs.lemmas.Result.{IfOk-weaker}
use Rattle.pl0_tool.proofs.CommandTells.{checked_mistakes, one_mistake}
use Rattle.pl0_tool.proofs.commands.lines_of_mistaken.Goals as goal

pub returns-in-Check : goal.returns-in-Check
returns-in-Check c =
    checked_mistakes c.args.task c.args.file.now c.args.text.now c.args.kind c.args.place c.mistake_lines.result
    c.in-Check.is c.mistake_lines.ensures

pub returns-in_default : goal.returns-in_default
returns-in_default c =
    IfOk-weaker c.mistake_line.result _ _
    (λ line told. one_mistake c.args.task c.args.file.now c.args.text.now c.args.kind c.args.place line.items told)
    c.mistake_line.ensures
