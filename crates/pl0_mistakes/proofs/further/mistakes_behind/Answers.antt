use Rattle.std.proofs.lemmas.List.Elements.{All-weaker}
use Rattle.std.proofs.lemmas.Result.{IfOk-weaker}
use Rattle.pl0_tree.specs.Faults.{IsNameFault}
use Rattle.pl0_tree.specs.Plain.{plain_block}
use Rattle.pl0_mistakes.specs.Lines.{IsFurther, IsNameFaultIn}
use Rattle.pl0_mistakes.proofs.further.mistakes_behind.Goals as goal

pub returns-in-Ok : goal.returns-in-Ok
returns-in-Ok c =
    let main = plain_block c.in-Ok.main in
    IfOk-weaker c.mistakes_in.result _ _
    (λ mistakes are. All-weaker (IsFurther (IsNameFault main)) (IsFurther (IsNameFaultIn c.args.text.now))
    (λ m is. (is.0, (main, c.in-Ok.ensures, is.1))) mistakes.items are)
    c.mistakes_in.ensures
