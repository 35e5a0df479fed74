use Rattle.std.proofs.lemmas.Result.{IfOk-weaker}
use Rattle.pl0_names.proofs.Common.{AreAllFaults, plain_block, subst, sym}
use Rattle.pl0_names.proofs.First.{all_faults}
use Rattle.pl0_names.proofs.check.name_faults.Goals as goal

pub returns : goal.returns
returns c =
    let main = plain_block c.args.main.now in
    IfOk-weaker c.walk_over.result _ _
    (λ found is. subst (AreAllFaults main) (sym is) (all_faults main))
    c.walk_over.ensures
