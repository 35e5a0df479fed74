use Rattle.pl0_tree.proofs.SharedLemmas.{handed_on}
use Rattle.pl0_parser.proofs.Common.{ending, left_of, RefusedAll}
use Rattle.pl0_parser.proofs.Progress.{stays_all, fails}
use Rattle.pl0_parser.proofs.Statements.{marked}
use Rattle.pl0_parser.proofs.text.expect_end.Goals as goal

pub returns-in_err-rest-clause-fault : goal.returns-in_err-rest-clause-fault
returns-in_err-rest-clause-fault c =
    let tokens = left_of c.args.tokens in
    handed_on (RefusedAll ending tokens) c.from_residual.result c.in_err-rest.field-0.0 c.from_residual.ensures.1
    (fails c.in_err-rest.field-0.0 (stays_all {wanted = ending} {tokens = tokens}) c.in_err-rest.ensures)

pub returns-in_err-finish-clause-fault : goal.returns-in_err-finish-clause-fault
returns-in_err-finish-clause-fault c =
    let tokens = left_of c.args.tokens in
    handed_on _ _ _ c.from_residual-in_err-finish.ensures.1 (fails _ (marked {rest = left_of c.in_ok-rest.rest}
    (stays_all {wanted = ending} {tokens = tokens}) c.in_ok-rest.ensures) c.in_err-finish.ensures)
