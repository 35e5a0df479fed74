use Rattle.std.proofs.lemmas.Result.{IfErr-weaker}
use Rattle.pl0_syntax.proofs.Common.{handed_on, rules}
use Rattle.pl0_syntax.proofs.Joining.{long_first, token_first, name_first}
use Rattle.pl0_syntax.proofs.parsing.read_program.Goals as goal

pub returns-in_err-tokens-clause-fault : goal.returns-in_err-tokens-clause-fault
returns-in_err-tokens-clause-fault c =
    handed_on _ _ _ c.from_residual.ensures.1 (long_first _ _ _ _ c.in_err-tokens.ensures.long)

pub returns-in_err-program-clause-fault : goal.returns-in_err-program-clause-fault
returns-in_err-program-clause-fault c =
    handed_on _ _ _ c.from_residual-in_err-program.ensures.1
    (token_first _ _ _ _ (c.in_ok-tokens.ensures.short (search rules)) c.in_ok-tokens.ensures.tokens _
    (rw c.as_slice.ensures.value at c.in_err-program.ensures.fault))

pub returns-clause-fault : goal.returns-clause-fault
returns-clause-fault c =
    IfErr-weaker c.judged.result _ _
    (λ fault is. name_first _ _ _ _ (c.in_ok-tokens.ensures.short (search rules)) c.in_ok-tokens.ensures.tokens _ fault
    c.in_ok-tokens.ensures.in_order (rw c.as_slice.ensures.value at c.in_ok-program.ensures.reads) is)
    c.judged.ensures.fault
