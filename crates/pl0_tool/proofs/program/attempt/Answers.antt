use Rattle.pl0_tool.proofs.FilesDone.{asked_done, unasked_told}
use Rattle.pl0_tool.proofs.program.attempt.Goals as goal

pub returns-in-Ok : goal.returns-in-Ok
returns-in-Ok g c = asked_done _ _ _ _ c.answer.result _ _ _ _ c.in-Ok.request c.in-Ok.ensures c.answer.ensures

pub returns-in-Err : goal.returns-in-Err
returns-in-Err g c =
    unasked_told _ _ _ _ c.in-Err.error c.unasked.result _ _ c.in-Err.ensures c.unasked.ensures.told
    c.unasked.ensures.memory
