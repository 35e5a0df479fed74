use Rattle.dbg_plan.proofs.Said.{each_is_replaced, logs_are_said, values_are_arithmetic}
use Rattle.dbg_plan.proofs.laws.log_laws.Goals as goal

pub returns-clause-replaced : goal.returns-clause-replaced
returns-clause-replaced c = each_is_replaced

pub returns-clause-said : goal.returns-clause-said
returns-clause-said c = logs_are_said

pub returns-clause-arithmetic : goal.returns-clause-arithmetic
returns-clause-arithmetic c = values_are_arithmetic
