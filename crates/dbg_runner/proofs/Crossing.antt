-- Reports and orders may go to another thread. One search for all of it would break off, so each type is a step.
use denote.Param.Send.{IsSend, IsSync, sendable}
use Rattle.std.proofs.Crossing.{crosses}
use Rattle.pl0_machine.proofs.located.LocatedExpression.TheLaws.TheKnot as located
use Rattle.pl0_tree.proofs.tree.Block.TheLaws.TheKnot as block
use Rattle.pl0_tree.proofs.tree.Expression.TheLaws.TheKnot as expression
use Rattle.pl0_tree.proofs.tree.Statement.TheLaws.TheKnot as statement
use Rattle.pl0_unit.specs.contracts.unit.Unit as Compiled
use Rattle.pl0_machine.proofs.Crossing.{machine_send}
use Rattle.pl0_machine.specs.contracts.checkpoint.Checkpoint as Checkpoint
use Rattle.dbg_plan.specs.contracts.trail.Trail as Trail
use Rattle.dbg_plan.specs.contracts.plan.Plan as Plan
use Rattle.dbg_plan.specs.contracts.debuggee.Debuggee as Debuggee
use Rattle.dbg_runner.specs.contracts.report.Report as Report
use Rattle.dbg_runner.specs.contracts.order.ConsideredDebuggee as ConsideredDebuggee
use Rattle.dbg_runner.specs.contracts.order.Order as Order

unit_send : IsSend Compiled.the_row
unit_send = search (crosses, block.crosses, expression.crosses, statement.crosses, sendable) depth 60 fits 20000

unit_sync : IsSync Compiled.the_row
unit_sync = search (crosses, block.crosses, expression.crosses, statement.crosses, sendable) depth 60 fits 20000

plan_send : IsSend Plan.the_row
plan_send = search (crosses, located.crosses, expression.crosses, sendable) depth 60 fits 20000

plan_sync : IsSync Plan.the_row
plan_sync = search (crosses, located.crosses, expression.crosses, sendable) depth 60 fits 20000

checkpoint_send : IsSend Checkpoint.the_field.row
checkpoint_send = let a = unit_send in let b = unit_sync in search (crosses, sendable) depth 60 fits 20000

trail_send : IsSend Trail.the_field.row
trail_send = let a = checkpoint_send in search (crosses, sendable) depth 60 fits 20000

debuggee_send : IsSend Debuggee.the_row
debuggee_send =
    let a = machine_send in let b = trail_send in let c = plan_send in let d = plan_sync in search (crosses, sendable)
    depth 60 fits 20000

pub report_send : IsSend Report.the_field.row
report_send =
    let a = debuggee_send in let b = unit_send in let c = unit_sync in let d = plan_send in let e = plan_sync in search
    (crosses, sendable) depth 60 fits 20000

considered_send : IsSend ConsideredDebuggee.the_field.row
considered_send = let a = debuggee_send in search (crosses, sendable) depth 60 fits 20000

pub order_send : IsSend Order.the_row
order_send = let a = considered_send in search (crosses, sendable) depth 60 fits 20000
