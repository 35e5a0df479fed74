use Rattle.std.proofs.Common.{◌≡◌, ◌++◌, take, option_map}
use Rattle.std.specs.Arc.{arc_value}
use Rattle.dbg_plan.specs.Plans.{breakpoints_of}
use Rattle.dap_history.specs.Replies.{log_events}
use Rattle.dap_replies.proofs.logging.push_logs.Given as goal

abbrev pub invariant-loop-log : goal.invariant-loop-log
invariant-loop-log l =
    l.events.items ≡ l.fn.events.items ++ log_events (breakpoints_of (option_map arc_value l.plan))
    (take l.log-index l.logs)
