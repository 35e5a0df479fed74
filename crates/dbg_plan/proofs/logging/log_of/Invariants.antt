use Rattle.std.proofs.Common.{◌≡◌}
use Rattle.pl0_machine.specs.Machine.{program, frames}
use Rattle.dbg_plan.proofs.LogValues.{values_to, numbered_log}
use Rattle.dbg_plan.proofs.logging.log_of.Given as goal

abbrev pub invariant-loop-part : goal.invariant-loop-part
invariant-loop-part l =
    l.log ≡ numbered_log l.breakpoint.number
    (values_to (program l.machine) (frames l.machine) l.top l.message.parts.items l.part-index)
