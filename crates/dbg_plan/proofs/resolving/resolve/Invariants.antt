use Rattle.pl0_machine.specs.Machine.{program_of}
use Rattle.dbg_plan.proofs.Lines.{Resolved}
use Rattle.dbg_plan.proofs.resolving.resolve.Given as goal

abbrev pub invariant-loop-line : goal.invariant-loop-line
invariant-loop-line l = Resolved (program_of l.unit) l.asked l.line-index l.resolutions.items l.breakpoints.items
