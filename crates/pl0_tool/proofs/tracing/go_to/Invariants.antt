use Rattle.pl0_tool.proofs.Common.{depth_of, ◌<◌, ◌≤◌}
use Rattle.pl0_tool.proofs.RunLines.{Came}
use Rattle.pl0_tool.proofs.tracing.go_to.Given as goal

abbrev pub invariant-numbers : goal.invariant-numbers
invariant-numbers g l =
    (0 < depth_of l.machine) × (l.machine.position ≤ l.fn.position) × Came l.initial.machine l.machine
