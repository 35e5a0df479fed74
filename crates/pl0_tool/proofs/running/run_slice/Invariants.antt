use Rattle.pl0_tool.proofs.Common.{depth_of, Holds, lines_between, ◌<◌, ◌≤◌}
use Rattle.pl0_tool.proofs.RunLines.{Came}
use Rattle.pl0_tool.proofs.running.run_slice.Given as goal

abbrev pub invariant-numbers : goal.invariant-numbers
invariant-numbers g l =
    (0 < depth_of l.machine) × Came l.initial.machine l.machine × (l.machine.position ≤ l.limit)
    × Holds (g.O.Sink.output l.initial.output)
    (g.O.Sink.output l.output) l.pending.items
    (lines_between l.initial.machine l.machine)
