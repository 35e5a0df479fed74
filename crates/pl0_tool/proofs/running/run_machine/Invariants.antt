use Rattle.pl0_tool.proofs.Common.{depth_of, lines_between, WritesAll, [], ◌<◌, ◌≡◌, ◌≤◌}
use Rattle.pl0_tool.proofs.RunLines.{Came}
use Rattle.pl0_tool.proofs.running.run_machine.Given as goal

abbrev pub invariant-slices : goal.invariant-slices
invariant-slices g l =
    (0 < depth_of l.machine) × Came l.initial.machine l.machine × (l.pending.items ≡ [])
    × WritesAll (lines_between l.initial.machine l.machine)
    (g.O.Sink.output l.initial.output)
    (g.O.Sink.output l.output)
    × (l.machine.position ≤ l.limit)
