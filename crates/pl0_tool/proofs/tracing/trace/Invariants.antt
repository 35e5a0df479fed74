use Rattle.std.specs.Prelude.{◌⊎◌}
use Rattle.pl0_tool.proofs.Common.{at_position, depth_of, length, ◌+◌, ◌<◌, ◌≡◌, ◌≤◌}
use Rattle.pl0_tool.specs.Traced.{HasTable}
use Rattle.pl0_tool.proofs.tracing.trace.Given as goal

abbrev pub invariant-loop-index : goal.invariant-loop-index
invariant-loop-index g l =
    (0 < depth_of l.machine) × (l.machine ≡ at_position l.initial.machine (l.from + l.index))
    × HasTable l.initial.page.items l.from l.index (g.O.Sink.output l.initial.output) (g.O.Sink.output l.output)
    l.page.items
    × ((length l.page.items ≤ l.room) ⊎ (l.page.items ≡ l.initial.page.items))
