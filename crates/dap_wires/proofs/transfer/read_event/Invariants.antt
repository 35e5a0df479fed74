use Rattle.std.proofs.Common.{◌≡◌, length}
use Rattle.dap_wires.proofs.transfer.read_event.Given as goal

abbrev pub invariant-loop : goal.invariant-loop
invariant-loop g l =
    (g.I.GuardedSource.supply l.input ≡ g.I.GuardedSource.supply l.initial.input)
    × (length l.room ≡ 4096)
    × (l.piece ≡ l.initial.piece)
