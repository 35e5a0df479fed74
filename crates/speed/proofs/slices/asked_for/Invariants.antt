use Rattle.std.proofs.Common.{◌≤◌, length}
use Rattle.speed.proofs.slices.asked_for.Given as goal

abbrev pub invariant-loop-index : goal.invariant-loop-index
invariant-loop-index l = (length l.asked.items ≤ l.index) × (l.index-end ≤ 256)
