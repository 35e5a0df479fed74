use Rattle.dbg_runner.proofs.Common.{slice_limit, ◌+◌, ◌-◌, ◌≡◌}
use Rattle.dbg_runner.proofs.SliceSteps.{Underway}
use Rattle.dbg_runner.proofs.slicing.take_runs.Given as goal

abbrev pub invariant-runs : goal.invariant-runs
invariant-runs l =
    Underway l.mode l.fn.debuggee l.debuggee l.outputs × (l.limit ≡ l.fn.debuggee.position + slice_limit)

abbrev pub decreases-runs : goal.decreases-runs
decreases-runs l = l.limit - l.debuggee.position
