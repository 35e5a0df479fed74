use Rattle.std.proofs.Common.{◌≡◌, ◌≤◌, ◌++◌, length}
use Rattle.pl0_machine.specs.Machine.{program, frames}
use Rattle.dap_history.specs.Frames.{scopes_from}
use Rattle.dap_inspection.proofs.ScopeChain.{rest_from, left_of}
use Rattle.dap_inspection.proofs.scopes.scope_chain.Given as goal

-- what is left follows what was found, and is of a frame that is alive
abbrev pub invariant-loop-next : goal.invariant-loop-next
invariant-loop-next l =
    let main = program l.machine in
    let c = frames l.machine in
    (l.scopes.items ++ rest_from main c l.next ≡ scopes_from main c l.fn.frame) × (left_of l.next ≤ length c)

abbrev pub decreases-loop-next : goal.decreases-loop-next
decreases-loop-next l = left_of l.next
