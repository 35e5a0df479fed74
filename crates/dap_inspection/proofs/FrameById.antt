-- The scopes of the frame with an id, if it is alive.
use Rattle.dap_inspection.proofs.Common.{Block, Configuration, IsAlive, List, Scope, Subject, arith, frame_by_id, scopes_from, ℕ, ◌-◌, ◌≡◌}
use Rattle.std.proofs.Common.{Ok}
use Rattle.dap_msg.specs.declared.question.Shown.TheVariants as shown
use Rattle.dap_history.specs.Inspection.{scopes}
use Rattle.dap_inspection.proofs.AliveFrames.{by_id, there}

pub scopes_with_id : (of : Subject) (main : Block) (c : Configuration) (id i : ℕ) (found : List Scope)
    → of.program ≡ main → IsAlive c id i → found ≡ scopes_from main c i
    → Ok (shown.Scopes found) ≡ scopes of id c (frame_by_id c id)
scopes_with_id of main c id i found program alive is =
    let f = there c i alive.within in
    let number : i ≡ id - 1 = omega (arith, alive.is) in
    cc (by_id c id i alive, f.1)
