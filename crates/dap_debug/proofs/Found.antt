-- Identifiers and references lead back to what they were shown of.
use Rattle.std.specs.Prelude.{nat_eq}
use Rattle.std.proofs.Common.{◌≡◌, ◌<◌, ◌≤◌, ◌+◌, ◌-◌, ◌*◌, ℕ, List, arith, false, None, Some}
use Rattle.std.proofs.lemmas.Bool.{le-leb, le-ltb, lt-ltb, ne_eqb}
use Rattle.std.proofs.lemmas.Nat.{div-mul-add, mod-mul-add}
use Rattle.dap_debug.specs.Inspecting.{frame_of_reference, frame_with, index_of_reference, scope_limit, shown_frame, shown_scope, frame_limit, inside_base, number_limit, number_of_reference, reference_inside}
use Rattle.dap_debug.specs.declared.state.Counting.{Counting}
use Rattle.debuggee.specs.Shown.{PlainFrame}

frame_found : (many index : ℕ) → index < many → frame_with many (index + 1) ≡ Some index
frame_found many index inside =
    let one : 1 ≤ index + 1 = omega arith in
    let low : index + 1 ≤ many = omega (arith, inside) in
    let back : index + 1 - 1 ≡ index = omega arith in
    cc (le-leb 1 (index + 1) one, le-leb (index + 1) many low)

pub frames_found : (counting : Counting) (path : List ℕ) (many index : ℕ) (frame : PlainFrame) → index < many
    → frame_with many (shown_frame counting path index frame).id ≡ Some index
frames_found counting path many index frame inside = frame_found many index inside

pub scopes_found : (many frame index : ℕ) (name : List ℕ) → frame < many → frame < frame_limit → index < scope_limit
    → (number_of_reference (shown_scope frame index name).reference ≡ None)
    × (frame_of_reference many (shown_scope frame index name).reference ≡ Some frame)
    × (index_of_reference (shown_scope frame index name).reference ≡ index)
scopes_found many frame index name inside near few =
    let reference = frame * 16 + index + 1 in
    let low : reference ≤ inside_base = omega (arith, near, few) in
    let before : reference - 1 ≡ frame * 16 + index = omega arith in
    let some : nat_eq reference 0 ≡ false = ne_eqb reference 0 (λ none. omega (arith, none)) in (
      cc (le-ltb inside_base reference low),
      cc (div-mul-add frame 16 index few, frame_found many frame inside),
      cc (mod-mul-add frame 16 index few),
    )

pub variables_found : (number : ℕ) → number < number_limit
    → number_of_reference (reference_inside (Some number)) ≡ Some number
variables_found number few =
    let reference = inside_base + 1 + number in
    let high : inside_base < reference = omega arith in
    let back : reference - inside_base - 1 ≡ number = omega arith in
    cc (lt-ltb number number_limit few, lt-ltb inside_base reference high)
