-- Frames by their ids.
use Rattle.dap_inspection.proofs.Common.{Configuration, Frame, IsAlive, None, Some, [], ap, arith, cases_eq, frame_at, frame_at-below, frame_at-top, frame_by_id, inl, inr, length, refl, suc, sym, ℕ, ◌<◌, ◌∙◌, ◌∷◌, ◌≡◌, ◌≤◌}
use Rattle.std.proofs.lemmas.Grind.{common_steps}

none_above : (c : Configuration) (i : ℕ) → length c ≤ i → frame_at c i ≡ None
none_above [] i le = refl
none_above (f ∷ below) i le = frame_at-below f below i (omega arith) ∙ none_above below i (omega arith)

pub none_alive : (c : Configuration) (id : ℕ) → length c < id → frame_by_id c id ≡ None
none_alive c id lt = grind (arith, common_steps, none_above) steps 200000

pub there : (c : Configuration) (i : ℕ) → i < length c → (f : Frame) × (frame_at c i ≡ Some f)
there [] i lt = absurd (omega arith)
there (f ∷ below) i lt = elim (cases_eq (length below) i) [
  | inl same ↦ (f, frame_at-top f below i same)
  | inr other ↦ let r = there below i (omega arith) in (r.0, frame_at-below f below i other ∙ r.1)
]

-- the frame with an id is the one of the number below
pub by_id : (c : Configuration) (id i : ℕ) → IsAlive c id i → frame_by_id c id ≡ frame_at c i
by_id c id i alive = ap (frame_by_id c) (let e : id ≡ suc i = omega (arith, alive.is) in e)

pub not_none : (c : Configuration) (id i : ℕ) → IsAlive c id i → frame_by_id c id ≡ None → ⊥
not_none c id i alive none =
    let f = there c i alive.within in
    let e = sym none ∙ by_id c id i alive ∙ f.1 in cc
