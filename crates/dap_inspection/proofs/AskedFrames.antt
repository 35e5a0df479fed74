-- The frames asked for, one by one.
use Rattle.dap_inspection.proofs.Common.{Block, Configuration, Counting, Frame, IsShownAs, List, None, Option, Some, StackFrame, [], ap, arith, cases_eq, frame_at, frame_at-below, frame_at-top, frame_within, get_or, length, refl, same_Some, suc, sym, take, ℕ, ⊎_elim, ◌++◌, ◌+◌, ◌-◌, ◌<◌, ◌∙◌, ◌∷◌, ◌≡◌}
use Rattle.std.proofs.Common.{drop}
use Rattle.std.proofs.lemmas.List.{take_more, take_all, take_min, get_or-drop, length-drop}
use Rattle.dap_history.specs.Frames.{shown_frame, shown_frames, at_most}
use Rattle.dap_inspection.specs.Showing.{count_shown}
use Rattle.std.proofs.lemmas.Grind.{common_steps}

-- frame i stands at this index from the top
shown_at : (main : Block) (counting : Counting) (c : Configuration) (i : ℕ) (f : Frame) (d : StackFrame)
    → frame_at c i ≡ Some f →
    get_or (shown_frames main counting c) (length c - suc i) d ≡ shown_frame main counting f (i + 1)
shown_at main counting [] i f d at = cc
shown_at main counting (g ∷ below) i f d at =
    ⊎_elim
    (λ same.
    let is : g ≡ f = same_Some g f (sym (frame_at-top g below i same) ∙ at) in
    let first : length (g ∷ below) - suc i ≡ 0 = omega (arith, same) in
    cc)
    (λ other.
    let at' = sym (frame_at-below g below i other)
    ∙ at in
    let inside = frame_within below i f at' in
    let later : length (g ∷ below) - suc i ≡ suc (length below - suc i) = omega (arith, inside) in
    cc (shown_at main counting below i f d at'))
    (cases_eq (length below) i)

-- those that are left after the first `start`
abbrev pub rest_of : Block → Counting → Configuration → ℕ → List StackFrame
rest_of main counting c start = drop start (shown_frames main counting c)

rest_length : (main : Block) (counting : Counting) (c : Configuration) (start : ℕ)
    → length (rest_of main counting c start) ≡ length c - start
rest_length main counting c start = length-drop start (shown_frames main counting c) ∙ ap (λ n. n - start) (all c)
  where
    all : (c : Configuration) → length (shown_frames main counting c) ≡ length c
    all [] = refl
    all (f ∷ below) = ap suc (all below)

-- one more of them
pub one_more : (main : Block) (counting : Counting) (c : Configuration) (start left index : ℕ) (shown : List StackFrame)
    (s : StackFrame) →
    left ≡ length c - start → index < left → IsShownAs main counting (frame_at c (left - index - 1)) (left - index) s →
    shown ≡ take index (rest_of main counting c start) → shown ++ s
    ∷ [] ≡ take (index + 1) (rest_of main counting c start)
one_more main counting c start left index shown s lefts lt is before =
    let rest = rest_of main counting c start in
    let there : index < length rest = omega (arith, rest_length main counting c start, lefts, lt) in
    cc (next (frame_at c (left - index - 1)) refl is, take_more rest index s there)
  where
    next : (o : Option Frame) → frame_at c (left - index - 1) ≡ o → IsShownAs main counting o (left - index) s →
        get_or (rest_of main counting c start) index s ≡ s
    next None at is = absurd is
    next (Some f) at is =
        let all = shown_frames main counting c in
        let i = left - index - 1 in
        let place : start + index ≡ length c - suc i = omega (arith, lefts, lt) in
        let id : i + 1 ≡ left - index = omega (arith, lt) in
        get_or-drop start all index s
        ∙ ap (λ n. get_or all n s) place
        ∙ shown_at main counting c i f s at
        ∙ ap (λ n. shown_frame main counting f n) id
        ∙ sym is

-- as many as are asked for
pub all_asked : (main : Block) (counting : Counting) (c : Configuration) (start levels left : ℕ)
    → left ≡ length c - start →
    take (count_shown levels left) (rest_of main counting c start) ≡ at_most levels (rest_of main counting c start)
all_asked main counting c start levels left lefts =
    grind (arith, common_steps, rest_length, take_all, take_min)
