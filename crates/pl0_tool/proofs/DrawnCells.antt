-- Where frames begin, as a drawing adds it up.
use Rattle.pl0_tool.proofs.TracedRows.{each-push}
use Rattle.pl0_tool.proofs.Common.{[], ap, arith, behind, Block, Configuration, Frame, frame_at, frame_at-below, frame_at-top, frame_of, frame_within, FrameView, IsHead, IsNext, IsReturn, length, List, nat_eq, None, Option, parent_of, Path, program, refl, same_Some, Shows, slice_get, Some, Standing, subst, suc, sym, variables_of, zero, ℕ, ⊎_elim, ◌++◌, ◌+◌, ◌-◌, ◌<◌, ◌∙◌, ◌∷◌, ◌≡◌, ◌≢◌}
use Rattle.std.proofs.Math.Logic.{∥∥₁_elim}
use Rattle.std.specs.Coded.{le_prop}
use Rattle.std.proofs.lemmas.Bool.{cond-true, cond-false, eq-eqb, ne_eqb, cases_eq}
use Rattle.pl0_meaning.specs.Frames.{IsLinkedTo, AreLinked}
use Rattle.pl0_machine.specs.Frames.{size, base_of}
use Rattle.pl0_tool.specs.declared.drawing.FrameHead.{FrameHead}

base_of-top : (f : Frame) (below : Configuration) (i : ℕ) → length below ≡ i → base_of (f ∷ below) i ≡ size below
base_of-top f below i e = cond-true (nat_eq (length below) i) (size below) (base_of below i) (eq-eqb (length below) i e)

base_of-below : (f : Frame) (below : Configuration) (i : ℕ) → length below ≢ i → base_of (f ∷ below) i ≡ base_of below i
base_of-below f below i ne =
    cond-false (nat_eq (length below) i) (size below) (base_of below i) (ne_eqb (length below) i ne)

-- the main block's frame begins at cell 0
pub first_base : (c : Configuration) → base_of c 0 ≡ 0
first_base [] = refl
first_base (f ∷ []) = base_of-top f [] 0 refl
first_base (f ∷ g ∷ below) = base_of-below f (g ∷ below) 0 (λ e. absurd (omega (arith, e))) ∙ first_base (g ∷ below)

-- each other frame begins where the one below it ends
pub next_base : (c : Configuration) (i : ℕ) → i + 1 < length c
    → base_of c (i + 1) ≡ base_of c i + (3 + variables_of (frame_at c i))
next_base (f ∷ g ∷ below) i lt =
    let ne : length (g ∷ below) ≢ i = λ e. absurd (omega (arith, e, lt)) in
    ⊎_elim
    (λ (same : length (g ∷ below) ≡ i + 1).
    let top : length below ≡ i = omega (arith, same) in
    omega (
      arith,
      base_of-top f (g ∷ below) (i + 1) same,
      base_of-below f (g ∷ below) i ne ∙ base_of-top g below i top,
      ap variables_of (frame_at-below f (g ∷ below) i ne ∙ frame_at-top g below i top),
    ))
    (λ (other : length (g ∷ below) ≢ i + 1). omega (
      arith,
      base_of-below f (g ∷ below) (i + 1) other,
      base_of-below f (g ∷ below) i ne,
      ap variables_of (frame_at-below f (g ∷ below) i ne),
      next_base (g ∷ below) i (omega (arith, lt, other)),
    ))
    (cases_eq (length (g ∷ below)) (i + 1))
next_base _ i lt = absurd (omega (arith, lt))

-- ---- static links

link_within : (q : Path) (link : ℕ) (below : Configuration) (i : ℕ) → length below ≡ suc i → IsLinkedTo q link below
    → link < length below
link_within [] link below i e is = absurd (omega (arith, e, ap length is))
link_within (k ∷ q) link below i e is = frame_within below link is.0 is.1

top_parent : (i p : ℕ) (f : Frame) (below : Configuration) → length below ≡ i → IsLinkedTo f.block f.link below
    → parent_of i (Some f) ≡ Some p → p < length below
top_parent zero p f below e is at = cc
top_parent (suc i) p f below e is at =
    let w = link_within f.block f.link below i e is in
    let same = same_Some f.link p at in
    omega (arith, w, same)

links_within : (main : Block) (c : Configuration) (i p : ℕ) → AreLinked main c
    → parent_of i (frame_at c i) ≡ Some p → p < length c
links_within main [] zero p links at = cc
links_within main [] (suc i) p links at = cc
links_within main (f ∷ below) i p links at =
    ⊎_elim
    (λ (same : length below ≡ i).
    let w = top_parent i p f below same links.1 (sym (ap (parent_of i) (frame_at-top f below i same)) ∙ at) in
    omega (arith, w))
    (λ other.
    let w = links_within main below i p links.2 (sym (ap (parent_of i) (frame_at-below f below i other)) ∙ at) in
    omega (arith, w))
    (cases_eq (length below) i)

-- the frame that a frame is linked to is one of those that are alive
pub parent_within : (main : Block) (c : Configuration) (i p : ℕ) → ∥ AreLinked main c ∥₁
    → parent_of i (frame_at c i) ≡ Some p → p < length c
parent_within main c i p linked at = ∥∥₁_elim linked le_prop (λ links. links_within main c i p links at)

-- ---- return addresses

pub shown_next : (main : Block) (o : Option Frame) (view : FrameView) → Shows main o view → IsNext main o view.next_step
shown_next main None view shows = absurd shows
shown_next main (Some f) view shows = shows.1

pub returned : (m : Standing) (i call address : ℕ) → i ≢ 0 → IsNext (program m) (frame_of m (i - 1)) call
    → address ≡ behind m.unit call → IsReturn m i address
returned m zero call address some next is = absurd (some refl)
returned m (suc caller) call address some next is =
    let below : suc caller - 1 ≡ caller = omega arith in
    (call, subst (λ k. IsNext (program m) (frame_of m k) call) below next, is)

-- ---- heads

-- heads are those of frames, from one on
abbrev pub TellHeads : Standing → ℕ → List FrameHead → Type 0
TellHeads m hidden heads = (i : ℕ) (head : FrameHead) → slice_get heads i ≡ Some head → IsHead m (hidden + i) head

pub head_more : (m : Standing) (hidden n : ℕ) (heads : List FrameHead) (head : FrameHead) → length heads ≡ n
    → TellHeads m hidden heads → IsHead m (hidden + n) head → TellHeads m hidden (heads ++ head ∷ [])
head_more m hidden n heads head is h here =
    each-push (λ i x. IsHead m (hidden + i) x) heads head h (subst (λ k. IsHead m (hidden + k) head) (sym is) here)
