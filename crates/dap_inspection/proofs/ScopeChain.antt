-- The scopes of a frame, by the links.
use Rattle.dap_inspection.proofs.Common.{AreLinked, Block, Configuration, Frame, List, None, Option, Path, Scope, Some, [], ap, arith, cases_eq, frame_at, frame_at-below, frame_at-top, frame_name, frame_within, length, refl, same_Some, scopes_from, subst, suc, sym, zero, ℕ, ∥∥₁_elim, ⊎_elim, ◌++◌, ◌+◌, ◌-◌, ◌<◌, ◌∙◌, ◌∷◌, ◌≡◌, ◌≢◌, ◌≤◌}
use Rattle.std.proofs.Common.{append_assoc}
use Rattle.std.proofs.lemmas.Bool.{cond-true, cond-false, eq-eqb, ne_eqb}
use Rattle.std.specs.Coded.{le_prop}
use Rattle.pl0_meaning.specs.Frames.{IsLinkedTo}
use Rattle.pl0_meaning.proofs.Linking.{link_to}
use Rattle.pl0_machine.specs.Machine.{parent_of}
use Rattle.dap_inspection.specs.Showing.{IsScopeOf}
use Rattle.std.proofs.lemmas.Grind.{common_steps}

-- ---- the definition goes down through all frames

abbrev own_scope : Block → Frame → ℕ → Scope
own_scope main f i = record { name = frame_name main f.block; reference = i + 1 }

abbrev from_top : Block → Frame → Configuration → ℕ → List Scope
from_top main f below i = own_scope main f i ∷ scopes_from main below f.link

scopes_top : (main : Block) (f : Frame) (below : Configuration) (i : ℕ) → length below ≡ i
    → scopes_from main (f ∷ below) i ≡ from_top main f below i
scopes_top main f below i e = cond-true _ _ _ (eq-eqb _ i e)

scopes_below : (main : Block) (f : Frame) (below : Configuration) (i : ℕ) → length below ≢ i
    → scopes_from main (f ∷ below) i ≡ scopes_from main below i
scopes_below main f below i ne = cond-false _ _ _ (ne_eqb _ i ne)

-- a frame's own scope, and those of the frame that its link names
linked_scopes : (main : Block) (c : Configuration) (i : ℕ) (f : Frame) → frame_at c i ≡ Some f → f.link < i
    → scopes_from main c i ≡ from_top main f c i
linked_scopes main [] i f at lower = cc
linked_scopes main (g ∷ below) i f at lower =
    ⊎_elim
    (λ same.
    let is : g ≡ f = same_Some g f (sym (frame_at-top g below i same) ∙ at) in
    let ne : length below ≢ f.link = omega (arith, lower, same) in
    scopes_top main g below i same ∙ ap (λ h. from_top main h below i) is ∙ sym (again ne))
    (λ other.
    let at' = sym (frame_at-below g below i other) ∙ at in
    let inside = frame_within below i f at' in
    let ne : length below ≢ f.link = omega (arith, lower, inside) in
    scopes_below main g below i other ∙ linked_scopes main below i f at' lower ∙ sym (again ne))
    (cases_eq (length below) i)
  where
    again : length below ≢ f.link → from_top main f (g ∷ below) i ≡ from_top main f below i
    again ne = ap (λ s. own_scope main f i ∷ s) (scopes_below main g below f.link ne)

-- the main block's frame has its own alone
lowest_scopes : (main : Block) (c : Configuration) (f : Frame) → frame_at c 0 ≡ Some f
    → scopes_from main c 0 ≡ own_scope main f 0 ∷ []
lowest_scopes main (g ∷ h ∷ below) f at =
    let ne : length (h ∷ below) ≢ 0 = omega arith in
    scopes_below main g (h ∷ below) 0 ne ∙ lowest_scopes main (h ∷ below) f
    (sym (frame_at-below g (h ∷ below) 0 ne) ∙ at)
lowest_scopes main c f at = grind (arith, common_steps, same_Some) steps 200000

-- ---- links lead down

-- a frame above the lowest is of a block in another
nested : (main : Block) (c : Configuration) (i : ℕ) (f : Frame) → AreLinked main c → frame_at c (suc i) ≡ Some f
    → (k : ℕ) × (q : Path) × (f.block ≡ k ∷ q)
nested main [] i f linked at = cc
nested main (g ∷ below) i f linked at =
    ⊎_elim
    (λ same.
    let is : g ≡ f = same_Some g f (sym (frame_at-top g below (suc i) same) ∙ at) in
    top f.block refl (subst (λ (h : Frame). IsLinkedTo h.block h.link below) is linked.1) same)
    (λ other. nested main below i f linked.2 (sym (frame_at-below g below (suc i) other) ∙ at))
    (cases_eq (length below) (suc i))
  where
    none : length below ≡ 0 → length below ≡ suc i → ⊥
    none a b = omega (arith, a, b)

    top : (p : Path) → f.block ≡ p → IsLinkedTo f.block f.link below → length below ≡ suc i → (k : ℕ) × (q : Path)
        × (f.block ≡ k ∷ q)
    top [] e link same = absurd (none (ap length (subst (λ p. IsLinkedTo p f.link below) e link)) same)
    top (k ∷ q) e link same = (k, q, e)

lower : (main : Block) (c : Configuration) (i : ℕ) (f : Frame) → ∥ AreLinked main c ∥₁ → frame_at c (suc i) ≡ Some f
    → f.link ≤ i
lower main c i f linked at = ∥∥₁_elim linked le_prop (λ l. down l (nested main c i f l at))
  where
    down : AreLinked main c → (k : ℕ) × (q : Path) × (f.block ≡ k ∷ q) → f.link ≤ i
    down l n = let lt = (link_to main c (suc i) n.0 f n.1 l at n.2).lower in omega (arith, lt)

-- ---- a walk along the links

-- the scopes that are left
abbrev pub rest_from : Block → Configuration → Option ℕ → List Scope
rest_from main c None = []
rest_from main c (Some i) = scopes_from main c i

-- how many they are at most
abbrev pub left_of : Option ℕ → ℕ
left_of None = 0
left_of (Some i) = i + 1

-- one link leads from frame i, whose scope this is, to the next
pub record LinksTo (main : Block) (c : Configuration) (i : ℕ) (scope : Scope) (next : Option ℕ) : Type 0 where
  pub scopes : scopes_from main c i ≡ scope ∷ rest_from main c next
  pub fewer : left_of next ≤ i

pub leads : (main : Block) (c : Configuration) (i : ℕ) (scope : Scope) (next : Option ℕ) → ∥ AreLinked main c ∥₁ →
    IsScopeOf main (frame_at c (i + 1 - 1)) (i + 1) scope → next ≡ parent_of i (frame_at c i)
    → LinksTo main c i scope next
leads main c i scope next linked is parent =
    let same : i + 1 - 1 ≡ i = omega arith in
    frame i (frame_at c i) refl (subst (λ n. IsScopeOf main (frame_at c n) (i + 1) scope) same is) parent
  where
    frame : (i : ℕ) (o : Option Frame) → frame_at c i ≡ o → IsScopeOf main o (i + 1) scope → next ≡ parent_of i o
        → LinksTo main c i scope next
    frame i None at is parent = absurd is
    frame zero (Some f) at is parent =
        record { scopes = cc (lowest_scopes main c f at); fewer = omega (arith, ap left_of parent) }
    frame (suc i) (Some f) at is parent =
        let down = lower main c i f linked at in
        record {
          scopes = cc (linked_scopes main c (suc i) f at (omega (arith, down)));
          fewer =
              omega (arith, down, ap left_of parent);
        }

pub walked : (main : Block) (c : Configuration) (i : ℕ) (scope : Scope) (here next : Option ℕ) (found all : List Scope)
    → LinksTo main c i scope next → here ≡ Some i →
    found ++ rest_from main c here ≡ all → (found ++ scope ∷ []) ++ rest_from main c next ≡ all
walked main c i scope here next found all one is before = cc (append_assoc found _ _, one.scopes)
