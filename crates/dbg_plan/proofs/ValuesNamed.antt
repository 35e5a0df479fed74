-- A name that was looked up for a frame's block has its number in that frame.
use Rattle.std.proofs.Common.{◌≡◌, ℕ, ◌<◌, List, length, slice_get, Option, Some, None, IsSome, Result, Ok, ℤ, refl, sym, ap, subst, ◌∙◌}
use Rattle.std.proofs.Math.Logic.{∥∥₁_elim}
use Rattle.std.specs.Coded.{Coded, Coded-set, codes, ×_prop}
use Rattle.std.proofs.lemmas.Option.{slice_get_within}
use Rattle.pl0_tree.specs.Tree.{Block}
use Rattle.pl0_tree.specs.Scope.{Path, home}
use Rattle.pl0_tree.specs.Steps.{blocks}
use Rattle.pl0_meaning.specs.contracts.RunFault as run_fault
use Rattle.pl0_meaning.specs.declared.RunFault.{RunFault}
use Rattle.pl0_meaning.specs.Frames.{AreLinked}
use Rattle.pl0_meaning.specs.Values.{Frame, Configuration, frame_at, or_zero, name_number}
use Rattle.pl0_machine.specs.declared.outcome.FrameView.{FrameView}
use Rattle.pl0_machine.specs.Machine.{Shows, number_up}
use Rattle.dbg_plan.specs.declared.binding.Located.{Located}
use Rattle.dbg_plan.specs.declared.binding.Located.TheVariants as at
use Rattle.dbg_plan.specs.Bound.{IsNameBound}
use Rattle.pl0_machine.specs.LocatedValues.{located_value}
use Rattle.dbg_plan.specs.Reads.{bound_of}
use Rattle.dbg_plan.proofs.ValuesBound.{Reads, name_reads}
use Rattle.dbg_plan.proofs.ValuesMet.{CanRead-prop}

-- ---- the frame's block

pub block_within : (main : Block) (o : Option Frame) (view : FrameView) → Shows main o view
    → view.block < length (blocks main)
block_within main None view shows = absurd shows
block_within main (Some f) view shows = slice_get_within (blocks main) view.block f.block shows.0

coded_number : Coded (Result ℤ RunFault)
coded_number = hlevel (codes, run_fault.the_row.coded)

-- what was looked up for the frame's block can be read, and is the name's number
pub located_reads : (main : Block) (c : Configuration) (i : ℕ) (view : FrameView) (x : List ℕ) (l : Located)
    → ∥ AreLinked main c ∥₁ → Shows main (frame_at c i) view →
    ((q : Path) → slice_get (blocks main) view.block ≡ Some q → IsNameBound main q (home main q x) (bound_of l))
    → Reads c i (bound_of l) (or_zero (name_number main c i x))
located_reads main c i view x l linked shows is =
    ∥∥₁_elim linked (×_prop (CanRead-prop c i (bound_of l)) (Coded-set coded_number _ _))
    (λ links. in_frame links (frame_at c i) refl shows)
  where
    in_frame : AreLinked main c → (o : Option Frame) → frame_at c i ≡ o → Shows main o view
        → Reads c i (bound_of l) (or_zero (name_number main c i x))
    in_frame links None at shows = absurd shows
    in_frame links (Some f) at shows = name_reads main c i f links at x (bound_of l) (is f.block shows.0)

-- ---- by what was looked up

same_ok : (v w : ℤ) → ◌≡◌ {A = Result ℤ RunFault} (Ok v) (Ok w) → v ≡ w
same_ok v w e = cc

pub number_is : (c : Configuration) (i : ℕ) (l : Located) (n v : ℤ) → l ≡ at.Number n → Reads c i (bound_of l) v → n ≡ v
number_is c i l n v is r = same_ok n v (ap (λ (m : Located). located_value c i (bound_of m)) (sym is) ∙ r.1)

pub variable_up : (c : Configuration) (i : ℕ) (l : Located) (level k : ℕ) (v : ℤ) → l ≡ at.Variable level k
    → Reads c i (bound_of l) v → IsSome (number_up c level k i)
variable_up c i l level k v is r =
    let s : Reads c i (bound_of (at.Variable level k)) v = subst (λ m. Reads c i (bound_of m) v) is r in s.0

pub variable_is : (c : Configuration) (i : ℕ) (l : Located) (level k : ℕ) (n v : ℤ) → l ≡ at.Variable level k
    → Reads c i (bound_of l) v → number_up c level k i ≡ Some n → n ≡ v
variable_is c i l level k n v is r up = same_ok n v (cc r.1)
