-- All faults of a program's names.
use Rattle.std.specs.Prelude.{ℕ, ◌≤◌, List, map, All, Contains}
use Rattle.pl0_tree.specs.declared.tree.Place.{Place}
use Rattle.pl0_tree.specs.declared.fault.FaultKind.{FaultKind}
use Rattle.pl0_tree.specs.Tokens.{Token}
use Rattle.pl0_tree.specs.Tree.{Block}
use Rattle.pl0_tree.specs.Reading.{ReadsProgram}
use Rattle.pl0_tree.specs.Faults.{IsNameFault, order}
use Rattle.pl0_tree.specs.Ascending.{Ascend}
use Rattle.pl0_names.specs.declared.check.NameFault.{NameFault}

-- a fault with its place
abbrev pub fault_at : NameFault → FaultKind × Place
fault_at f = (f.kind, f.name.now.place)

-- Each is a fault, and none is lost: where several have one place, the first in the order of kinds stands for all.
-- Where the tree was read from tokens in the order of their places, they are in the order of the text, one at a place.
pub record AreAllFaults (main : Block) (faults : List (FaultKind × Place)) : Type 0 where
  pub sound : All (λ f. IsNameFault main f.0 f.1) faults
  pub whole : (kind : FaultKind) (place : Place) → IsNameFault main kind place
      → (first : FaultKind) × Contains faults (first, place) × (order first ≤ order kind)
  pub in_order : (n : ℕ) (tokens : List Token) → ReadsProgram n tokens main → Ascend (map (λ t. t.place) tokens)
      → Ascend (map (λ f. f.1) faults)
