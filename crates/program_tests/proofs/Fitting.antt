-- A variable of a frame's block, as the unit's tables show the block, is one of the frame's.
use Rattle.std.proofs.Common.{◌≡◌, ℕ, ◌<◌, List, [], ◌∷◌, length, slice_get, Option, Some, None, refl, sym, ap, ◌∙◌, arith}
use Rattle.std.proofs.Math.Logic.{∥∥₁_elim}
use Rattle.std.specs.Coded.{le_prop}
use Rattle.std.proofs.lemmas.List.{length-map}
use Rattle.std.proofs.lemmas.Option.{same_Some, slice_get_within}
use Rattle.pl0_tree.specs.declared.tree.Block.{Block as DeclaredBlock, out-Block}
use Rattle.pl0_tree.specs.declared.nesting.Nesting.{Nesting}
use Rattle.pl0_tree.specs.Tree.{Block, variables}
use Rattle.pl0_tree.specs.Plain.{plain_block, plain_name}
use Rattle.pl0_tree.proofs.PlainParts.{plain_variables}
use Rattle.pl0_tree.specs.Scope.{Path, block_at}
use Rattle.pl0_tree.specs.Steps.{blocks}
use Rattle.pl0_tree.specs.Blocks.{AreNestings}
use Rattle.pl0_meaning.specs.Values.{Frame, Configuration, frame_at}
use Rattle.pl0_meaning.specs.Frames.{AreLinked}
use Rattle.pl0_meaning.proofs.Linking.{frame_of}
use Rattle.pl0_unit.specs.declared.unit.Unit.{Unit as Compiled}
use Rattle.pl0_machine.specs.declared.outcome.FrameView.{FrameView}
use Rattle.pl0_machine.specs.Machine.{program_of, Shows, variables_of}
use Rattle.pl0_syntax.proofs.Tables.{nestings_prop}

pub unit_nestings : (u : Compiled) → AreNestings (program_of u) u.nestings.items (blocks (program_of u))
unit_nestings u = ∥∥₁_elim u.nested (nestings_prop (program_of u) u.nestings.items (blocks (program_of u))) (λ h. h)

as_many : (main : Block) (table : List (Option Nesting)) (paths : List Path) → AreNestings main table paths
    → length table ≡ length paths
as_many main [] [] h = refl
as_many main [] (q ∷ qs) h = absurd h
as_many main (n ∷ ns) [] h = absurd h
as_many main (n ∷ ns) (q ∷ qs) h = let more = as_many main ns qs h.1 in omega (arith, more)

pub known_block : (main : Block) (table : List (Option Nesting)) (o : Option Frame) (view : FrameView)
    → AreNestings main table (blocks main) → Shows main o view → view.block < length table
known_block main table None view are shows = absurd shows
known_block main table (Some f) view are shows =
    let w = slice_get_within (blocks main) view.block f.block shows.0 in
    let n = as_many main table (blocks main) are in
    omega (arith, w, n)

variable_count : (b : DeclaredBlock) → length (variables (plain_block b)) ≡ length (out-Block b).variables.items
variable_count b = ap length (plain_variables b) ∙ length-map (out-Block b).variables.items plain_name

pub has_variable : (main : Block) (b : DeclaredBlock) (c : Configuration) (i : ℕ) (view : FrameView) (k : ℕ)
    → ∥ AreLinked main c ∥₁ → Shows main (frame_at c i) view →
    ((q : Path) → slice_get (blocks main) view.block ≡ Some q → block_at main q ≡ Some (plain_block b))
    → k < length (out-Block b).variables.items → k < variables_of (frame_at c i)
has_variable main b c i view k linked shows is lt =
    ∥∥₁_elim linked le_prop (λ links. in_frame links (frame_at c i) refl shows)
  where
    in_frame : AreLinked main c → (o : Option Frame) → frame_at c i ≡ o → Shows main o view → k < variables_of o
    in_frame links None at shows = absurd shows
    in_frame links (Some f) at shows =
        let r = frame_of main c i f links at in
        let same = same_Some (plain_block b) r.block (sym (is f.block shows.0) ∙ r.found) in
        let count = r.count in
        let these = ap (λ x. length (variables x)) same in
        let those = variable_count b in
        omega (arith, lt, count, these, those)
