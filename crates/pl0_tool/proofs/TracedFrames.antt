-- The tables of a unit, as a trace reads them: steps by their numbers, and how many variables a frame has.
use Rattle.std.proofs.Common.{◌≡◌, ℕ, zero, suc, ◌<◌, List, [], ◌∷◌, length, get_or, slice_get, Option, None, Some, refl, sym, ◌∙◌, ap, subst}
use Rattle.std.specs.Prelude.{option_map, option_and_then}
use Rattle.std.proofs.Math.Logic.{∥∥₁_elim}
use Rattle.std.proofs.Math.Nat.{ℕ_set}
use Rattle.std.proofs.lemmas.List.{length-map}
use Rattle.std.proofs.lemmas.Option.{slice_get-get_or}
use Rattle.pl0_tree.specs.Tree.{Block, Name, variables}
use Rattle.pl0_tree.specs.Plain.{plain_name, plain_block}
use Rattle.pl0_tree.proofs.PlainParts.{plain_block_parts}
use Rattle.pl0_tree.specs.declared.tree.Block.{Block as DeclaredBlock, out-Block}
use Rattle.pl0_tree.specs.declared.tree.Place.{Place}
use Rattle.pl0_tree.specs.declared.step.Step.{Step}
use Rattle.pl0_tree.specs.declared.step.StepKind.{StepKind}
use Rattle.pl0_tree.specs.Scope.{Path, block_at}
use Rattle.pl0_tree.specs.Steps.{StepAt, steps, blocks, AreSteps}
use Rattle.pl0_tree.specs.Blocks.{AreNestings}
use Rattle.pl0_syntax.proofs.StepBlocks.{number_within}
use Rattle.pl0_syntax.proofs.Tables.{steps_prop, nestings_prop}
use Rattle.pl0_meaning.specs.Values.{Frame, Configuration, frame_at, next_step}
use Rattle.pl0_meaning.specs.Frames.{AreLinked}
use Rattle.pl0_meaning.proofs.Linking.{frame_of}
use Rattle.pl0_unit.specs.declared.unit.Unit.{Unit as Compiled}
use Rattle.pl0_machine.specs.declared.outcome.FrameView.{FrameView}
use Rattle.pl0_machine.specs.Machine.{program_of, IsNext, Shows, variables_of}

-- ---- steps

unit_steps : (u : Compiled) → AreSteps (program_of u) u.steps.items (steps (program_of u))
unit_steps u = ∥∥₁_elim u.compiled (steps_prop (program_of u) u.steps.items (steps (program_of u))) (λ h. h.steps)

same_length : (main : Block) (ss : List Step) (ts : List StepAt) → AreSteps main ss ts → length ss ≡ length ts
same_length main [] [] are = refl
same_length main [] (t ∷ ts) are = absurd are
same_length main (s ∷ ss) [] are = absurd are
same_length main (s ∷ ss) (t ∷ ts) are = ap suc (same_length main ss ts are.1)

same_places : (main : Block) (ss : List Step) (ts : List StepAt) → AreSteps main ss ts → (n : ℕ) →
    option_map (λ (s : Step). s.place) (slice_get ss n) ≡ option_map (λ (t : StepAt). t.place) (slice_get ts n)
same_places main [] [] are n = refl
same_places main [] (t ∷ ts) are n = absurd are
same_places main (s ∷ ss) [] are n = absurd are
same_places main (s ∷ ss) (t ∷ ts) are zero = ap (λ (p : Place). Some p) are.0.place
same_places main (s ∷ ss) (t ∷ ts) are (suc n) = same_places main ss ts are.1 n

same_kinds : (main : Block) (ss : List Step) (ts : List StepAt) → AreSteps main ss ts → (n : ℕ) →
    option_map (λ (s : Step). s.kind) (slice_get ss n) ≡ option_map (λ (t : StepAt). t.kind) (slice_get ts n)
same_kinds main [] [] are n = refl
same_kinds main [] (t ∷ ts) are n = absurd are
same_kinds main (s ∷ ss) [] are n = absurd are
same_kinds main (s ∷ ss) (t ∷ ts) are zero = ap (λ (k : StepKind). Some k) are.0.kind
same_kinds main (s ∷ ss) (t ∷ ts) are (suc n) = same_kinds main ss ts are.1 n

before : (main : Block) (o : Option Frame) (n : ℕ) → IsNext main o n
    → slice_get (steps main) n ≡ option_and_then (next_step main) o
before main None n is = absurd is
before main (Some f) n is = is.next

pub next_within : (u : Compiled) (o : Option Frame) (n : ℕ) → IsNext (program_of u) o n → n < length u.steps.items
next_within u None n is = absurd is
next_within u (Some f) n is =
    subst (λ k. n < k) (sym (same_length (program_of u) u.steps.items (steps (program_of u)) (unit_steps u))) is.within

-- the step of a unit with this number
there : (u : Compiled) (o : Option Frame) (n : ℕ) (s : Step) → IsNext (program_of u) o n
    → s ≡ get_or u.steps.items n s
    → slice_get u.steps.items n ≡ Some s
there u o n s is at =
    slice_get-get_or u.steps.items n s (next_within u o n is) ∙ ap (λ t. Some t) (sym at)

-- the place of a frame's next step
abbrev pub IsPlaceOf : Compiled → Option Frame → Place → Type 0
IsPlaceOf u o place =
    option_map (λ (t : StepAt). t.place) (option_and_then (next_step (program_of u)) o) ≡ Some place

-- its kind
abbrev pub IsKindOf : Compiled → Option Frame → StepKind → Type 0
IsKindOf u o kind = option_map (λ (t : StepAt). t.kind) (option_and_then (next_step (program_of u)) o) ≡ Some kind

pub next_place : (u : Compiled) (o : Option Frame) (n : ℕ) (s : Step) → IsNext (program_of u) o n
    → s ≡ get_or u.steps.items n s
    → IsPlaceOf u o s.place
next_place u o n s is at =
    ap (option_map (λ (t : StepAt). t.place)) (sym (before (program_of u) o n is))
    ∙ sym (same_places (program_of u) u.steps.items (steps (program_of u)) (unit_steps u) n)
    ∙ ap (option_map (λ (t : Step). t.place)) (there u o n s is at)

pub next_kind : (u : Compiled) (o : Option Frame) (n : ℕ) (s : Step) → IsNext (program_of u) o n
    → s ≡ get_or u.steps.items n s
    → IsKindOf u o s.kind
next_kind u o n s is at =
    ap (option_map (λ (t : StepAt). t.kind)) (sym (before (program_of u) o n is))
    ∙ sym (same_kinds (program_of u) u.steps.items (steps (program_of u)) (unit_steps u) n)
    ∙ ap (option_map (λ (t : Step). t.kind)) (there u o n s is at)

-- ---- blocks

pub unit_nestings : (u : Compiled) → AreNestings (program_of u) u.nestings.items (blocks (program_of u))
unit_nestings u = ∥∥₁_elim u.nested (nestings_prop (program_of u) u.nestings.items (blocks (program_of u))) (λ h. h)

-- the number of a frame's block is one of the table
pub block_within : (u : Compiled) (o : Option Frame) (view : FrameView) → Shows (program_of u) o view
    → view.block < length u.nestings.items
block_within u None view shows = absurd shows
block_within u (Some f) view shows =
    number_within (program_of u) u.nestings.items view.block f.block (unit_nestings u) shows.0

-- ---- variables

abbrev names_of : Option Block → List Name
names_of None = []
names_of (Some b) = variables b

-- a frame has as many numbers as the block that it shows has variables
pub count_is : (main : Block) (c : Configuration) (i : ℕ) (view : FrameView) (b : DeclaredBlock)
    → ∥ AreLinked main c ∥₁
    → Shows main (frame_at c i) view
    → ((q : Path) → slice_get (blocks main) view.block ≡ Some q → block_at main q ≡ Some (plain_block b))
    → length (out-Block b).variables.items ≡ variables_of (frame_at c i)
count_is main c i view b linked shows is = by_frame (frame_at c i) refl shows
  where
    by_frame : (o : Option Frame) → frame_at c i ≡ o → Shows main o view
        → length (out-Block b).variables.items ≡ variables_of o
    by_frame None at shows = absurd shows
    by_frame (Some f) at shows =
        ∥∥₁_elim linked (ℕ_set _ _) (λ links.
        let frame = frame_of main c i f links at in
        sym (length-map (out-Block b).variables.items plain_name)
        ∙ sym (ap length (ap variables (plain_block_parts b)))
        ∙ ap (λ o. length (names_of o)) (sym (is f.block shows.0) ∙ frame.found)
        ∙ sym frame.count)
