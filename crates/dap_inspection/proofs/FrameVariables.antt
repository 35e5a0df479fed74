-- The variables of a frame.
use Rattle.dap_inspection.proofs.Common.{AreLinked, Block, Configuration, Frame, FrameView, IsAlive, List, None, Option, Path, Shows, Some, Subject, [], ap, arith, blocks, frame_at, frame_by_id, get_or, length, refl, slice_get, suc, sym, take, ℕ, ℤ, ∥∥₁_elim, ◌++◌, ◌+◌, ◌<◌, ◌∙◌, ◌∷◌, ◌≡◌}
use Rattle.std.proofs.Common.{map, Ok}
use Rattle.std.proofs.Math.Nat.{ℕ_set}
use Rattle.std.proofs.lemmas.List.{length-map}
use Rattle.pl0_tree.specs.Tree.{variables}
use Rattle.pl0_tree.specs.Plain.{plain_name, plain_block}
use Rattle.pl0_tree.proofs.PlainParts.{plain_block_parts}
use Rattle.pl0_tree.specs.declared.tree.Block.{Block as DeclaredBlock, out-Block}
use Rattle.pl0_tree.specs.declared.tree.Name.{Name as DeclaredName}
use Rattle.pl0_tree.specs.Scope.{block_at}
use Rattle.pl0_meaning.specs.Values.{number_of}
use Rattle.pl0_meaning.specs.Frames.{IsFrameOf}
use Rattle.pl0_meaning.proofs.Linking.{frame_of}
use Rattle.pl0_machine.specs.Machine.{variables_of}
use Rattle.std.specs.Prelude.{string_bytes}
use Rattle.dap_msg.specs.declared.outgoing.Variable.{Variable}
use Rattle.dap_msg.specs.declared.question.Shown.TheVariants as shown_as
use Rattle.dap_history.specs.Frames.{named, names_of, variables_of as variables_of_frame}
use Rattle.dap_history.specs.Inspection.{variables as variables_answer}
use Rattle.dap_inspection.specs.Variables.{names_in, numbers_of}
use Rattle.dap_inspection.proofs.AliveFrames.{there, by_id}
use Rattle.std.proofs.lemmas.Grind.{common_steps}

-- ---- their names

-- the block of a frame that was shown
abbrev IsBlockOf : Block → FrameView → DeclaredBlock → Type 0
IsBlockOf main view b =
    (q : Path) → slice_get (blocks main) view.block ≡ Some q → block_at main q ≡ Some (plain_block b)

pub names_are : (main : Block) (o : Option Frame) (view : FrameView) (b : DeclaredBlock) → Shows main o view
    → IsBlockOf main view b → map plain_name (out-Block b).variables.items ≡ names_in main o
names_are main o view b shows is = grind (arith, common_steps, plain_block_parts) steps 200000

count_in : (main : Block) (c : Configuration) (i : ℕ) (o : Option Frame) → frame_at c i ≡ o → ∥ AreLinked main c ∥₁
    → length (names_in main o) ≡ variables_of o
count_in main c i None at linked = refl
count_in main c i (Some f) at linked = ∥∥₁_elim linked (ℕ_set _ _) (λ links. counted (frame_of main c i f links at))
  where
    counted : IsFrameOf main f → length (names_of (block_at main f.block)) ≡ length f.numbers
    counted is = ap (λ b. length (names_of b)) is.found ∙ sym is.count

pub count_is : (main : Block) (c : Configuration) (i : ℕ) (names : List DeclaredName) → ∥ AreLinked main c ∥₁
    → map plain_name names ≡ names_in main (frame_at c i) → length names ≡ variables_of (frame_at c i)
count_is main c i names linked are = cc (length-map names plain_name, count_in main c i _ refl linked)

-- ---- with their numbers

number_in : (o : Option Frame) (k : ℕ) (v : ℤ) → number_of o k ≡ Some v → slice_get (numbers_of o) k ≡ Some v
number_in o k v is = grind (arith, common_steps) steps 200000

abbrev variable : DeclaredName → ℤ → Variable
variable x v = record { name = string_bytes x.text; value = v }

next_named : (names : List DeclaredName) (numbers : List ℤ) (k : ℕ) (x : DeclaredName) (v : ℤ) → k < length names
    → x ≡ get_or names k x → slice_get numbers k ≡ Some v →
    named (map plain_name (take (suc k) names)) numbers ≡ named (map plain_name (take k names)) numbers ++ variable x v
    ∷ []
next_named (y ∷ names) (w ∷ numbers) (suc k) x v lt is at =
    ap (λ l. variable y w ∷ l) (next_named names numbers k x v (omega arith) is at)
next_named names numbers k x v lt is at = grind (arith, common_steps) steps 200000

-- one variable more is read
pub one_more : (o : Option Frame) (names : List DeclaredName) (k : ℕ) (x : DeclaredName) (v number : ℤ) (word : List ℕ)
    (list : List Variable) → k < length names → x ≡ get_or names k x → number_of o k ≡ Some v → number ≡ v
    → word ≡ string_bytes x.text →
    list ≡ named (map plain_name (take k names)) (numbers_of o) → list ++ record { name = word; value = number }
    ∷ [] ≡ named (map plain_name (take (k + 1) names)) (numbers_of o)
one_more o names k x v number word list lt is at same_number same_word read =
    let more : suc k ≡ k + 1 = omega arith in
    cc (next_named names (numbers_of o) k x v lt is (number_in o k v at))

-- those of a frame are what is shown of it
pub shown : (of : Subject) (main : Block) (c : Configuration) (id i : ℕ) (names : List DeclaredName)
    (list : List Variable) → of.program ≡ main → IsAlive c id i →
    map plain_name names ≡ names_in main (frame_at c i) → list ≡ named (map plain_name names)
    (numbers_of (frame_at c i)) → Ok (shown_as.Variables list) ≡ variables_answer of (frame_by_id c id)
shown of main c id i names list program alive are is =
    let f = there c i alive.within in
    let all : list ≡ variables_of_frame of.program f.0 = cc f.1 in
    cc (by_id c id i alive, f.1)
