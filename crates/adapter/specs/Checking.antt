-- Defines how the check of a program text ends.
use Rattle.std.specs.Prelude.{◌≡◌, ◌⊎◌, ℕ, List, [], ◌∷◌, ◌++◌, Option, Result, Ok, Err}
use Rattle.pl0_tree.specs.Tree.{Block}
use Rattle.pl0_tree.specs.Steps.{steps}
use Rattle.pl0_tree.specs.declared.step.Step.{Step}
use Rattle.pl0_tree.specs.Faults.{IsTreeOf, IsFirstFault}
use Rattle.pl0_unit.specs.declared.instruction.Instruction.{Instruction}
use Rattle.pl0_unit.specs.Code.{IsUnitOf}
use Rattle.dap_history.specs.declared.fault.LoadFault.TheVariants as load
use Rattle.dap_history.specs.Interleaving.{Load}
use Rattle.dap_session.specs.Ports.{load_of}
use Rattle.adapter.specs.Listing.{listing_text}
use Rattle.byte_streams.specs.Streams.{Output, WritesAll, FailsIn}
use Rattle.adapter.specs.declared.checking.CheckFault.{CheckFault}
use Rattle.adapter.specs.declared.checking.CheckFault.TheVariants.{CannotRead, Syntax, WriteFailed, NoMemory}

-- The text is the listing of a program: of its steps, and of code that belongs to it.
pub record IsListingOfProgram (main : Block) (text : List ℕ) : Type 0 where
  pub code : List Instruction
  pub begun : List (Option ℕ)
  pub table : List Step
  pub coded : ∥ IsUnitOf main code begun table ∥₁
  pub text_is : text ≡ listing_text (steps main) code begun

-- The text is the listing of a file: of the program that the file has.
pub record IsListingOf (file text : List ℕ) : Type 0 where
  pub main : Block
  pub program : IsTreeOf file main
  pub listing : IsListingOfProgram main text

-- The loader was asked once, for this path, and returned this file.
abbrev pub Gives : List ℕ → List ℕ → List Load → List Load → Type 0
Gives path file old new = new ≡ old ++ load_of path (Ok file) ∷ []

-- The loader was asked once, for this path. The file's listing was written; or the file can't be read, it has this
-- fault first, or there was no memory, for the loader or after it, and nothing was written; or the output failed after
-- a prefix of the listing.
abbrev pub IsChecked : List ℕ → Result (Unit {0}) CheckFault → List Load → List Load → Output → Output → Type 0
IsChecked path (Ok done) old new before after =
    (file : List ℕ) × (text : List ℕ) × Gives path file old new × IsListingOf file text × WritesAll text before after
IsChecked path (Err CannotRead) old new before after =
    (new ≡ old ++ load_of path (Err load.CannotRead) ∷ []) × (after ≡ before)
IsChecked path (Err (Syntax kind place)) old new before after =
    (file : List ℕ) × Gives path file old new × IsFirstFault file kind place × (after ≡ before)
IsChecked path (Err WriteFailed) old new before after =
    (file : List ℕ) × (text : List ℕ) × Gives path file old new × IsListingOf file text × FailsIn text before after
IsChecked path (Err NoMemory) old new before after =
    ((new ≡ old ++ load_of path (Err load.NoMemory) ∷ []) ⊎ ((file : List ℕ) × Gives path file old new))
    × (after ≡ before)
