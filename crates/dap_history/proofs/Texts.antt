-- A text reads as one program.
use Rattle.dap_history.proofs.Common.{AtMostOne, Block, IsTreeOf, ℕ, ∥∥₁_elim, ◌≡◌}
use Rattle.std.proofs.Common.{List}
use Rattle.std.specs.Coded.{Coded-set}
use Rattle.pl0_tree.proofs.BlockCode.{block_code}

abbrev pub OneProgram : Type 0
OneProgram = (text : List ℕ) (a b : Block) → ∥ IsTreeOf text a ∥₁ → ∥ IsTreeOf text b ∥₁ → a ≡ b

pub one_program : ((text : List ℕ) → AtMostOne (IsTreeOf text)) → OneProgram
one_program one text a b x y =
    ∥∥₁_elim x (Coded-set block_code a b) (λ u. ∥∥₁_elim y (Coded-set block_code a b) (λ v. one text a b u v))
