-- One text has one program.
use Rattle.std.proofs.Common.{◌≡◌, ℕ, List, subst}
use Rattle.std.specs.Coded.{Coded-set}
use Rattle.std.proofs.Math.Logic.{∥∥₁_elim}
use Rattle.pl0_tree.specs.Tree.{Block}
use Rattle.pl0_tree.specs.Tokens.{tokens_of}
use Rattle.pl0_tree.specs.Reading.{ReadsProgram}
use Rattle.pl0_tree.specs.Faults.{level_limit, IsTreeOf}
use Rattle.pl0_tree.proofs.Unique.{program_once}
use Rattle.pl0_tree.proofs.BlockCode.{block_code}

pub same_program : (a b : List ℕ) (p q : Block) → a ≡ b → ∥ IsTreeOf a p ∥₁ → ∥ IsTreeOf b q ∥₁ → p ≡ q
same_program a b p q same first second =
    let alike = Coded-set block_code p q in
    ∥∥₁_elim first alike (λ x. ∥∥₁_elim second alike
    (λ y. program_once (subst (λ t. ReadsProgram level_limit (tokens_of t) p) same x.reads) y.reads))
