-- What proofs of several crates use: the numbers that steps write.
use Rattle.std.specs.Prelude.{◌≡◌, ℕ, zero, suc, ◌+◌, ◌≤◌, ◌++◌, None, length}
use Rattle.std.proofs.Common.{arith, append-nil, append_assoc, length-append}
use Rattle.pl0_tree.specs.Tree.{Block}
use Rattle.pl0_meaning.specs.Runs.{Outcome, Goes, outcome, written_by, written_from, written}
use Rattle.std.proofs.lemmas.Grind.{common_steps}

pub written_from-suc : (main : Block) (a n : ℕ) → written_from main a (suc n) ≡ written_from main a n
    ++ written_by (outcome main (a + n))
written_from-suc main a zero = grind (arith, common_steps, append-nil) steps 1500000
written_from-suc main a (suc n) =
    grind (arith, common_steps, written_from-suc main (a + 1) n, append_assoc) steps 1500000

pub written-next : (main : Block) (a b : ℕ) → a ≤ b → written main a (b + 1) ≡ written main a b
    ++ written_by (outcome main b)
written-next main a b le = grind (arith, common_steps, written_from-suc) steps 1500000

-- a step writes at most one number
pub written_by_few : (o : Outcome) → length (written_by o) ≤ 1
written_by_few (Goes None c) = omega arith
written_by_few _ = omega arith

pub written_from_few : (main : Block) (n count : ℕ) → length (written_from main n count) ≤ count
written_from_few main n zero = omega arith
written_from_few main n (suc count) =
    grind (arith, common_steps, written_by_few, written_from_few main (n + 1) count, length-append) steps 1500000
