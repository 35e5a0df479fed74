-- What proofs of several crates use.
use Rattle.std.specs.Prelude.{◌≡◌, ◌≤◌, ℕ, zero, suc, List, [], ◌∷◌, ◌++◌, length, slice_get, Some, Result, Ok, Err, IfErr, IsErrAnd, refl}
use Rattle.std.proofs.Common.{inl, inr, ap, sym, subst, arith}
use Rattle.pl0_tree.specs.declared.tree.Place.{Place}
use Rattle.pl0_tree.specs.declared.fault.FaultKind.{FaultKind}
use Rattle.pl0_tree.specs.declared.fault.SyntaxFault.{SyntaxFault}
use Rattle.pl0_tree.specs.declared.step.Step.{Step}
use Rattle.pl0_tree.specs.Tree.{Block, Constant}
use Rattle.pl0_tree.specs.Tokens.{Token}
use Rattle.pl0_tree.specs.Reading.{ReadsConstants, last_constant, one_constant, ReadsConstantPart, no_constants, constants}
use Rattle.pl0_tree.specs.Scope.{IsBefore}
use Rattle.pl0_tree.specs.Steps.{StepAt, AreSteps}
use Rattle.pl0_tree.specs.Faults.{FaultIs}

pub slice_get-front : {A : Type 0} (xs ys : List A) (i : ℕ) (x : A) → slice_get xs i ≡ Some x
    → slice_get (xs ++ ys) i ≡ Some x
slice_get-front [] ys i x is = cc
slice_get-front (y ∷ xs) ys zero x is = is
slice_get-front (y ∷ xs) ys (suc i) x is = slice_get-front xs ys i x is

pub before_trans : (p q r : Place) → IsBefore p q → IsBefore q r → IsBefore p r
before_trans p q r (inl a) (inl b) = inl (omega arith)
before_trans p q r (inl a) (inr b) = inl (omega (arith, b.0))
before_trans p q r (inr a) (inl b) = inl (omega (arith, a.0))
before_trans p q r (inr a) (inr b) = inr (omega (arith, a.0, b.0), omega (arith, a.1, b.1))

pub steps_length : (main : Block) (ss : List Step) (ts : List StepAt) → AreSteps main ss ts → length ss ≡ length ts
steps_length main [] [] are = refl
steps_length main (s ∷ ss) (t ∷ ts) are = ap suc (steps_length main ss ts are.1)
steps_length main _ _ are = absurd are

-- no tokens come by reading constants
constants_shorter : (s : List Token) (cs : List Constant) (rest : List Token) → ReadsConstants s cs rest
    → length rest ≤ length s
constants_shorter _ _ rest last_constant = omega arith
constants_shorter _ _ rest (one_constant {cs = cs} {s = s} more) =
    let a = constants_shorter s cs rest more in omega (arith, a)

pub constant_part_shorter : (s : List Token) (cs : List Constant) (rest : List Token) → ReadsConstantPart s cs rest
    → length rest ≤ length s
constant_part_shorter s _ _ no_constants = omega arith
constant_part_shorter _ cs rest (constants {s = s} more) = let a = constants_shorter s cs rest more in omega (arith, a)

-- a fault that a `?` hands on
pub handed_on : {A : Type 0} (Is : FaultKind → Place → Type 0) (r : Result A SyntaxFault) (fault : SyntaxFault)
    → IsErrAnd r (λ y. y ≡ fault) → FaultIs Is fault → IfErr r (FaultIs Is)
handed_on Is (Ok x) fault gives is = tt
handed_on Is (Err y) fault gives is = subst (FaultIs Is) (sym gives) is
