-- What is bound has the value of the source.
use Rattle.std.proofs.Common.{◌≡◌, ℕ, List, slice_get, Option, Some, None, IsSome, Ok, ℤ, pos, refl, sym, ap, ◌∙◌, subst, arith}
use Rattle.std.specs.Prelude.{option_and_then}
use Rattle.std.proofs.lemmas.Option.{slice_get-get_or}
use Rattle.pl0_tree.specs.Tree.{Block, Expression, Variable, Number, Negate, Binary, Condition, Odd, Compare}
use Rattle.pl0_tree.specs.Scope.{Meaning, AConstant, AVariable, AProcedure, Home, home}
use Rattle.pl0_meaning.specs.Values.{Frame, Configuration, frame_at, declared_number, name_number, or_zero, after, comparison, value, truth}
use Rattle.pl0_unit.specs.Code.{level}
use Rattle.pl0_meaning.specs.Frames.{AreLinked}
use Rattle.pl0_meaning.proofs.Homes.{home_is}
use Rattle.pl0_meaning.proofs.Linking.{found, variable_found, frame_of, variable_within}
use Rattle.pl0_machine.specs.Machine.{number_up}
use Rattle.pl0_machine.specs.declared.located.LocatedExpression.{LocatedExpression}
use Rattle.pl0_machine.specs.declared.located.LocatedExpression.TheVariants as bound
use Rattle.pl0_machine.specs.declared.located.LocatedCondition.{LocatedCondition}
use Rattle.pl0_machine.specs.declared.located.LocatedCondition.TheVariants as bound_condition
use Rattle.dbg_plan.specs.Bound.{IsDeclaredBound, IsNameBound, IsExpressionBound, IsConditionBound}
use Rattle.pl0_machine.specs.LocatedValues.{located_value, located_truth, CanRead, CanTest}
use Rattle.dbg_plan.proofs.ValuesLinks.{leads}
use Rattle.std.proofs.lemmas.Grind.{common_steps}

-- a bound expression can be read, and has this number
abbrev pub Reads : Configuration → ℕ → LocatedExpression → ℤ → Type 0
Reads c i b v = CanRead c i b × (located_value c i b ≡ Ok v)

reads_number : (c : Configuration) (i : ℕ) (b : LocatedExpression) (v w : ℤ) → b ≡ bound.Number v → v ≡ w
    → Reads c i b w
reads_number c i b v w is same = subst (λ e. Reads c i e w) (sym is) (tt, ap Ok same)

reads_variable : (c : Configuration) (i n k : ℕ) (b : LocatedExpression) (o : Option ℤ) → b ≡ bound.Variable n k
    → number_up c n k i ≡ o → IsSome o → Reads c i b (or_zero o)
reads_variable c i n k b o is up some = rw is (rw up some, cc)

-- in frame i of a block q
module _ (main : Block) (c : Configuration) (i : ℕ) (f : Frame) (linked : AreLinked main c) (at : frame_at c i ≡ Some f)
  where
    variable_reads : (x : List ℕ) (h : Home) (k : ℕ) (b : LocatedExpression) → home main f.block x ≡ Some h
        → h.declaration.meaning ≡ AVariable k → b ≡ bound.Variable (level f.block h.path) k
        → Reads c i b (or_zero (declared_number main c i h.path (AVariable k)))
    variable_reads x h k b e means is =
        let home_of = home_is main f.block x h e in
        let r = found main c f.block i f h.path linked at refl home_of.around in
        let lt = variable_within main f.block h k r.frame home_of means (frame_of main c r.at r.frame linked r.there)
        r.block in
        let there = variable_found c i r.at k h.path r.frame r.is r.there in
        let some : IsSome (slice_get r.frame.numbers k) = rw (slice_get-get_or r.frame.numbers k (pos 0) lt) refl in
        rw there (reads_variable c i (level f.block h.path) k b (slice_get r.frame.numbers k) is (leads main c f.block i
        f h.path linked at refl home_of.around k ∙ there) some)

    declared_reads : (x : List ℕ) (h : Home) (m : Meaning) (b : LocatedExpression) → home main f.block x ≡ Some h
        → h.declaration.meaning ≡ m → IsDeclaredBound main f.block h.path m b
        → Reads c i b (or_zero (declared_number main c i h.path m))
    declared_reads x h (AConstant k) b e means is = reads_number c i b is.0 _ is.2 (ap or_zero (sym is.1))
    declared_reads x h (AVariable k) b e means is = variable_reads x h k b e means is
    declared_reads x h (AProcedure k) b e means is = reads_number c i b (pos 0) (pos 0) is refl

    abbrev home_number : Option Home → Option ℤ
    home_number o = option_and_then (λ (h : Home). declared_number main c i h.path h.declaration.meaning) o

    home_reads : (x : List ℕ) (o : Option Home) (b : LocatedExpression) → home main f.block x ≡ o
        → IsNameBound main f.block o b → Reads c i b (or_zero (home_number o))
    home_reads x None b e is = reads_number c i b (pos 0) (pos 0) is refl
    home_reads x (Some h) b e is = declared_reads x h h.declaration.meaning b e refl is

    -- a name that is bound has its number
    pub name_reads : (x : List ℕ) (b : LocatedExpression) → IsNameBound main f.block (home main f.block x) b
        → Reads c i b (or_zero (name_number main c i x))
    name_reads x b is = rw at (home_reads x (home main f.block x) b refl is)

    -- an expression that is bound has its value
    pub expression_reads : (e : Expression) (b : LocatedExpression) → IsExpressionBound main f.block e b → CanRead c i b
        × (located_value c i b ≡ value main c i e)
    expression_reads (Number n) b is = subst (λ e. CanRead c i e × (located_value c i e ≡ Ok n)) (sym is) (tt, refl)
    expression_reads (Variable x) b is = name_reads x.word b is
    expression_reads (Negate e) (bound.Negate' p b) is = grind (arith, common_steps, expression_reads e b is, after)
    expression_reads (Negate e) b is = absurd is
    expression_reads (Binary op left right) (bound.Binary' op' p first r second) is =
        grind (arith, common_steps, expression_reads left first is.1, expression_reads right second is.2, after, value)
    expression_reads (Binary op left right) b is = absurd is

    -- a condition that is bound has its truth
    pub condition_reads : (t : Condition) (b : LocatedCondition) → IsConditionBound main f.block t b → CanTest c i b
        × (located_truth c i b ≡ truth main c i t)
    condition_reads (Odd e) (bound_condition.Odd b) is = grind (arith, common_steps, expression_reads, after)
    condition_reads (Compare relation left right) (bound_condition.Compare relation' first second) is =
        grind (arith, common_steps, expression_reads, after, comparison, value)
    condition_reads t b is = absurd is
