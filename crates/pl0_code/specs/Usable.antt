-- The words of a construct are found as what they are used for. Those of a lawful program are.
use Rattle.std.specs.Prelude.{Option, Some, None}
use Rattle.pl0_tree.specs.Tree.{Statement, Empty, Assign, Call, Write, Then, If, While, Expression, Variable as Named, Number, Negate, Binary, Condition, Odd, Compare}
use Rattle.pl0_names.specs.declared.open_blocks.Found.{Found}
use Rattle.pl0_code.specs.declared.scope.Declared.{Declared}
use Rattle.pl0_code.specs.declared.scope.Declared.TheVariants.{Constant, Variable, Procedure as AnEntry}
use Rattle.pl0_code.specs.Rows.{Resolver}

-- constants and variables are read, variables are assigned, procedures are called
abbrev pub CanBeRead : Declared → Type 0
CanBeRead (Constant v) = Unit {0}
CanBeRead (Variable a) = Unit {0}
CanBeRead (AnEntry a) = ⊥

abbrev pub CanBeAssigned : Declared → Type 0
CanBeAssigned (Constant v) = ⊥
CanBeAssigned (Variable a) = Unit {0}
CanBeAssigned (AnEntry a) = ⊥

abbrev pub CanBeCalled : Declared → Type 0
CanBeCalled (Constant v) = ⊥
CanBeCalled (Variable a) = ⊥
CanBeCalled (AnEntry a) = Unit {0}

-- a word is found, as something that can be used so
abbrev pub IsFoundTo : (Declared → Type 0) → Option (Found Declared) → Type 0
IsFoundTo CanBe None = ⊥
IsFoundTo CanBe (Some f) = CanBe f.declared

abbrev pub CanEvaluate : Resolver → Expression → Type 0
CanEvaluate r (Number n) = Unit {0}
CanEvaluate r (Named x) = IsFoundTo CanBeRead (r x.word)
CanEvaluate r (Negate e) = CanEvaluate r e
CanEvaluate r (Binary op left right) = CanEvaluate r left × CanEvaluate r right

abbrev pub CanTest : Resolver → Condition → Type 0
CanTest r (Odd e) = CanEvaluate r e
CanTest r (Compare c left right) = CanEvaluate r left × CanEvaluate r right

abbrev pub CanDo : Resolver → Statement → Type 0
CanDo r Empty = Unit {0}
CanDo r (Then s t) = CanDo r s × CanDo r t
CanDo r (Assign x e) = IsFoundTo CanBeAssigned (r x.word) × CanEvaluate r e
CanDo r (Call p x) = IsFoundTo CanBeCalled (r x.word)
CanDo r (Write p e) = CanEvaluate r e
CanDo r (If p c s) = CanTest r c × CanDo r s
CanDo r (While p c s) = CanTest r c × CanDo r s
