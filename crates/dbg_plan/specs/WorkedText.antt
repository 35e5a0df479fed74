-- Two texts as trees, for the worked examples.
use Rattle.std.specs.Prelude.{ℕ, [], ◌∷◌, pos, codes}
use Rattle.pl0_tree.specs.declared.tree.Operator.TheVariants.{Add}
use Rattle.pl0_tree.specs.declared.tree.Relation.TheVariants.{Less}
use Rattle.pl0_tree.specs.Tree.{Name, Variable, Number, Binary, Compare, Assign, While, Block, ABlock, NoMore}
use Rattle.pl0_meaning.specs.WorkedRun.{place, called, main}

-- The text whose run `WorkedRun` of pl0_meaning computes: a procedure in another, which calls itself. Its run has 20
-- steps.
--
-- var n; procedure p; var k; procedure q; k := k + n; begin k := n; n := n - 1; if n > 0 then call p; call q; ! k end;
-- begin n := 2; call p end.
abbrev pub nested : Block
nested = main

abbrev x : ℕ → ℕ → Name
x l c = called (codes "x") l c

-- A loop. Its step at line 3 is taken at the positions 1, 3, 5, 7, 9 and 11, before which x is 0, 1, 2, 3, 4 and 5. Its
-- run has 14 steps.
--
-- var x; while x < 6 do x := x + 1.
abbrev pub loop : Block
loop = ABlock [] (x 1 5 ∷ []) NoMore
    (While (place 2 1) (Compare Less (Variable (x 2 7)) (Number (pos 6)))
    (Assign (x 3 1) (Binary Add (Variable (x 3 6)) (Number (pos 1)))))
    (place 3 11)
