-- What a name stands for, by the home that a look-up answers.
use Rattle.std.proofs.Common.{◌≡◌, ℕ, ◌+◌, ◌<◌, List, length, slice_get, Option, Some, None, refl, sym, ◌∙◌, subst, arith}
use Rattle.std.proofs.lemmas.List.{length-map}
use Rattle.std.proofs.lemmas.Option.{slice_get-map, same_Some}
use Rattle.pl0_tree.specs.declared.tree.Block.{out-Block}
use Rattle.pl0_tree.specs.declared.tree.Constant.{Constant as DeclaredConstant}
use Rattle.pl0_tree.specs.Tree.{Block, constants}
use Rattle.pl0_tree.specs.Plain.{plain_block}
use Rattle.pl0_tree.proofs.PlainParts.{plain_constants}
use Rattle.pl0_tree.specs.Scope.{Path, block_at, Meaning, AConstant, Home, home}
use Rattle.pl0_meaning.proofs.Homes.{IsDeclaredBy, home_is}
use Rattle.pl0_names.specs.declared.names.Home.{Home as Answer}
use Rattle.pl0_names.specs.Homes.{IsHomeAnswer, meaning_of}
use Rattle.pl0_machine.specs.declared.located.LocatedExpression.{LocatedExpression}
use Rattle.pl0_machine.specs.declared.located.LocatedExpression.TheVariants as bound
use Rattle.dbg_plan.specs.Bound.{IsDeclaredBound, IsNameBound}
use Rattle.std.proofs.lemmas.Grind.{common_steps}

module _ (main : Block) (q : Path) (w : List ℕ) (a : Answer) (is : IsHomeAnswer main q (home main q w) (Some a)) where
  -- what stands for the declaration of the home stands for the name
  pub bound_by : (m : Meaning) (b : LocatedExpression) → meaning_of a.meaning ≡ m
      → ((r : Path) → block_at main r ≡ Some (plain_block a.block.now) → a.level + length r ≡ length q
      → IsDeclaredBound main q r m b) → IsNameBound main q (home main q w) b
  bound_by m b same here = grind (arith, common_steps)

  -- its constant is there
  pub constant_within : (k : ℕ) → meaning_of a.meaning ≡ AConstant k
      → k < length (out-Block a.block.now).constants.items
  constant_within k same =
      let lt = by_home (home main q w) refl is in
      grind (arith, common_steps, length, plain_constants, length-map)
    where
      by_home : (o : Option Home) → home main q w ≡ o → IsHomeAnswer main q o (Some a)
          → k < length (constants (plain_block a.block.now))
      by_home None at is = absurd is
      by_home (Some h) at is =
          let there = home_is main q w h at in
          let declared = subst (λ m. IsDeclaredBy there.block m) (sym is.2 ∙ same) there.declared in
          rw (← (same_Some there.block (plain_block a.block.now) (sym there.there ∙ is.0))) declared

  pub constant_bound : (k : ℕ) (c : DeclaredConstant) → meaning_of a.meaning ≡ AConstant k
      → slice_get (out-Block a.block.now).constants.items k ≡ Some c
      → IsNameBound main q (home main q w) (bound.Number c.value)
  constant_bound k c same at = grind (arith, common_steps, bound_by, slice_get, plain_constants, slice_get-map)
