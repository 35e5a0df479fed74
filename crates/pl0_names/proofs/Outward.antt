-- The walk from a block outward, to the first that declares a word.
use Rattle.pl0_names.proofs.Common.{[], ABlock, ap, AreNestings, arith, Block, block_at, block_paths, blocks, Declaration, first_declaration, get_or, home, IsHomeAnswer, IsNesting, length, length-append, List, meaning_of, means, Nesting, NoMore, None, Option, option_and_then, option_map, Path, plain_block, Procedures, procedures_paths, refl, slice_get, slice_get-get_or, Some, suc, sym, zero, ℕ, ◌++◌, ◌+◌, ◌<◌, ◌∙◌, ◌∷◌, ◌≡◌, ◌≤◌}
use denote.Ref.{Bor}
use Rattle.pl0_tree.specs.Tree.{AProcedure as AndProcedure}
use Rattle.pl0_tree.specs.declared.tree.Block.{Block as DeclaredBlock}
use Rattle.pl0_names.specs.declared.scope.Meaning.{Meaning as Kept}
use Rattle.pl0_names.proofs.Lookup.{depth, nestings_lengths, read_at, same_path, main_found, outer_shallower, outer_within}
use Rattle.std.proofs.lemmas.Grind.{common_steps}

-- ---- a path is shorter than the list of all

abbrev AreBelow : ℕ → List Path → Type 0
AreBelow n [] = Unit {0}
AreBelow n (q ∷ qs) = (length q < n) × AreBelow n qs

below_more : (m n : ℕ) (qs : List Path) → m ≤ n → AreBelow m qs → AreBelow n qs
below_more m n [] le all = tt
below_more m n (q ∷ qs) le all = let lt = all.0 in (omega arith, below_more m n qs le all.1)

below_append : (n : ℕ) (ps qs : List Path) → AreBelow n ps → AreBelow n qs → AreBelow n (ps ++ qs)
below_append n [] qs first second = second
below_append n (p ∷ ps) qs first second = (first.0, below_append n ps qs first.1 second)

mutual
  block_short : (b : Block) (q : Path) → AreBelow (length q + length (block_paths b q)) (block_paths b q)
  block_short (ABlock cs xs row body end) q = grind (arith, common_steps, row_short row 0 q, below_append, below_more)

  row_short : (row : Procedures) (i : ℕ) (q : Path) → AreBelow (length q + length (procedures_paths row i q) + 1)
      (procedures_paths row i q)
  row_short NoMore i q = tt
  row_short (AndProcedure x b row) i q =
      let first = block_paths b (i ∷ q) in
      let rest = procedures_paths row (i + 1) q in
      let n = length q + length (first ++ rest) + 1 in
      below_append n first rest
      (below_more (length (i ∷ q) + length first) n first (omega (arith, length-append first rest))
      (block_short b (i ∷ q)))
      (below_more (length q + length rest + 1) n rest (omega (arith, length-append first rest))
      (row_short row (i + 1) q))

below_at : (n : ℕ) (qs : List Path) (k : ℕ) (q : Path) → AreBelow n qs → slice_get qs k ≡ Some q → length q < n
below_at n [] k q all e = cc
below_at n (p ∷ qs) zero q all e = let same : p ≡ q = cc in let lt = all.0 in omega (arith, ap length same)
below_at n (p ∷ qs) (suc k) q all e = below_at n qs k q all.1 e

path_short : (main : Block) (n : ℕ) (q : Path) → slice_get (blocks main) n ≡ Some q → length q < length (blocks main)
path_short main n q e = grind (arith, common_steps, below_at, block_short)

-- ---- the walk

-- the block of a number is this many levels out from the block q, and no block before it declares the word
pub record Walked (main : Block) (w : List ℕ) (q : Path) (n levels : ℕ) : Type 0 where
  pub path : Path
  pub at : slice_get (blocks main) n ≡ Some path
  pub levels_are : levels + length path ≡ length q
  pub same : home main q w ≡ home main path w

pub record IsWalk (main : Block) (w : List ℕ) (start n levels : ℕ) : Type 0 where
  pub within : n < length (blocks main)
  pub walked : (q : Path) → slice_get (blocks main) start ≡ Some q → Walked main w q n levels

-- what the block of a number declares the word as
abbrev pub Says : Block → List ℕ → ℕ → Option Kept → Type 0
Says main w n said =
    (q : Path) → slice_get (blocks main) n ≡ Some q → option_map meaning_of said ≡ option_map means
    (option_and_then (first_declaration w) (block_at main q))

none_of : (o : Option Declaration) → None ≡ option_map means o → o ≡ None
none_of None e = refl
none_of (Some d) e = cc

module _ (main : Block) (table : List (Option Nesting)) (nested : AreNestings main table (blocks main)) (w : List ℕ)
    (start n levels : ℕ) (lt : start < length (blocks main)) (walk : IsWalk main w start n levels) where
  pub in_table : n < length table
  in_table = let inside = walk.within in omega (arith, inside, nestings_lengths main table (blocks main) nested)

  -- the levels stay below the number of blocks
  pub levels_few : levels < length table
  levels_few =
      let begins = slice_get-get_or (blocks main) start [] lt in
      let short = path_short main start (get_or (blocks main) start []) begins in
      let here = walk.walked (get_or (blocks main) start []) begins in
      let e = here.levels_are in
      omega (arith, short, nestings_lengths main table (blocks main) nested, e)

  -- a block that declares the word is its home
  declared_home : (q : Path) (d : Declaration) → option_and_then (first_declaration w) (block_at main q) ≡ Some d
      → home main q w ≡ Some (record { path = q; declaration = d })
  declared_home [] d first = ap (λ o. option_map (λ (e : Declaration). record { path = []; declaration = e }) o) first
  declared_home (i ∷ q) d first = grind (arith, common_steps)

  pub found_here : (b : Bor DeclaredBlock)
      (meaning : Kept) → ((r : Path) → slice_get (blocks main) n ≡ Some r → block_at main r ≡ Some (plain_block b.now))
      → Says main w n (Some meaning) →
      (q : Path) → slice_get (blocks main) start ≡ Some q → IsHomeAnswer main q (home main q w)
      (Some (record { block = b; level = levels; meaning = meaning }))
  found_here b meaning there said q begins =
      let here = walk.walked q begins in
      by_first here (option_and_then (first_declaration w) (block_at main here.path)) refl (said here.path here.at)
    where
      by_first : (here : Walked main w q n levels) (o : Option Declaration)
          → option_and_then (first_declaration w) (block_at main here.path) ≡ o
          → Some (meaning_of meaning) ≡ option_map means o →
          IsHomeAnswer main q (home main q w) (Some (record { block = b; level = levels; meaning = meaning }))
      by_first here None first e = cc
      by_first here (Some d) first e = grind (arith, common_steps, declared_home)

  -- the main block, which no block is around
  pub found_nowhere : Says main w n None → get_or table n None ≡ None → (q : Path)
      → slice_get (blocks main) start ≡ Some q → IsHomeAnswer main q (home main q w) None
  found_nowhere said outermost q begins =
      let here = walk.walked q begins in
      let first = main_found main n here.path (read_at main table n None nested in_table outermost) here.at in
      let none = none_of (option_and_then (first_declaration w) (block_at main here.path)) (said here.path here.at) in
      rw (here.same ∙ ap (λ p. home main p w) first ∙ ap (λ o. option_map (λ (d : Declaration). record {
        path = [];
        declaration = d;
      }) o) (ap (λ p. option_and_then (first_declaration w) (block_at main p)) (sym first) ∙ none)) tt

  -- one block further out
  pub walk_on : (nesting : Nesting) → Says main w n None → get_or table n None ≡ Some nesting
      → IsWalk main w start nesting.outer (levels + 1) × (depth main nesting.outer < depth main n)
  walk_on nesting said is =
      let at = read_at main table n (Some nesting) nested in_table is in
      let inside = outer_within main table n nesting nested at in (
        record {
          within = omega (arith, inside, nestings_lengths main table (blocks main) nested);
          walked = λ q begins.
              let here = walk.walked q begins in
              outward q here here.path refl (rw (← (same_path main n at.path here.path at.at here.at)) at.is);
        },
        outer_shallower main n nesting at,
      )
    where
      passed : (i : ℕ) (r : Path) → option_and_then (first_declaration w) (block_at main (i ∷ r)) ≡ None
          → home main (i ∷ r) w ≡ home main r w
      passed i r none = grind (arith, common_steps)

      outward : (q : Path) (here : Walked main w q n levels) (p : Path) → here.path ≡ p
          → IsNesting main (Some nesting) p → Walked main w q nesting.outer (levels + 1)
      outward q here [] is at = absurd at
      outward q here (i ∷ r) is at =
          let e = here.levels_are in
          record {
            path = r;
            at = at.0;
            levels_are = omega (arith, e, ap length is);
            same = cc (
              here.same,
              passed i r
                  (none_of (option_and_then (first_declaration w) (block_at main (i ∷ r)))
                  (said (i ∷ r) (here.at ∙ ap Some is))),
            );
          }
