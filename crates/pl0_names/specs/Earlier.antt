-- What is declared before a block of the text.
use Rattle.std.specs.Prelude.{◌≡◌, ℕ, ◌+◌, List, ◌++◌, map, take, find, Option, Some, None, option_map, option_and_then, slice_get, ◌∷◌, []}
use Rattle.std.specs.Str.{bytes_eq}
use Rattle.pl0_tree.specs.Tree as tree
use Rattle.pl0_tree.specs.Tree.{Block}
use Rattle.pl0_tree.specs.Scope.{Path, block_at, AConstant, AVariable, AProcedure, Declaration, declared_as, Home, home, declared_here, or_else, Use, body_uses}

-- the declarations of a block before that of its procedure i
abbrev pub declarations_before : ℕ → Block → List Declaration
declarations_before i b =
    declared_as AConstant 0 (map (λ c. c.name) (tree.constants b)) ++
    (declared_as AVariable 0 (tree.variables b) ++
    declared_as AProcedure 0 (take i (map (λ p. p.name) (tree.procedures b))))

-- the first of them that declares a word
abbrev pub first_before : ℕ → List ℕ → Block → Option Declaration
first_before i x b = find (λ d. bytes_eq (d.name.word) x) (declarations_before i b)

-- the home of a word outside the block at a path, by what is declared up to that block's name
abbrev pub home_around : Block → Path → List ℕ → Option Home
home_around main [] x = None
home_around main (i ∷ q) x =
    or_else (option_map (λ d. record { path = q; declaration = d })
    (option_and_then (first_before (i + 1) x) (block_at main q))) (home_around main q x)

-- the home of a word, by what the block at a path declares and what is declared before that block
abbrev pub home_before : Block → Path → List ℕ → Option Home
home_before main q x = or_else (declared_here main q x) (home_around main q x)

-- that is the home of each word that is used: no use stands before its declaration
abbrev pub AreDeclaredBefore : Block → Type 0
AreDeclaredBefore main =
    (q : Path) (b : Block) (i : ℕ) (u : Use) → block_at main q ≡ Some b → slice_get (body_uses b) i ≡ Some u →
    home_before main q u.name.word ≡ home main q u.name.word
