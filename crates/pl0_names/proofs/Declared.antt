-- What a block declares a word as, by its declarations and by a table of them.
use Rattle.pl0_names.proofs.Common.{[], AConstant, ap, AProcedure, arith, AVariable, Block, block_at, blocks, Bool, bytes_eq, cond, constants, Declaration, Declared, declared_as, find, first_declaration, IsTableOf, Known, known, length, List, map, Meaning, meaning_of, means, Name, None, Option, option_and_then, option_map, option_or, out-Block, out-Procedure, Path, plain_block, plain_block_procedures, plain_constant, plain_constants, plain_name, plain_procedure, plain_variables, position, procedures, refl, slice_get, Some, stack_names, string_bytes, sym, told, variables, ℕ, ◌++◌, ◌+◌, ◌∙◌, ◌∷◌, ◌≡◌}
use Rattle.std.specs.List.{position_from}
use Rattle.std.proofs.lemmas.List.Folds.{find-append}
use Rattle.std.proofs.lemmas.Iterator.Adapters.{position_from-zero}
use Rattle.pl0_tree.specs.declared.tree.Block.{Block as DeclaredBlock}
use Rattle.pl0_names.proofs.Lookup.{numbered_there}
use Rattle.pl0_names.proofs.Members.{get_parts}
use Rattle.std.proofs.lemmas.Grind.{common_steps}

-- ---- by its declarations

-- a position among what is mapped twice
position_mapped : {A B C : Type 0} (f : A → B) (g : B → C) (p : C → Bool) (i : ℕ) (xs : List A)
    → position_from (λ x. p (g (f x))) i xs ≡ position_from p i (map g (map f xs))
position_mapped f g p i [] = refl
position_mapped f g p i (x ∷ xs) = ap (λ o. cond (p (g (f x))) (Some i) o) (position_mapped f g p (i + 1) xs)

pub position_among : {A B C : Type 0} (f : A → B) (g : B → C) (p : C → Bool) (xs : List A)
    → position (λ x. p (g (f x))) xs ≡ position p (map g (map f xs))
position_among f g p xs = grind (arith, common_steps, position_from-zero, position_mapped)

module _ (w : List ℕ) where
  abbrev is_word : Name → Bool
  is_word x = bytes_eq x.word w

  abbrev first_means : List Declaration → Option Meaning
  first_means ds = option_map means (find (λ d. is_word d.name) ds)

  -- declarations of one kind
  first_from : (m : ℕ → Meaning) (i : ℕ) (xs : List Name) → first_means (declared_as m i xs) ≡ option_map m
      (position_from is_word i xs)
  first_from m i [] = refl
  first_from m i (x ∷ xs) = grind (arith, common_steps, first_from m (i + 1) xs)

  first_of : (m : ℕ → Meaning) (xs : List Name) (found : Option ℕ) → found ≡ position is_word xs
      → option_map m found ≡ first_means (declared_as m 0 xs)
  first_of m xs found is = ap (option_map m) (is ∙ position_from-zero is_word xs) ∙ sym (first_from m 0 xs)

  or_means : (o r s : Option Declaration) → option_map means (option_or o (option_or r s)) ≡ option_or
      (option_map means o) (option_or (option_map means r) (option_map means s))
  or_means (Some d) r s = refl
  or_means None (Some d) s = refl
  or_means None None s = refl

  -- what is found among constants, variables and procedures
  abbrev pub found_as : Option ℕ → Option ℕ → Option ℕ → Option Meaning
  found_as constant variable procedure =
      option_or (option_map AConstant constant)
      (option_or (option_map AVariable variable) (option_map AProcedure procedure))

  first_meaning : (b : Block) (constant variable procedure : Option ℕ)
      → constant ≡ position is_word (map (λ c. c.name) (constants b)) → variable ≡ position is_word (variables b) →
      procedure ≡ position is_word (map (λ p. p.name) (procedures b))
      → found_as constant variable procedure ≡ option_map means (first_declaration w b)
  first_meaning b constant variable procedure c v p =
      let is : Declaration → Bool = λ d. is_word d.name in
      let cs = declared_as AConstant 0 (map (λ c. c.name) (constants b)) in
      let vs = declared_as AVariable 0 (variables b) in
      let ps = declared_as AProcedure 0 (map (λ p. p.name) (procedures b)) in
      cc (
        first_of AConstant (map (λ c. c.name) (constants b)) constant c,
        first_of AVariable (variables b) variable v,
        first_of AProcedure (map (λ p. p.name) (procedures b)) procedure p,
        or_means (find is cs) (find is vs) (find is
            ps),
        find-append is vs ps,
        find-append is cs (vs ++ ps),
      )

  -- what is found in a block as the code keeps it
  pub block_means : (b : DeclaredBlock) (constant variable procedure : Option ℕ) →
      constant ≡ position (λ c. bytes_eq (string_bytes c.name.text) w) (out-Block b).constants.items →
      variable ≡ position (λ x. bytes_eq (string_bytes x.text) w) (out-Block b).variables.items →
      procedure ≡ position (λ p. bytes_eq (string_bytes (out-Procedure p).name.text) w) (out-Block b).procedures.items →
      found_as constant variable procedure ≡ option_map means (first_declaration w (plain_block b))
  block_means b constant variable procedure c v p =
      first_meaning (plain_block b) constant variable procedure (cc (
        position_among plain_constant (λ k. k.name) is_word
            (out-Block b).constants.items,
        plain_constants b,
      )) (cc (
        position_among (λ x. x) plain_name is_word (out-Block
            b).variables.items,
        map_same (out-Block b).variables.items,
        plain_variables b,
      )) (cc (
        position_among
            plain_procedure (λ r. r.name) is_word (out-Block b).procedures.items,
        plain_block_procedures b,
      ))
    where
      map_same : {A : Type 0} (xs : List A) → map (λ x. x) xs ≡ xs
      map_same [] = refl
      map_same (x ∷ xs) = ap (λ ys. x ∷ ys) (map_same xs)

-- ---- by a table

abbrev meant : Option Known → Option Meaning
meant o = option_map (λ (k : Known). k.meaning) o

meant_told : (o : Option Declared) → meant (option_map told o) ≡ option_map meaning_of (option_map (λ d. d.meaning) o)
meant_told None = refl
meant_told (Some d) = refl

meant_known : (o : Option Declaration) → meant (option_map known o) ≡ option_map means o
meant_known None = refl
meant_known (Some d) = refl

-- tables of the first blocks of a program
abbrev pub AreTables : Block → List (List (List (List ℕ × Declared))) → Type 0
AreTables main tables =
    (n : ℕ) (table : List (List (List ℕ × Declared))) (q : Path) (b : Block) → slice_get tables n ≡ Some table
    → slice_get (blocks main) n ≡ Some q → block_at main q ≡ Some b → IsTableOf b table

pub table_means : (main : Block) (tables : List (List (List (List ℕ × Declared)))) → AreTables main tables
    → (n : ℕ) (table : List (List (List ℕ × Declared))) → slice_get tables n ≡ Some table →
    (w : List ℕ) (found : Option Declared) → option_map told found ≡ stack_names table w → (q : Path)
    → slice_get (blocks main) n ≡ Some q →
    option_map meaning_of (option_map (λ d. d.meaning) found) ≡ option_map means
    (option_and_then (first_declaration w) (block_at main q))
table_means main tables all n table here w found is q at =
    let there = numbered_there main n q at in
    cc (meant_told found, all n table q there.0 here at there.1 w, meant_known (first_declaration w there.0), there.1)

-- one table more
pub one_table_more : (main b : Block) (tables : List (List (List (List ℕ × Declared))))
    (table : List (List (List ℕ × Declared))) (n : ℕ) → AreTables main tables → length tables ≡ n → IsTableOf b table →
    ((q : Path) → slice_get (blocks main) n ≡ Some q → block_at main q ≡ Some b) → AreTables main (tables ++ table ∷ [])
one_table_more main b tables table n all count is there k other q c here at block =
    grind (arith, common_steps, get_parts)
