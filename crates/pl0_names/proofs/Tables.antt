-- What the map says, beside the log.
use Rattle.pl0_names.proofs.Common.{[], ap, arith, blocks_of, both_ways, bytes_eq, bytes_eq-Decides, ends_at, Err, found_at, found_in, index_of, is_some, IsIndexed, IsNested, IsSome, IsTable, List, None, Ok, OnErr, OnOk, Option, option_map, Result, reverse, sym, true, ℕ, ◌+◌, ◌-◌, ◌<◌, ◌∙◌, ◌∷◌, ◌≡◌, Bool, false, Some}
use Rattle.std.specs.Map.{update}
use Rattle.std.specs.HashMap.{HashMap}
use denote.Ref.{Bor}
use Rattle.pl0_names.specs.declared.log.Entry.{Entry}
use Rattle.pl0_names.specs.declared.log.Placed.{Placed}
use Rattle.pl0_names.specs.Logs.{blocks}
use Rattle.pl0_names.proofs.Logs.{blocks_length, found_is, level_below, names_length, nearest_opened, nearest_put, nested_more, outer_same}
use Rattle.std.proofs.lemmas.Grind.{common_steps}

module _ {T : Type 0} where
  pub cut_outer : (n : ℕ) (e : Entry T) (es es' : List (Entry T)) → es' ≡ e ∷ es → ends_at n es' ≡ true
      → blocks n es ≡ blocks n es'
  cut_outer n e es es' is ends = grind (arith, common_steps, outer_same)

  pub ends_level : (n : ℕ) (e : Entry T) (es es' : List (Entry T)) → es' ≡ e ∷ es → ends_at n es' ≡ true
      → e.placed.level ≡ n
  ends_level n e es es' is ends = grind (arith, common_steps)

  pub ends_read : (n : ℕ) (b v : Bool) (xs ys : List (Entry T)) → b ≡ ends_at n (reverse xs) → xs ≡ ys → b ≡ v
      → ends_at n (reverse ys) ≡ v
  ends_read n b v xs ys is same holds = sym (is ∙ ap (λ zs. ends_at n (reverse zs)) same) ∙ holds

  pub cut_nested : (n : ℕ) (e : Entry T) (es es' : List (Entry T)) → es' ≡ e ∷ es → IsNested n es' → IsNested n es
  cut_nested n e es es' is nested = grind (arith, common_steps, nested_more)

  -- what is left is of the blocks around
  pub left_nested : (n : ℕ) (es : List (Entry T)) → IsNested (n + 1) es → ends_at n es ≡ false → IsNested n es
  left_nested n [] nested ended = tt
  left_nested n (e ∷ es) nested ended = grind (arith, common_steps)

module _ {S T : Type 0} where
  pub opened_indexed : (n : ℕ) (m : HashMap (Bor (List ℕ)) (Placed T) S) (es : List (Entry T)) → IsNested n es
      → IsIndexed n m es → IsIndexed (n + 1) m es
  opened_indexed n m es nested indexed = grind (arith, common_steps, nearest_opened)

  pub left_indexed : (n : ℕ) (m : HashMap (Bor (List ℕ)) (Placed T) S) (es : List (Entry T)) → IsNested n es
      → IsIndexed (n + 1) m es → IsIndexed n m es
  left_indexed n m es nested indexed = grind (arith, common_steps, nearest_opened)

  pub put_indexed : (m m' : HashMap (Bor (List ℕ)) (Placed T) S) (e : Entry T) (es es' : List (Entry T))
      → IsIndexed (e.placed.level + 1) m es → e.hidden ≡ index_of m e.word.now → es' ≡ e ∷ es →
      ((w : List ℕ) → index_of m' w ≡ update bytes_eq (index_of m) e.word.now (Some e.placed) w)
      → IsIndexed (e.placed.level + 1) m' es'
  put_indexed m m' e es es' indexed hidden grown updated = grind (arith, common_steps, nearest_put)

  pub has_index : (n : ℕ) (m : HashMap (Bor (List ℕ)) (Placed T) S) (e : Entry T) (es es' : List (Entry T))
      → IsIndexed (n + 1) m es' → es' ≡ e ∷ es → e.placed.level ≡ n → IsSome (index_of m e.word.now)
  has_index n m e es es' indexed is level = grind (arith, common_steps, nearest_put, bytes_eq-Decides)

  pub cut_indexed : (n : ℕ) (m m' : HashMap (Bor (List ℕ)) (Placed T) S) (e : Entry T) (es es' : List (Entry T))
      → IsIndexed (n + 1) m es' → es' ≡ e ∷ es → e.placed.level ≡ n →
      ((w : List ℕ) → index_of m' w ≡ update bytes_eq (index_of m) e.word.now e.hidden w) → IsIndexed (n + 1) m' es
  cut_indexed n m m' e es es' indexed is level updated =
      grind (arith, common_steps, bytes_eq, nearest_put, bytes_eq-Decides)

  -- what the map says of a word
  pub found_read : (n : ℕ) (m : HashMap (Bor (List ℕ)) (Placed T) S) (es : List (Entry T))
      (stack : List (List (List ℕ × T))) (w : List ℕ) (o : Option (Placed T)) → IsTable n m es → blocks n es ≡ stack
      → o ≡ index_of m w
      → found_in 0 (blocks_of stack) w ≡ option_map (λ x. found_at (n - (x.level + 1)) x.meaning) o
  found_read n m es stack w o table view is =
      rw (← view, is, table.indexed.nearest_of w) (found_is 0 n (blocks_of (blocks n es)) w
      (omega (arith, names_length n es)))

  -- it is of an open block
  pub read_level : (n : ℕ) (m : HashMap (Bor (List ℕ)) (Placed T) S) (es : List (Entry T)) (w : List ℕ) (x : Placed T)
      → IsTable n m es → index_of m w ≡ Some x → x.level < n
  read_level n m es w x table is = grind (arith, common_steps, level_below, blocks_length)

-- what a call says, where it can't have failed
pub unless_absent : {X Y A P : Type 0} (r : Result X Y) (o : Option A) → OnOk r P → OnErr r (o ≡ None) → IsSome o → P
unless_absent (Ok x) o ok err some = ok
unless_absent (Err y) o ok err some = let absent : o ≡ None = err in absurd (both_ways _ (ap is_some absent) some)
