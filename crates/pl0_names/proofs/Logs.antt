-- What the log of declarations says of words and of blocks.
use Rattle.pl0_names.proofs.Common.{[], add-one, ap, arith, at_level, blocks_of, bytes_eq, bytes_eq-Decides, cond, declared_in, eqb-true, false, found_at, found_in, is_at, IsNested, length, List, names, nat_eq, nearest, None, Option, option_map, option_or, placed_at, placed_in, refl, reverse, reverse-append, Some, suc, sym, true, zero, ℕ, ◌++◌, ◌+◌, ◌-◌, ◌<◌, ◌∙◌, ◌∷◌, ◌≡◌, ◌≤◌}
use Rattle.std.proofs.lemmas.Grind.{common_steps}
use Rattle.pl0_names.specs.Blocks as scope
use Rattle.pl0_names.specs.declared.log.Entry.{Entry}
use Rattle.pl0_names.specs.declared.log.Placed.{Placed}
use Rattle.pl0_names.specs.Logs.{blocks}

-- ---- levels

same_level : (a b : ℕ) → a ≡ b → nat_eq a b ≡ true
same_level a b e = grind (arith, common_steps)

other_level : (a b : ℕ) → (a ≡ b → ⊥) → nat_eq a b ≡ false
other_level a b e = grind (arith, common_steps)

-- the latest of a log is the last that was put
pub latest_first : {A : Type 0} (xs : List A) (x : A) (ys : List A) → ys ≡ xs ++ x ∷ [] → reverse ys ≡ x ∷ reverse xs
latest_first xs x ys is = ap reverse is ∙ reverse-append xs (x ∷ [])

module _ {T : Type 0} where
  pub nested_more : (n m : ℕ) (es : List (Entry T)) → n ≤ m → IsNested n es → IsNested m es
  nested_more n m [] le nested = tt
  nested_more n m (e ∷ es) le nested = let first : e.placed.level < n = nested.0 in (omega arith, nested.1)

  at_here : (m : ℕ) (e : Entry T) (es : List (Entry T)) → e.placed.level ≡ m
      → at_level m (e ∷ es) ≡ (e.word.now, e.placed.meaning) ∷ at_level m es
  at_here m e es is = grind (arith, common_steps, same_level)

  at_other : (m : ℕ) (e : Entry T) (es : List (Entry T)) → (e.placed.level ≡ m → ⊥)
      → at_level m (e ∷ es) ≡ at_level m es
  at_other m e es not = grind (arith, common_steps, other_level)

  -- no declaration is of a block that is not open
  pub none_at : (n m : ℕ) (es : List (Entry T)) → n ≤ m → IsNested n es → at_level m es ≡ []
  none_at n m [] le nested = refl
  none_at n m (e ∷ es) le nested =
      grind (arith, common_steps, none_at (e.placed.level + 1) m es (omega arith) nested.1, at_other)

  -- a declaration is none of the blocks around its own
  pub outer_same : (m : ℕ) (e : Entry T) (es : List (Entry T)) → m ≤ e.placed.level → blocks m (e ∷ es) ≡ blocks m es
  outer_same zero e es le = refl
  outer_same (suc m) e es le = grind (arith, common_steps, outer_same m e es (omega arith), at_other)

  pub blocks_length : (n : ℕ) (es : List (Entry T)) → length (blocks n es) ≡ n
  blocks_length zero es = refl
  blocks_length (suc n) es = ap suc (blocks_length n es)

  pub names_length : (n : ℕ) (es : List (Entry T)) → length (blocks_of (blocks n es)) ≡ n
  names_length zero es = refl
  names_length (suc n) es = ap suc (names_length n es)

  -- one more block is open
  pub opened : (n : ℕ) (es : List (Entry T)) → IsNested n es → blocks (n + 1) es ≡ [] ∷ blocks n es
  opened n es nested = grind (arith, common_steps, none_at)

  pub nearest_opened : (n : ℕ) (es : List (Entry T)) (w : List ℕ) → IsNested n es
      → nearest (n + 1) es w ≡ nearest n es w
  nearest_opened n es w nested = grind (arith, common_steps, opened)

  -- ---- words

  -- the block that declares a word is one of those
  pub level_below : (chain : List (scope.Names T)) (w : List ℕ) (x : Placed T) → placed_in chain w ≡ Some x
      → x.level < length chain
  level_below [] w x is = cc
  level_below (head ∷ outer) w x is = at (head w) (level_below outer w x) is
    where
      at : (o : Option T) → (placed_in outer w ≡ Some x → x.level < length outer)
          → option_or (option_map (placed_at (length outer)) o) (placed_in outer w) ≡ Some x
          → x.level < suc (length outer)
      at (Some d) outer_below same = grind (arith, common_steps)
      at None outer_below same = let below = outer_below same in omega arith

  pub found_is : (k n : ℕ) (chain : List (scope.Names T)) (w : List ℕ) → n ≡ k + length chain →
      found_in k chain w ≡ option_map (λ x. found_at (n - (x.level + 1)) x.meaning) (placed_in chain w)
  found_is k n [] w is = refl
  found_is k n (head ∷ outer) w is =
      ap (option_or (option_map (found_at k) (head w))) (found_is (k + 1) n outer w (omega arith))
      ∙ at (head w) (placed_in outer w)
    where
      at : (o : Option T) (p : Option (Placed T)) →
          option_or (option_map (found_at k) o) (option_map (λ x. found_at (n - (x.level + 1)) x.meaning) p) ≡
          option_map (λ x. found_at (n - (x.level + 1)) x.meaning)
          (option_or (option_map (placed_at (length outer)) o) p)
      at (Some d) p = ap (λ j. Some (found_at j d)) (omega arith)
      at None p = refl

  -- one more declaration is the nearest of its word
  pub nearest_put : (e : Entry T) (es : List (Entry T)) (w : List ℕ) → nearest (e.placed.level + 1) (e ∷ es) w
      ≡ cond (bytes_eq e.word.now w) (Some e.placed) (nearest (e.placed.level + 1) es w)
  nearest_put e es w = grind (arith, common_steps, at_here, outer_same, names_length)

  -- ---- one declaration more

  put_declared : (m : ℕ) (e : Entry T) (es : List (Entry T)) → e.placed.level ≡ m
      → names (at_level m es) e.word.now ≡ None
      → blocks_of (blocks (suc m) (e ∷ es)) ≡ declared_in (blocks_of (blocks (suc m) es)) e.word.now e.placed.meaning
  put_declared m e es level none = grind (arith, common_steps, at_here, outer_same, bytes_eq-Decides)

  stays_declared : (m : ℕ) (es : List (Entry T)) (word : List ℕ) (d x : T) → names (at_level m es) word ≡ Some x
      → blocks_of (blocks (suc m) es) ≡ declared_in (blocks_of (blocks (suc m) es)) word d
  stays_declared m es word d x some = grind (arith, common_steps, bytes_eq-Decides)

  pub declared_new : (n m : ℕ) (e : Entry T) (es es' : List (Entry T)) → n ≡ m + 1 → e.placed.level ≡ m
      → es' ≡ e ∷ es → names (at_level m es) e.word.now ≡ None
      → blocks_of (blocks n es') ≡ declared_in (blocks_of (blocks n es)) e.word.now e.placed.meaning
  declared_new n m e es es' more level is none = grind (arith, common_steps, put_declared)

  -- the innermost block has declared a word that means what it declares
  pub declared_old : (n m : ℕ) (es : List (Entry T)) (word : List ℕ) (d : T) (o : Option (Placed T)) → n ≡ m + 1
      → nearest n es word ≡ o → is_at m o ≡ true
      → blocks_of (blocks n es) ≡ declared_in (blocks_of (blocks n es)) word d
  declared_old n m es word d None more is here = cc
  declared_old n m es word d (Some x) more is here = rw one (at _ refl (rw one at is))
    where
      one : n ≡ suc m
      one = more ∙ add-one m

      at : (o : Option T) → names (at_level m es) word ≡ o
          → option_or (option_map (placed_at (length (blocks_of (blocks m es)))) o) (nearest m es word) ≡ Some x
          → blocks_of (blocks (suc m) es) ≡ declared_in (blocks_of (blocks (suc m) es)) word d
      at (Some y) named same = stays_declared m es word d y named
      at None none same =
          absurd (omega (
            arith,
            level_below (blocks_of (blocks m es)) word x same,
            names_length m es,
            eqb-true x.level m here,
          ))

  -- and no other
  pub not_declared : (n m : ℕ) (es : List (Entry T)) (word : List ℕ) (o : Option (Placed T)) → n ≡ m + 1
      → nearest n es word ≡ o → is_at m o ≡ false → names (at_level m es) word ≡ None
  not_declared n m es word o more is off = at (names (at_level m es) word) refl
    where
      at : (v : Option T) → names (at_level m es) word ≡ v → v ≡ None
      at None none = refl
      at (Some y) named =
          let found : nearest (m + 1) es word ≡ Some (placed_at m y) = grind (arith, common_steps, names_length) in
          let same : o ≡ Some (placed_at m y) = sym is ∙ rw more found in
          absurd (let no_match : true ≡ false = sym (same_level m m refl) ∙ (rw same at off) in cc)
