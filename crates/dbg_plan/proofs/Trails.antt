-- Lemmas on trails.
use Rattle.std.proofs.Common.{◌≡◌, ℕ, suc, ◌+◌, ◌-◌, ◌*◌, ◌<◌, ◌≤◌, max, nat_le, Bool, true, false, List, [], ◌∷◌, ◌++◌, length, take, drop, slice_get, Option, Some, None, refl, sym, ap, ◌∙◌, subst, arith, length-append, append_assoc}
use Rattle.std.specs.Prelude.{filter, reverse, MatchOption}
use Rattle.std.specs.List.{find}
use Rattle.std.specs.Option.{option_or}
use Rattle.std.proofs.lemmas.Bool.{le-leb, lt-leb, leb-true, cond-true, cond-false}
use Rattle.std.proofs.lemmas.Bool.Decides.{leb_tells}
use Rattle.std.proofs.lemmas.List.{map-append, length-map}
use Rattle.std.proofs.lemmas.List.Folds.{find-append}
use mathlib.Core.List.{reverse-cons}
use Rattle.pl0_unit.specs.declared.unit.Unit.{Unit as Compiled}
use Rattle.pl0_machine.specs.Machine.{Standing}
use Rattle.dbg_plan.specs.Trail.{Trail, greatest, asks, at_odd_places, thinned, with_room, lengthened, kept_at, floor_of, AreAbove, TrailsAreShort, TrailsAscend}
use Rattle.dbg_plan.specs.Kept.{positions, trail_at, AreOf}
use Rattle.std.proofs.lemmas.Grind.{common_steps}

-- ---- ascending positions

weaker : (a b : ℕ) (ks : List ℕ) → a ≤ b → AreAbove b ks → AreAbove a ks
weaker a b [] le h = tt
weaker a b (k ∷ ks) le h = (omega (arith, h.0), h.1)

-- there is none greater than the greatest
pub above_greatest : (a n : ℕ) (ks : List ℕ) → AreAbove a ks → a < n → greatest ks < n → AreAbove a (ks ++ n ∷ [])
above_greatest a n [] h lt most = (lt, tt)
above_greatest a n (k ∷ ks) h lt most = (h.0, above_greatest k n ks h.1 (omega (arith, most)) (omega (arith, most)))

-- without any, the greatest is 0; else it is above what they are above
greatest_above : (a k : ℕ) (ks : List ℕ) → AreAbove a (k ∷ ks) → a < greatest (k ∷ ks)
greatest_above a k ks h = let here = h.0 in omega arith

-- the last of them is the greatest
pub last_is : (a : ℕ) (cs : List Standing) (c : Standing) → AreAbove a (positions cs)
    → slice_get cs (length cs - 1) ≡ Some c → greatest (positions cs) ≡ c.position
last_is a [] c h e = cc
last_is a (b ∷ []) c h e = grind (arith, common_steps)
last_is a (b ∷ d ∷ cs) c h e =
    let same : length (b ∷ d ∷ cs) - 1 ≡ suc (length (d ∷ cs) - 1) = omega arith in
    let rest = last_is b.position (d ∷ cs) c h.1 (subst (λ n. slice_get (b ∷ d ∷ cs) n ≡ Some c) same e) in
    grind (arith, common_steps, greatest_above)

-- ---- every other one

pub odd_positions : (cs : List Standing) → positions (at_odd_places cs) ≡ at_odd_places (positions cs)
odd_positions [] = refl
odd_positions (c ∷ []) = refl
odd_positions (c ∷ d ∷ cs) = ap (λ l. c.position ∷ l) (odd_positions cs)

pub odd_above : (a : ℕ) (ks : List ℕ) → AreAbove a ks → AreAbove a (at_odd_places ks)
odd_above a [] h = tt
odd_above a (k ∷ []) h = h
odd_above a (k ∷ j ∷ ks) h = (h.0, odd_above k ks (weaker k j ks (omega (arith, h.1.0)) h.1.1))

pub odd_all : (u : Compiled) (cs : List Standing) → AreOf u cs → AreOf u (at_odd_places cs)
odd_all u [] h = tt
odd_all u (c ∷ []) h = h
odd_all u (c ∷ d ∷ cs) h = (h.0, odd_all u cs h.1.1)

pub odd_half : (ks : List ℕ) → 2 * length (at_odd_places ks) ≤ length ks + 1
odd_half [] = omega arith
odd_half (k ∷ []) = omega arith
odd_half (k ∷ j ∷ ks) = omega (arith, odd_half ks)

-- The first places of a list are thinned, and the rest isn't yet.
pub record Thinning (old new : List Standing) (place : ℕ) : Type 0 where
  pub done : List Standing
  pub rest : List Standing
  pub is : new ≡ done ++ rest
  pub all : at_odd_places old ≡ done ++ at_odd_places rest
  pub so_far : length done ≡ place
  pub left : length rest + 2 * place ≡ length old

take_first : (done rest : List Standing) (c : Standing) → take (length done + 1) (done ++ c ∷ rest) ≡ done ++ c ∷ []
take_first [] rest c = refl
take_first (d ∷ done) rest c = grind (arith, common_steps, length, take, take_first done rest c)

drop_two : (done rest : List Standing) (b c : Standing) → drop (length done + 2) (done ++ b ∷ c ∷ rest) ≡ rest
drop_two [] rest b c = refl
drop_two (d ∷ done) rest b c = grind (arith, common_steps, length, drop, drop_two done rest b c)

-- one more is given up
pub thins : (old now next : List Standing) (place : ℕ) → Thinning old now place → 2 * place + 2 ≤ length old
    → next ≡ take (place + 1) now ++ drop (place + 1 + 1) now → Thinning old next (place + 1)
thins old now next place t more removed = by_rest t.rest t.is t.all t.left
  where
    by_rest : (rest : List Standing) → now ≡ t.done ++ rest → at_odd_places old ≡ t.done ++ at_odd_places rest
        → length rest + 2 * place ≡ length old → Thinning old next (place + 1)
    by_rest [] is all left = absurd (omega (arith, left))
    by_rest (b ∷ []) is all left = absurd (omega (arith, left))
    by_rest (b ∷ c ∷ rest) is all left =
        let n = t.so_far in
        let first : take (place + 1) now ≡ t.done ++ b ∷ [] = ap (λ l. take (place + 1) l) is ∙ ap (λ k. take (k + 1)
        (t.done ++ b ∷ c ∷ rest)) (sym n) ∙ take_first t.done (c ∷ rest) b in
        let two : place + 1 + 1 ≡ place + 2 = omega arith in
        grind (arith, common_steps, drop, drop_two, append_assoc, length-append)

-- ---- the rule

pub none_asked : (trail : Trail) (n : ℕ) → asks trail n ≡ false → kept_at trail n ≡ trail
none_asked trail n e = cond-false (asks trail n) (lengthened (with_room trail) n) trail e

pub one_asked : (trail : Trail) (n : ℕ) → asks trail n ≡ true → kept_at trail n ≡ lengthened (with_room trail) n
one_asked trail n e = cond-true (asks trail n) (lengthened (with_room trail) n) trail e

pub one_kept : (trail : Trail) (n : ℕ) → asks trail n ≡ true → lengthened trail n ≡ record trail
    { kept = trail.kept ++ n ∷ [] }
one_kept trail n e = cond-true (asks trail n) (record trail { kept = trail.kept ++ n ∷ [] }) trail e

pub none_kept : (trail : Trail) (n : ℕ) → asks trail n ≡ false → lengthened trail n ≡ trail
none_kept trail n e = cond-false (asks trail n) (record trail { kept = trail.kept ++ n ∷ [] }) trail e

pub has_room : (trail : Trail) → length trail.kept < 64 → with_room trail ≡ trail
has_room trail lt = cond-false (nat_le 64 (length trail.kept)) (thinned trail) trail (lt-leb 64 (length trail.kept) lt)

pub lacks_room : (trail : Trail) → 64 ≤ length trail.kept → with_room trail ≡ thinned trail
lacks_room trail le = cond-true (nat_le 64 (length trail.kept)) (thinned trail) trail (le-leb 64 (length trail.kept) le)

-- where as many are kept as may be, every other one is given up
pub makes_room : (cs : List Standing) (spacing : ℕ) → 64 ≤ length cs
    → trail_at (at_odd_places cs) (spacing * 2) ≡ with_room (trail_at cs spacing)
makes_room cs spacing many = grind (arith, common_steps, length, length-map, odd_positions, lacks_room)

pub odd_room : (cs : List Standing) → length cs ≤ 64 → length (at_odd_places cs) < 64
odd_room cs few =
    let half = odd_half (positions cs) in
    omega (
      arith,
      ap length (odd_positions cs),
      length-map (at_odd_places cs) (λ (c : Standing). c.position),
      length-map
          cs (λ (c : Standing). c.position),
    )

pub odd_ascending : (cs : List Standing) → AreAbove 0 (positions cs) → AreAbove 0 (positions (at_odd_places cs))
odd_ascending cs h = subst (λ l. AreAbove 0 l) (sym (odd_positions cs)) (odd_above 0 (positions cs) h)

-- ---- what the rule gives

-- where one is asked for, the position is past the greatest kept, by the spacing
pub asked : (trail : Trail) (n : ℕ) → asks trail n ≡ true → greatest trail.kept + trail.spacing ≤ n
asked trail n e = leb-true (greatest trail.kept + trail.spacing) n e

pub pushed_above : (cs : List Standing) (c : Standing) (spacing : ℕ) → AreAbove 0 (positions cs) → 0 < spacing
    → greatest (positions cs) + spacing ≤ c.position → AreAbove 0 (positions (cs ++ c ∷ []))
pushed_above cs c spacing h apart past = grind (arith, common_steps, map-append, above_greatest)

pub pushed_of : (u : Compiled) (cs : List Standing) (c : Standing) → AreOf u cs → c.unit ≡ u → AreOf u (cs ++ c ∷ [])
pushed_of u [] c h e = (e, tt)
pushed_of u (b ∷ cs) c h e = (h.0, pushed_of u cs c h.1 e)

-- ---- the floor

-- a checkpoint that was found is one of those that are there, and is above what these are above
pub record IsFloor (a n : ℕ) (cs : List Standing) (c : Standing) : Type 0 where
  pub is : c.position ≡ floor_of (positions cs) n
  pub above : a < c.position
  pub within : c.position ≤ n
  pub of : (u : Compiled) → AreOf u cs → c.unit ≡ u

abbrev until : ℕ → Standing → Bool
until n c = nat_le c.position n

-- one more in front
longer : (n : ℕ) (b : Standing) (cs : List Standing) → find (until n) (reverse (b ∷ cs)) ≡ option_or
    (find (until n) (reverse cs)) (find (until n) (b ∷ []))
longer n b cs = cc (reverse-cons b cs, find-append (until n) (reverse cs) (b ∷ []))

floor_more : (n k : ℕ) (ks : List ℕ) → k ≤ n → floor_of (k ∷ ks) n ≡ max k (floor_of ks n)
floor_more n k ks le = cc (cond-true _ (k ∷ filter (λ j. nat_le j n) ks) (filter (λ j. nat_le j n) ks) (le-leb k n le))

floor_same : (n k : ℕ) (ks : List ℕ) → n < k → floor_of (k ∷ ks) n ≡ floor_of ks n
floor_same n k ks lt = cc (cond-false _ (k ∷ filter (λ j. nat_le j n) ks) (filter (λ j. nat_le j n) ks) (lt-leb k n lt))

-- what is found from the end is the floor
pub floors : (a n : ℕ) (cs : List Standing) → AreAbove a (positions cs)
    → MatchOption (find (until n) (reverse cs)) (floor_of (positions cs) n ≡ 0) (λ c. IsFloor a n cs c)
floors a n [] h = refl
floors a n (b ∷ cs) h = rw (longer n b cs) (by_found (find (until n) (reverse cs)) (floors b.position n cs h.1))
  where
    by_found : (o : Option Standing) → MatchOption o (floor_of (positions cs) n ≡ 0) (λ c. IsFloor b.position n cs c)
        → MatchOption (option_or o (find (until n) (b ∷ []))) (floor_of (positions (b ∷ cs)) n ≡ 0)
        (λ c. IsFloor a n (b ∷ cs) c)
    by_found (Some c) f = grind (arith, common_steps, floor_more)
    by_found None none =
        grind (arith, common_steps, MatchOption, cond-true, floor_more, cond-false, floor_same, leb_tells)

pub floor_within : (n : ℕ) (ks : List ℕ) → floor_of ks n ≤ n
floor_within n [] = omega arith
floor_within n (k ∷ ks) = grind (arith, common_steps, floor_within n ks, floor_more, floor_same, leb_tells)

-- ---- the laws

-- what is kept where there is room, or once there is
lengthened_short : (trail : Trail) (n : ℕ) → length trail.kept < 64 → length (lengthened trail n).kept ≤ 64
lengthened_short trail n few = grind (arith, common_steps, asks, length, true, length-append, false)

roomy_short : (trail : Trail) → length trail.kept ≤ 64 → length (with_room trail).kept < 64
roomy_short trail few = grind (arith, common_steps, length, lacks_room, odd_half, has_room, leb_tells)

pub trails_are_short : TrailsAreShort
trails_are_short trail n few = grind (arith, common_steps, asks, length, true, lengthened_short, roomy_short, false)

record Ascends (trail : Trail) : Type 0 where
  apart : 0 < trail.spacing
  above : AreAbove 0 trail.kept

roomy_ascends : (trail : Trail) → Ascends trail → Ascends (with_room trail)
roomy_ascends trail a = grind (arith, common_steps, lacks_room, odd_above, has_room, leb_tells, length)

lengthened_ascends : (trail : Trail) (n : ℕ) → Ascends trail → Ascends (lengthened trail n)
lengthened_ascends trail n a = grind (arith, common_steps, one_kept, above_greatest, none_kept, leb_tells)

pub trails_ascend : TrailsAscend
trails_ascend trail n apart h =
    grind (arith, common_steps, kept_at, one_asked, lengthened_ascends, roomy_ascends, none_asked, leb_tells)
