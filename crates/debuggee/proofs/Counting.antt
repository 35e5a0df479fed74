-- What is due where a program comes to, of one breakpoint and of all.
use Rattle.std.proofs.Common.{◌≡◌, ◌≤◌, ◌<◌, ◌||◌, ℕ, ◌+◌, Bool, true, false, ◌&&◌, List, [], ◌∷◌, ◌++◌, ◌∙◌, refl, sym, map, take, drop, length, get_or, slice_set, arith, append_assoc, append-nil}
use Rattle.std.specs.Prelude.{is_none}
use Rattle.std.specs.List.{flat_map, list_any}
use Rattle.std.proofs.lemmas.List.{take_all, take_more, drop_all, drop_more, map_more, length-map, length-take, get_or_at, flat_map_more}
use Rattle.std.proofs.lemmas.List.Edits.{map_over_more}
use Rattle.std.proofs.lemmas.List.Folds.{list_any_more}
use Rattle.debuggee.specs.Plain.{PlainBreakpoint, PlainOutput}
use Rattle.debuggee.specs.Due.{Sight, arrives, counted, log_of, logs, stops}
use Rattle.debuggee.specs.Runs.{ArrivesAt, ArrivesAll}
use Rattle.std.proofs.lemmas.Grind.{common_steps}

false_last : (v : Bool) → (v && false) ≡ false
false_last true = refl
false_last false = refl

false_or : (v : Bool) → (v || false) ≡ v
false_or true = refl
false_or false = refl

-- what a loop that writes f x over each element x reads is the old element
pub read_over : {X : Type 0} (f : X → X) (xs ys : List X) (i : ℕ) (x : X) → i < length xs
    → ys ≡ map f (take i xs) ++ drop i xs → x ≡ get_or ys i x → x ≡ get_or xs i x
read_over f xs ys i x lt h is =
    let front = map f (take i xs) in
    let long : length front ≡ i = length-map (take i xs) f ∙ omega (arith, length-take i xs) in
    grind (arith, common_steps, drop_more, get_or_at)

-- one more element's texts are added
pub flat_map_snoc : {X A : Type 0} (f : X → List A) (xs : List X) (i : ℕ) (x : X) (old now new : List A) → i < length xs
    → x ≡ get_or xs i x → now ≡ old ++ flat_map f (take i xs) → new ≡ now ++ f x
    → new ≡ old ++ flat_map f (take (i + 1) xs)
flat_map_snoc f xs i x old now new lt is so more = cc (flat_map_more f old (take i xs) x, take_more xs i x lt)

-- ---- arrivals at breakpoints, one after another

-- the program has arrived at the first i breakpoints
pub record Through {S : Type 0} (see : Sight S) (s : S) (old : List PlainBreakpoint) (i : ℕ) (stop : Bool)
    (now : List PlainBreakpoint) (before after : List PlainOutput) : Type 0 where
  pub written : now ≡ map (counted see s) (take i old) ++ drop i old
  pub stopped : stop ≡ list_any (stops see s) (take i old)
  pub added : after ≡ before ++ logs see s (take i old)

module _ {S : Type 0} (see : Sight S) (s : S) (old : List PlainBreakpoint) (i : ℕ) (inside : i < length old) where
  -- and at one more
  pub through_more : (stop here : Bool) (now : List PlainBreakpoint) (x y : PlainBreakpoint)
      (before between after : List PlainOutput) → Through see s old i stop now before between → x ≡ get_or now i x
      → ArrivesAt see s x here y between after
      → Through see s old (i + 1) (stop || here) (slice_set now i y) before after
  through_more stop here now x y before between after so is came =
      let read = read_over (counted see s) old now i x inside so.written is in
      record {
        written = cc (came.1, map_over_more (counted see s) old now i x inside so.written is);
        stopped = cc (so.stopped, came.0, list_any_more (stops see s) old i x inside);
        added = flat_map_snoc (log_of see s) old i x before between after inside read so.added came.2;
      }

  -- and at one more, where it does not arrive
  pub through_other : (stop : Bool) (now : List PlainBreakpoint) (x : PlainBreakpoint) (before after : List PlainOutput)
      → Through see s old i stop now before after → arrives see s (get_or old i x) ≡ false
      → Through see s old (i + 1) stop now before after
  through_other stop now x before after so never =
      let b = get_or old i x in
      let front = map (counted see s) (take i old) in
      let same : counted see s b ≡ b = cc in
      let silent : log_of see s b ≡ [] = cc in
      let passes : stops see s b ≡ false = cc (false_last (is_none b.message)) in
      record {
        written = cc (
          so.written,
          drop_more old i x inside,
          append_assoc front (b ∷ []) (drop (i + 1) old),
          map_more (counted see s) old i x inside,
        );
        stopped = cc (so.stopped, false_or _, list_any_more (stops see s) old i x inside);
        added =
            cc (so.added, append-nil _, flat_map_more (log_of see s) before (take i old) b, take_more old i x inside);
      }

module _ {S : Type 0} (see : Sight S) (s : S) (old : List PlainBreakpoint) where
  -- at none yet, and at all
  pub through_none : (before : List PlainOutput) → Through see s old 0 false old before before
  through_none before = record { written = refl; stopped = refl; added = sym (append-nil before) }

  pub through_all : (i : ℕ) (stop : Bool) (now : List PlainBreakpoint) (before after : List PlainOutput)
      → length old ≤ i → Through see s old i stop now before after → ArrivesAll see s old stop now before after
  through_all i stop now before after end so = grind (arith, common_steps, take_all, drop_all, append-nil)
