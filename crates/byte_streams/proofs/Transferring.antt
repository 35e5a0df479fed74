-- What was written of some bytes so far.
use Rattle.std.proofs.Common.{◌≡◌, ◌<◌, ◌+◌, ℕ, List, ◌++◌, sym, ◌∙◌, ap, append_assoc, append-nil, take, drop, length, get_or, arith}
use Rattle.std.specs.Prelude.{map}
use Rattle.std.specs.List.{concat}
use Rattle.std.proofs.lemmas.List.{take-append-drop, map-append}
use Rattle.std.proofs.lemmas.List.Folds.{concat-append}
use Rattle.byte_streams.specs.Streams.{StreamLog, Appends, AppendsPart}
use Rattle.byte_streams.proofs.Appending.{appends_both}
use Rattle.std.proofs.lemmas.Grind.{common_steps}

-- the front of these bytes was written, and this rest is left
pub record Partly (whole rest : List ℕ) (old later : StreamLog) : Type 0 where
  pub front : List ℕ
  pub whole_is : whole ≡ front ++ rest
  pub written : Appends old later front

pub partly_goes_on : (whole rest shorter : List ℕ) (old mid later : StreamLog) (n : ℕ) → Partly whole rest old mid
    → Appends mid later (take n rest) → shorter ≡ drop n rest → Partly whole shorter old later
partly_goes_on whole rest shorter old mid later n p wrote shorter_is =
    grind (arith, common_steps, take-append-drop, append_assoc, appends_both)

-- one frame more after those before
pub part_of_more : (old mid later : StreamLog) (before bytes behind : List ℕ) → Appends old mid before
    → AppendsPart mid later bytes → AppendsPart old later (before ++ (bytes ++ behind))
part_of_more old mid later before bytes behind wrote part = (
  before ++ part.0,
  appends_both old mid later before part.0 wrote part.1,
  (
    part.2.0 ++ behind,
    cc (append_assoc before part.0 (part.2.0 ++ behind), append_assoc part.0 part.2.0 behind, part.2.1),
  ),
)

-- ---- frames, one after another

concat_map-append : {A : Type 0} (f : A → List ℕ) (xs ys : List A) → concat (map f (xs ++ ys)) ≡ concat (map f xs)
    ++ concat (map f ys)
concat_map-append f xs ys = ap concat (map-append f xs ys) ∙ concat-append (map f xs) (map f ys)

pub concat_map-next : {A : Type 0} (f : A → List ℕ) (xs : List A) (i : ℕ) (x : A) → i < length xs → x ≡ get_or xs i x
    → concat (map f (take (i + 1) xs)) ≡ concat (map f (take i xs)) ++ f x
concat_map-next f xs i x within is = grind (arith, common_steps, concat_map-append, append-nil)

-- the frame at i was written in part
pub frames_stop : {A : Type 0} (f : A → List ℕ) (xs : List A) (i : ℕ) (x : A) (old mid later : StreamLog)
    → i < length xs → x ≡ get_or xs i x
    → Appends old mid (concat (map f (take i xs))) → AppendsPart mid later (f x)
    → AppendsPart old later (concat (map f xs))
frames_stop f xs i x old mid later within is wrote part = rw whole (part_of_more old mid later _ (f x) _ wrote part)
  where
    whole : concat (map f xs) ≡ concat (map f (take i xs)) ++ (f x ++ concat (map f (drop (i + 1) xs)))
    whole =
        ap (λ l. concat (map f l)) (sym (take-append-drop _ xs)) ∙ concat_map-append f _ _ ∙ ap (λ l. l ++ concat (map f
        (drop (i + 1) xs))) (concat_map-next f xs i x within is) ∙ append_assoc _ (f x) _

pub frames_go_on : {A : Type 0} (f : A → List ℕ) (xs : List A) (i : ℕ) (x : A) (old mid later : StreamLog)
    → i < length xs → x ≡ get_or xs i x
    → Appends old mid (concat (map f (take i xs))) → Appends mid later (f x)
    → Appends old later (concat (map f (take (i + 1) xs)))
frames_go_on f xs i x old mid later within is wrote more =
    rw (concat_map-next f xs i x within is) (appends_both old mid later (concat (map f (take i xs))) (f x) wrote more)
