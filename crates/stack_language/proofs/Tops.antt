-- The top of the stack: the last item of a list, and the first of its reverse.
use Rattle.std.proofs.Common.{◌≡◌, ◌≤◌, ◌-◌, List, [], ◌∷◌, ◌++◌, ◌∙◌, sym, ap, length, drop, arith, length-append, slice_set}
use Rattle.std.specs.Prelude.{reverse}
use Rattle.std.proofs.Math.Seq.{set-append_seam}
use Rattle.std.proofs.lemmas.List.{reverse-append, reverse-reverse, length-reverse}

-- The last item is taken, and the one below it replaced.
pub one_made : {A : Type 0} (items rest : List A) (top x : A) → 2 ≤ length items → items ≡ rest ++ top ∷ []
    → reverse (slice_set rest (length rest - 1) x) ≡ x ∷ drop 2 (reverse items)
one_made {A} items rest top x long is =
    by_reverse (reverse rest) (sym (reverse-reverse rest)) (length-reverse rest)
    ∙ ap (λ l. x ∷ drop 2 l) (sym (ap reverse is ∙ reverse-append rest (top ∷ [])))
  where
    by_reverse : (ys : List A) → rest ≡ reverse ys → length ys ≡ length rest
        → reverse (slice_set rest (length rest - 1) x) ≡ x ∷ drop 2 (top ∷ ys)
    by_reverse [] whole same =
        absurd (omega (arith, long, same, ap length is, length-append rest (top ∷ [])))
    by_reverse (z ∷ below) whole same =
        let front = reverse below in
        let parted : rest ≡ front ++ z ∷ [] = whole ∙ reverse-append (z ∷ []) below in
        let at : length rest - 1 ≡ length front = omega (arith, same, length-reverse below) in
        ap (λ n. reverse (slice_set rest n x)) at ∙ ap (λ l. reverse (slice_set l (length front) x)) parted
        ∙ ap reverse (set-append_seam front z [] x) ∙ reverse-append front (x ∷ [])
        ∙ ap (λ l. x ∷ l) (reverse-reverse below)
