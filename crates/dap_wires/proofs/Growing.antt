-- Lists that grow at their end.
use Rattle.std.proofs.Common.{◌≡◌, List, [], ◌∷◌, ◌++◌, ◌∙◌, ap, append_assoc}

-- one more, after some
pub one_more : {A : Type 0} (old mid new more : List A) (x : A) → mid ≡ old ++ more → new ≡ mid ++ x ∷ [] → new ≡ old
    ++ (more ++ x ∷ [])
one_more old mid new more x before now = now ∙ ap (λ l. l ++ x ∷ []) before ∙ append_assoc old more (x ∷ [])
