-- Elements of a list after which a function gives nothing more.
use Rattle.dap_history.proofs.Common.{Option, [], ap, filter_map, filter_map-append, sym, ◌++◌, ◌∙◌, ◌∷◌, ◌≡◌, subst}
use Rattle.std.proofs.Common.{List}

none_in_both : {B : Type 0} (xs ys : List B) → xs ++ ys ≡ [] → ys ≡ []
none_in_both [] ys is = is
none_in_both (x ∷ xs) ys is = absurd cc

module _ (A B : Type 0) (P : A → Type 0) (f : A → Option B) where
  -- after an element of this kind f gives nothing
  abbrev pub NoneAfter : List A → Type 0
  NoneAfter [] = Unit {0}
  NoneAfter (x ∷ xs) = (P x → filter_map f xs ≡ []) × NoneAfter xs

  -- so what it gives before such an element is all
  pub all_before : (xs before : List A) (x : A) (after : List A) → P x → filter_map f (x ∷ []) ≡ [] → NoneAfter xs
      → xs ≡ before ++ x ∷ after → filter_map f before ≡ filter_map f xs
  all_before [] [] x after kind none quiet is = absurd cc
  all_before [] (b ∷ before) x after kind none quiet is = absurd cc
  all_before (y ∷ xs) [] x after kind none quiet is =
      sym
      (filter_map-append f (y ∷ []) xs
      ∙ ap (λ z. filter_map f (z ∷ []) ++ filter_map f xs) same
      ∙ ap (λ l. l ++ filter_map f xs) none
      ∙ quiet.0 (subst P (sym same) kind))
    where
      same : y ≡ x
      same = cc
  all_before (y ∷ xs) (b ∷ before) x after kind none quiet is =
      filter_map-append f (b ∷ []) before
      ∙ ap (λ l. filter_map f (b ∷ []) ++ l) (all_before xs before x after kind none quiet.1 rest)
      ∙ ap (λ z. filter_map f (z ∷ []) ++ filter_map f xs) (sym same)
      ∙ sym (filter_map-append f (y ∷ []) xs)
    where
      same : y ≡ b
      same = cc

      rest : xs ≡ before ++ x ∷ after
      rest = cc

  -- where it gives nothing at all
  pub none_quiet : (xs : List A) → filter_map f xs ≡ [] → NoneAfter xs
  none_quiet [] is = tt
  none_quiet (x ∷ xs) is =
      let rest = none_in_both (filter_map f (x ∷ [])) (filter_map f xs) (sym (filter_map-append f (x ∷ []) xs) ∙ is) in
      ((λ kind. rest), none_quiet xs rest)
