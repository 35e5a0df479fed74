-- What is shown of a list, by its plain elements.
use Rattle.std.proofs.Common.{◌≡◌, List, [], ◌∷◌, map, refl, ap, ◌∙◌}
use Rattle.serde_json.specs.Data.{Data}
use Rattle.dap_bodies.specs.Sizes.{shown_list}

each_shown : {A B : Type 0} (f : B → Data) (g : A → B) (xs : List A) → map (λ x. f (g x)) xs ≡ map f (map g xs)
each_shown f g [] = refl
each_shown f g (x ∷ xs) = ap (λ l. f (g x) ∷ l) (each_shown f g xs)

pub all_shown : {A B : Type 0} (f : B → Data) (g : A → B) (xs : List A) (d : Data)
    → d ≡ shown_list (map (λ x. f (g x)) xs) → d ≡ shown_list (map f (map g xs))
all_shown f g xs d is = is ∙ ap shown_list (each_shown f g xs)
