-- A text reads as one list of parts.
use Rattle.dap_history.proofs.Common.{AtMostOne, Expression, [], ap, refl, subst, sym, ℕ, ◌++◌, ◌∙◌, ◌∷◌, ◌≡◌, ◌≢◌}
use Rattle.std.proofs.Common.{List, arith}
use Rattle.std.proofs.lemmas.List.Elements.{All-head, All-tail}
use Rattle.dbg_plan.specs.Messages.{Part, Text, Value, Lacks, ReadsParts}
use Rattle.std.proofs.lemmas.Grind.{common_steps}

abbrev head_of : List ℕ → ℕ
head_of [] = 0
head_of (x ∷ xs) = x

abbrev tail_of : List ℕ → List ℕ
tail_of [] = []
tail_of (x ∷ xs) = xs

lacks_first : (b x : ℕ) (xs : List ℕ) → Lacks b (x ∷ xs) → x ≢ b
lacks_first b x xs lacks = All-head (λ c. c ≢ b) x xs lacks

lacks_rest : (b x : ℕ) (xs : List ℕ) → Lacks b (x ∷ xs) → Lacks b xs
lacks_rest b x xs lacks = All-tail (λ c. c ≢ b) x xs lacks

-- what stands before a byte for the first time, and after it
first_split : (b : ℕ) (xs ys r s : List ℕ) → Lacks b xs → Lacks b ys → xs ++ b ∷ r ≡ ys ++ b ∷ s → (xs ≡ ys) × (r ≡ s)
first_split b [] [] r s here there is = (refl, ap tail_of is)
first_split b [] (y ∷ ys) r s here there is = absurd (lacks_first b y ys there (sym (ap head_of is)))
first_split b (x ∷ xs) [] r s here there is = absurd (lacks_first b x xs here (ap head_of is))
first_split b (x ∷ xs) (y ∷ ys) r s here there is =
    let rest = first_split b xs ys r s (lacks_rest b x xs here) (lacks_rest b y ys there) (ap tail_of is) in
    (ap (λ z. z ∷ xs) (ap head_of is) ∙ ap (λ zs. y ∷ zs) rest.0, rest.1)

not_among : (b : ℕ) (xs r : List ℕ) → ¬ Lacks b (xs ++ b ∷ r)
not_among b [] r lacks = lacks_first b b r lacks refl
not_among b (x ∷ xs) r lacks = not_among b xs r (lacks_rest b x (xs ++ b ∷ r) lacks)

module _ (Is : List ℕ → Expression → Type 0) (one : (text : List ℕ) → AtMostOne (Is text)) where
  pub one_parts : (text : List ℕ) (ps qs : List Part) → ReadsParts Is text ps → ReadsParts Is text qs → ps ≡ qs
  one_parts text (Text t ∷ Value e ∷ ps) (Text u ∷ Value f ∷ qs) a b =
      let front = first_split 123 t u (a.0 ++ 125 ∷ a.1) (b.0 ++ 125 ∷ b.1) a.3 b.3 (sym a.2 ∙ b.2) in
      let closed = first_split 125 a.0 b.0 a.1 b.1 a.4 b.4 front.1 in
      let value = one b.0 e f (subst (λ x. Is x e) closed.0 a.5) b.5 in
      let more = one_parts b.1 ps qs (subst (λ x. ReadsParts Is x ps) closed.1 a.6) b.6 in
      cc front.0
  one_parts text ps qs a b = grind (arith, common_steps, not_among) steps 200000
